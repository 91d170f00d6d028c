-- The listed actions, by the public calls. Assumes nothing.
use Rattle.std.proofs.lemmas.Option.{same_Some}
use Rattle.std.specs.Prelude.{Some, Ok, Err}
use mathlib.Core.Path.{◌≡◌, refl, sym, ap, ◌∙◌}
use Prim.Native.Nat.{ℕ, ◌≤◌}
use native.Mathlib.Omega.{arith}
use mathlib.Core.Bool.{Bool, true, false, not, ◌&&◌}
use mathlib.Core.List.{List, [], ◌∷◌, map}
use lib.ListN.{length, length-append}
use Rattle.base.specs.Choice.{pick}
use Rattle.base.specs.Lists.{ascii, same, any, all}
use Rattle.base.proofs.Search.{any-map}
use Rattle.base.proofs.Tests.{no, and_both}
use Rattle.fault.specs.declared.Fault.TheVariants.{Missing}
use Rattle.fault.specs.Answer.{Answer, ◌>>=◌, need, then}
use Rattle.fault.proofs.Answers.{bind-given, need-given, given_is, bind-then}
use Rattle.record.specs.Record.{read_list, list_of}
use Rattle.record.proofs.Sizes.{records_of}
use Rattle.record.proofs.Back.{FitsAll, no_record, one_more, fits}
use Rattle.record.proofs.Bodies.{list_back}
use Rattle.line.specs.Form.{plain_form, locale_form}
use Rattle.rows.specs.Rows.{Row, read_rows}
use Rattle.rows.specs.Title.{Title, Group, Key, same_title, has}
use Rattle.wellformed.specs.Check.{check}
use Rattle.wellformed.specs.WellFormed.{distinct}
use Rattle.exec.specs.Expand.{asked_items, name_in, group_arguments}
use Rattle.actions.specs.Actions.{identifiers, action_group, is_action, is_new, listed_from, listed, labelled, actions, expand_action}
use Rattle.actions.proofs.Listing.{not-again}
use Rattle.actions.proofs.Groups.{group-short}
use Rattle.demands.specs.Actions.{Action, bodies, Menu, is_listed, ListReadsBack, ListedCanBeAsked, NoneListedTwice}
use Rattle.demands.proofs.Lengths.{name-in-short, file-short}

-- ---- what is listed

-- all are actions
listed-actions : (rs : List Row) (seen ids : List (List ℕ)) → all (is_action rs) (listed_from rs seen ids) ≡ true
unfolding listed_from all
listed-actions rs seen [] = refl
listed-actions rs seen (id ∷ ids) = go (is_action rs id) (not (any (same id) seen)) refl (listed-actions rs (id ∷ seen) ids)
  where
    go : (a b : Bool) → is_action rs id ≡ a → all (is_action rs) (listed_from rs (id ∷ seen) ids) ≡ true
        → all (is_action rs) (pick (a && b) (id ∷ listed_from rs (id ∷ seen) ids) (listed_from rs (id ∷ seen) ids)) ≡ true
    go true true e h = rw (e, h)
    go true false e h = h
    go false b e h = h

-- no two are the same
listed-distinct : (rs : List Row) (seen ids : List (List ℕ)) → distinct (map Group (listed_from rs seen ids)) ≡ true
unfolding listed_from distinct same_title
listed-distinct rs seen [] = refl
listed-distinct rs seen (id ∷ ids) = go (is_new rs seen id) (listed-distinct rs (id ∷ seen) ids)
  where
    later : List (List ℕ)
    later = listed_from rs (id ∷ seen) ids

    other : any (same_title (Group id)) (map Group later) ≡ false
    other = any-map (same_title (Group id)) Group later ∙ not-again rs seen ids id

    go : (a : Bool) → distinct (map Group later) ≡ true → distinct (map Group (pick a (id ∷ later) later)) ≡ true
    go true h = rw (other, h)
    go false h = h

-- an action's identifier is short, since its group stands in the file
action-short : (file id : List ℕ) → is_action (read_rows file) id ≡ true → length id ≤ length file
unfolding is_action
action-short file id h =
    let g : List ℕ = action_group id in
    let a = (and_both (plain_form id && has (read_rows file) (Group g)) (has (read_rows file) (Key g (ascii "Name"))) h).0 in
    omega (arith, group-short file g (and_both (plain_form id) (has (read_rows file) (Group g)) a).1, length-append (ascii "Desktop Action ") id)

-- ---- with their labels

-- some actions with their labels: their identifiers, and bodies that fit records
record Labelled (ids : List (List ℕ)) (bs : List (List ℕ)) : Type 0 where
  list : List Action
  are : map (λ a. a.id) list ≡ ids
  bodies-are : bodies list ≡ bs
  fit : FitsAll (records_of 2 bs)

module _ (file locale : List ℕ) (h : length file ≤ 32768) where
  labelled-list : (ids : List (List ℕ)) (bs : List (List ℕ)) → all (is_action (read_rows file)) ids ≡ true → labelled (read_rows file) locale ids ≡ Ok bs → Labelled ids bs
  unfolding labelled all bodies
  labelled-list [] bs k e = let z : [] ≡ bs = given_is _ _ e in record { list = []; are = refl; bodies-are = z; fit = rw (← z) no_record }
  labelled-list (id ∷ ids) bs k e =
      let p = and_both (is_action (read_rows file) id) (all (is_action (read_rows file)) ids) k in
      let a = bind-given (name_in (read_rows file) (action_group id) locale) _ bs e in
      let b = bind-given (labelled (read_rows file) locale ids) _ bs a.2 in
      let z : id ∷ a.0 ∷ b.0 ≡ bs = given_is _ _ b.2 in
      let l = labelled-list ids b.0 p.1 b.1 in
      record {
        list = record { id = id; label = a.0 } ∷ l.list;
        are = ap (λ (x : List (List ℕ)). id ∷ x) l.are;
        bodies-are = ap (λ (x : List (List ℕ)). id ∷ a.0 ∷ x) l.bodies-are ∙ z;
        fit =
            rw (← z)
            (one_more (fits (record { kind = 2; body = id }) (omega (arith, action-short file id p.0)) (omega arith))
            (one_more (fits (record { kind = 2; body = a.0 }) (omega (arith, name-in-short file locale (action_group id) a.1)) (omega arith)) l.fit));
      }

-- the same bodies are the same identifiers
same-bodies : (menu cs : List Action) → bodies menu ≡ bodies cs → map (λ a. a.id) menu ≡ map (λ a. a.id) cs
unfolding bodies
same-bodies [] [] e = refl
same-bodies [] (c ∷ cs) e = no (cc)
same-bodies (a ∷ menu) [] e = no (cc)
same-bodies (a ∷ menu) (c ∷ cs) e =
    let i : a.id ≡ c.id = cc in
    let r : bodies menu ≡ bodies cs = cc in
    rw (i) (ap (λ (x : List (List ℕ)). c.id ∷ x) (same-bodies menu cs r))

-- ---- what an accepted list passed

record Passed (file out : List ℕ) : Type 0 where
  ids : List (List ℕ)
  listed-is : listed (read_rows file) ≡ Ok (listed_from (read_rows file) [] ids)
  bs : List (List ℕ)
  labels : Labelled (listed_from (read_rows file) [] ids) bs
  written : list_of 2 bs ≡ out

passed : (file locale out : List ℕ) → actions file locale ≡ Ok out → Passed file out
unfolding actions listed
passed file locale out e =
    let rs : List Row = read_rows file in
    let a = bind-given (check file) _ out e in
    let b = need-given (locale_form locale) _ _ out a.2 in
    let c = bind-given (listed rs) _ out b.1 in
    let d = bind-given (labelled rs locale c.0) _ out c.2 in
    let f = bind-given (identifiers rs) (λ ids. Ok (listed_from rs [] ids)) c.0 (bind-then (listed_from rs []) (identifiers rs) ∙ c.1) in
    let z : listed_from rs [] f.0 ≡ c.0 = given_is _ _ f.2 in
    record {
      ids = f.0;
      listed-is = c.1 ∙ ap Ok (sym z);
      bs = d.0;
      labels = labelled-list file locale (file-short file a.1) (listed_from rs [] f.0) d.0 (listed-actions rs [] f.0) (rw z d.1);
      written = given_is _ _ d.2;
    }

reads-bodies : {file out : List ℕ} (p : Passed file out) → read_list 2 (length out) out ≡ Some p.bs
reads-bodies p = rw (← p.written) (list_back 2 (length (list_of 2 p.bs)) p.bs p.labels.fit (omega arith))

-- the identifiers of a list that was read back
menu-ids : {file locale : List ℕ} {menu : List Action} (m : Menu file locale menu) (p : Passed file m.out) → map (λ a. a.id) menu ≡ listed_from (read_rows file) [] p.ids
menu-ids {menu = menu} m p =
    same-bodies menu p.labels.list (same_Some _ _ (sym m.reads_back ∙ reads-bodies p) ∙ sym p.labels.bodies-are) ∙ p.labels.are

-- ---- the laws

pub list-reads-back : ListReadsBack
unfolding ListReadsBack
list-reads-back file locale out e =
    let p = passed file locale out e in
    (p.labels.list, record { out = out; is = e; reads_back = reads-bodies p ∙ ap Some (sym p.labels.bodies-are) }, refl)

pub listed-can-be-asked : ListedCanBeAsked
unfolding ListedCanBeAsked expand_action
listed-can-be-asked file language menu m id locale location list run =
    let p = passed file language m.out m.is in
    let i : any (same id) (listed_from (read_rows file) [] p.ids) ≡ is_listed id menu = ap (any (same id)) (sym (menu-ids m p)) ∙ any-map (same id) (λ a. a.id) menu in
    rw (p.listed-is, i) (go (is_listed id menu) (asked_items file locale location list))
  where
    G : List (List ℕ) → Answer (List (List ℕ))
    G items = group_arguments (read_rows file) (action_group id) locale location items run

    go : (b : Bool) (a : Answer (List (List ℕ))) → (a >>= λ items. (need b Missing >>= λ _. (G items >>= λ args. Ok (list_of 3 args))))
        ≡ (a >>= λ items. pick b (then (list_of 3) (G items)) (Err Missing))
    go b (Err f) = refl
    go true (Ok items) = bind-then (list_of 3) (G items)
    go false (Ok items) = refl

pub none-listed-twice : NoneListedTwice
unfolding NoneListedTwice
none-listed-twice file locale menu m =
    let p = passed file locale m.out m.is in
    ap distinct (titles menu ∙ ap (map Group) (menu-ids m p)) ∙ listed-distinct (read_rows file) [] p.ids
  where
    titles : (menu : List Action) → map (λ a. Group a.id) menu ≡ map Group (map (λ a. a.id) menu)
    titles [] = refl
    titles (a ∷ menu) = ap (λ (ts : List Title). Group a.id ∷ ts) (titles menu)
