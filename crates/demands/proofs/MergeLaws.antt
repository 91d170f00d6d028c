-- Two sets of different entries can be made in either order, and a choice that does not ask for the edited entry hands back what it did.
-- Assumes nothing.
use Rattle.std.specs.Prelude.{Option, Some, None, option_map, Ok, Err}
use mathlib.Core.Path.{◌≡◌, refl, sym, ap, ap₂, subst, ◌∙◌}
use Prim.Native.Nat.{ℕ}
use mathlib.Core.Bool.{Bool, true, false, ◌&&◌, false≢true}
use mathlib.Core.List.{List, [], ◌∷◌}
use Rattle.base.specs.Choice.{maybe}
use Rattle.base.specs.Lists.{part, any, all, joined}
use Rattle.base.proofs.Tests.{by-test, and_both, or-both, all_weaker}
use Rattle.fault.specs.declared.Fault.TheVariants.{BadArgument, Missing}
use Rattle.fault.specs.Answer.{Answer, some_or, then, accepted}
use Rattle.fault.proofs.Answers.{bind-given, given_is}
use Rattle.text.specs.Escape.{read_text, raw_text, fit_text}
use Rattle.line.specs.Form.{group_form, plain_form, locale_form}
use Rattle.rows.specs.Rows.{Row, rows, read_rows, raw_value}
use Rattle.rows.specs.Title.{desktop_entry, Title, Key, same_title}
use Rattle.rows.proofs.Rows.{IsRows, rows_are, joined-rows}
use Rattle.rows.proofs.Titles.{nameless, same_title-true}
use Rattle.rows.proofs.Sight.{lines_of}
use Rattle.wellformed.specs.WellFormed.{well_formed}
use Rattle.wellformed.proofs.Accepts.{checks}
use Rattle.choice.specs.Locale.{stripped_title, find_stripped, first_key, keys_of, chosen}
use Rattle.entry.specs.Lookup.{lookup}
use Rattle.entry.specs.Choose.{choose}
use Rattle.entry.proofs.Lookups.{chosen-stands}
use Rattle.change.specs.Change.{Request, Set, Remove}
use Rattle.journal.specs.Journal.{Author, Authored, by}
use Rattle.change.proofs.LineValues.{AlikeBut, first-file}
use Rattle.change.proofs.Accepted.{set-of}
use Rattle.change.proofs.Kept.{value_of}
use Rattle.change.proofs.Sets.{valued, valued-rows, valued-twice, set-rows}
use Rattle.edit.specs.Calls.{State, content, request}
use Rattle.edit.proofs.Requested.{done, done-left}
use Rattle.demands.specs.Files.{handed, chosen_part}
use Rattle.demands.specs.Edits.{asked_entry, OthersReadAsBefore, SetIsReadBack}
use Rattle.demands.specs.Merge.{SetsCommute, request_all, sets_present, all_set_present, meet, SetListsCommute, ChoiceReadsAsBefore}
use Rattle.demands.proofs.FileLaws.{choose-is, lookup-has}
use Rattle.demands.proofs.EditLaws.{leaves, others-read-as-before, set-is-read-back}

-- ---- the rows after sets of entries that are there

-- the rows that a set leaves
abbrev set_rows : Request → List (List ℕ) → List (List ℕ)
set_rows (Set group key text) rs = valued (Key group key) (raw_text text) [] rs
set_rows (Remove group key) rs = rs

-- those that a list of sets leaves
abbrev sets_rows : List (Authored Request) → List (List ℕ) → List (List ℕ)
sets_rows [] rs = rs
sets_rows (q ∷ qs) rs = sets_rows qs (set_rows q.what rs)

-- a set of a fit text
abbrev is_set : Request → Bool
is_set (Set group key text) = fit_text text
is_set (Remove group key) = false

abbrev are_sets : List (Authored Request) → Bool
are_sets qs = all (λ q. is_set q.what) qs

accepted-then : {A B : Type 0} (f : A → B) (a : Answer A) → accepted (then f a) ≡ accepted a
accepted-then f (Ok a) = refl
accepted-then f (Err e) = refl

-- an entry that was there is there after a set
present-still : (s t : State) (author : Author) (group key text : List ℕ) → request s (by author (Set group key text)) ≡ Ok t
    → (q : Request) → sets_present (content s) q ≡ true → sets_present (content t) q ≡ true
unfolding SetIsReadBack OthersReadAsBefore
present-still s t author group key text h (Remove g k) e = e
present-still s t author group key text h (Set g k _) e =
    by-test (same_title (Key g k) (Key group key))
    (λ i.
    let j : Key g k ≡ Key group key = same_title-true (Key g k) (Key group key) i in
    let own = bind-given (handed (content t) group key) read_text text (set-is-read-back s t author group key text h) in
    let b : handed (content t) g k ≡ Ok own.0 = ap₂ (handed (content t)) (cc) (cc) ∙ own.1 in
    sym (accepted-then _ (lookup (content t) g k)) ∙ ap accepted b)
    (λ n.
    sym (accepted-then _ (lookup (content t) g k))
    ∙ ap accepted (others-read-as-before s t (by author (Set group key text)) g k h n)
    ∙ accepted-then _ (lookup (content s) g k)
    ∙ e)

-- accepted sets in turn
record InTurn (s t : State) (qs : List (Authored Request)) : Type 0 where
  are-sets : are_sets qs ≡ true
  left : rows (content t) ≡ sets_rows qs (rows (content s))
  still : (p : Request) → sets_present (content s) p ≡ true → sets_present (content t) p ≡ true

one_set : (s t : State) (author : Author) (q : Request) → sets_present (content s) q ≡ true → request s (by author q) ≡ Ok t → InTurn s t (by author q ∷ [])
unfolding all
one_set s t author (Remove group key) e h = absurd (false≢true e)
one_set s t author (Set group key text) e h =
    let d = done s t (by author (Set group key text)) h in
    let o = set-of (content s) group key text d.edit d.edits in
    record {
      are-sets = rw o.fit;
      left = ap rows (done-left d) ∙ set-rows desktop_entry (content s) group key text d.edit d.well (lookup-has (content s) group key e) o;
      still = present-still s t author group key text h;
    }

-- more of them are there where all that were are
still-present : (f g : List ℕ) → ((p : Request) → sets_present f p ≡ true → sets_present g p ≡ true) → (qs : List (Authored Request)) → all_set_present f qs ≡ true → all_set_present g qs ≡ true
still-present f g h qs e = all_weaker (λ q. sets_present f q.what) (λ q. sets_present g q.what) (λ q. h q.what) qs e

in-turn : (s t : State) (qs : List (Authored Request)) → all_set_present (content s) qs ≡ true → request_all s qs ≡ Ok t → InTurn s t qs
unfolding all
in-turn s t [] e h = subst (λ (u : State). InTurn s u []) (given_is s t h) (record { are-sets = refl; left = refl; still = λ p x. x })
in-turn s t (q ∷ qs) e h =
    let b = and_both (sets_present (content s) q.what) (all_set_present (content s) qs) e in
    let m = bind-given (request s q) (λ u. request_all u qs) t h in
    let o = one_set s m.0 q.author q.what b.0 m.1 in
    let i = in-turn m.0 t qs (still-present (content s) (content m.0) o.still qs b.1) m.2 in
    record {
      are-sets = rw ((and_both (is_set q.what) true o.are-sets).0, i.are-sets);
      left = i.left ∙ ap (sets_rows qs) o.left;
      still = λ p x. i.still p (o.still p x);
    }

-- ---- either order

set-is-rows : (q : Request) (rs : List (List ℕ)) → is_set q ≡ true → IsRows rs → IsRows (set_rows q rs)
set-is-rows (Set group key text) rs e a = valued-rows group key (raw_text text) [] rs (value_of text e) a
set-is-rows (Remove group key) rs e a = a

set-set : (p q : Request) (rs : List (List ℕ)) → is_set p ≡ true → is_set q ≡ true → same_title (asked_entry p) (asked_entry q) ≡ false → IsRows rs
    → set_rows p (set_rows q rs) ≡ set_rows q (set_rows p rs)
set-set (Set g₁ k₁ t₁) (Set g₂ k₂ t₂) rs e f n a = valued-twice g₁ k₁ (raw_text t₁) g₂ k₂ (raw_text t₂) n (value_of t₁ e) (value_of t₂ f) [] rs a
set-set (Set g₁ k₁ t₁) (Remove g₂ k₂) rs e f n a = refl
set-set (Remove g₁ k₁) q rs e f n a = refl

set-sets : (p : Request) (qs : List (Authored Request)) (rs : List (List ℕ)) → is_set p ≡ true → are_sets qs ≡ true
    → any (λ q. same_title (asked_entry p) (asked_entry q.what)) qs ≡ false → IsRows rs → set_rows p (sets_rows qs rs) ≡ sets_rows qs (set_rows p rs)
unfolding all any
set-sets p [] rs e f n a = refl
set-sets p (q ∷ qs) rs e f n a =
    let b = and_both (is_set q.what) (are_sets qs) f in
    let c = or-both (same_title (asked_entry p) (asked_entry q.what)) (any (λ q. same_title (asked_entry p) (asked_entry q.what)) qs) n in
    set-sets p qs (set_rows q.what rs) e b.1 c.1 (set-is-rows q.what rs b.0 a) ∙ ap (sets_rows qs) (set-set p q.what rs e b.0 c.0 a)

sets-sets : (ps qs : List (Authored Request)) (rs : List (List ℕ)) → are_sets ps ≡ true → are_sets qs ≡ true → meet ps qs ≡ false → IsRows rs
    → sets_rows qs (sets_rows ps rs) ≡ sets_rows ps (sets_rows qs rs)
unfolding all any
sets-sets [] qs rs e f n a = refl
sets-sets (p ∷ ps) qs rs e f n a =
    let b = and_both (is_set p.what) (are_sets ps) e in
    let c = or-both (any (λ q. same_title (asked_entry p.what) (asked_entry q.what)) qs) (meet ps qs) n in
    sets-sets ps qs (set_rows p.what rs) b.1 f c.1 (set-is-rows p.what rs b.0 a) ∙ ap (sets_rows ps) (sym (set-sets p.what qs rs b.0 f c.0 a))

-- the rows after two lists
record Both (s t : State) (ps qs : List (Authored Request)) : Type 0 where
  first-sets : are_sets ps ≡ true
  next-sets : are_sets qs ≡ true
  left : rows (content t) ≡ sets_rows qs (sets_rows ps (rows (content s)))

both : (s m t : State) (ps qs : List (Authored Request)) → all_set_present (content s) ps ≡ true → all_set_present (content s) qs ≡ true
    → request_all s ps ≡ Ok m → request_all m qs ≡ Ok t → Both s t ps qs
both s m t ps qs e f a b =
    let x = in-turn s m ps e a in
    let y = in-turn m t qs (still-present (content s) (content m) x.still qs f) b in
    record { first-sets = x.are-sets; next-sets = y.are-sets; left = y.left ∙ ap (sets_rows qs) x.left }

pub set-lists-commute : SetListsCommute
unfolding SetListsCommute
set-lists-commute s s₁ s₂ r r₂ r₁ ps qs i e f n a b c d =
    let x = both s s₁ s₂ ps qs e f a b in
    let y = both r r₂ r₁ qs ps (rw (← i) f) (rw (← i) e) c d in
    sym (joined-rows (content s₂))
    ∙ ap joined (x.left ∙ sets-sets ps qs (rows (content s)) x.first-sets x.next-sets n (rows_are (content s))
    ∙ ap (λ (f : List ℕ). sets_rows ps (sets_rows qs (rows f))) i ∙ sym y.left)
    ∙ joined-rows (content r₁)

pub sets-commute : SetsCommute
unfolding SetsCommute SetListsCommute all any
sets-commute s s₁ s₂ r r₂ r₁ author₁ author₂ group₁ key₁ text₁ group₂ key₂ text₂ i there₁ there₂ apart a b c d =
    set-lists-commute s s₁ s₂ r r₂ r₁ (by author₁ (Set group₁ key₁ text₁) ∷ []) (by author₂ (Set group₂ key₂ text₂) ∷ []) i (rw there₁) (rw there₂) (rw apart) (rw a) (rw b) (rw c) (rw d)

-- ---- choice

-- the value of the first present of some keys: an entry that none of them names has no part in it
keys-alike : (t : Title) (f h group : List ℕ) (ks : List (List ℕ)) → AlikeBut t (lines_of f) (lines_of h) → any (λ k. same_title (Key group k) (stripped_title t)) ks ≡ false
    → option_map raw_value (first_key (read_rows f) group ks) ≡ option_map raw_value (first_key (read_rows h) group ks)
unfolding first_key find_stripped any
keys-alike t f h group [] a e = refl
keys-alike t f h group (k ∷ ks) a e =
    let p : Title → Bool = λ u. same_title (Key group k) (stripped_title u) in
    let b = or-both (p t) (any (λ k. same_title (Key group k) (stripped_title t)) ks) e in
    let x : Option Row = find_stripped (read_rows f) (Key group k) in
    let y : Option Row = find_stripped (read_rows h) (Key group k) in
    let i : option_map raw_value x ≡ option_map raw_value y = first-file p f ∙ a p (nameless (Key group k)) b.0 ∙ sym (first-file p h) in
    first-value x (first_key (read_rows f) group ks) ∙ rw (i, keys-alike t f h group ks a b.1) (sym (first-value y (first_key (read_rows h) group ks)))
  where
    first-value : (o later : Option Row) → option_map raw_value (maybe o later Some) ≡ maybe (option_map raw_value o) (option_map raw_value later) Some
    first-value None later = refl
    first-value (Some r) later = refl

-- choice in a well-formed file hands back the raw value of the chosen row
choose-reads : (f group key locale : List ℕ) → well_formed f ≡ true → (group_form group && plain_form key && locale_form locale) ≡ true
    → chosen_part f group key locale ≡ some_or (option_map raw_value (chosen (read_rows f) group key locale)) Missing
choose-reads f group key locale h c =
    ap (then (λ e. part e.from e.to f)) (choose-is f group key locale (checks f h) c)
    ∙ chosen-stands f group key locale
    ∙ by_row (chosen (read_rows f) group key locale)
  where
    by_row : (o : Option Row) → then raw_value (some_or o Missing) ≡ some_or (option_map raw_value o) Missing
    by_row None = refl
    by_row (Some r) = refl

-- with arguments of another form it is refused
choose-formless : (f group key locale : List ℕ) → well_formed f ≡ true → (group_form group && plain_form key && locale_form locale) ≡ false
    → chosen_part f group key locale ≡ Err BadArgument
unfolding choose
choose-formless f group key locale h c = rw (checks f h, c)

pub choice-reads-as-before : ChoiceReadsAsBefore
unfolding ChoiceReadsAsBefore chosen
choice-reads-as-before s t q group key locale h n =
    let l = leaves s t q h in
    by-test (group_form group && plain_form key && locale_form locale)
    (λ c.
    choose-reads (content t) group key locale l.well c
    ∙ ap (λ (o : Option (List ℕ)). some_or o Missing) (keys-alike (asked_entry q.what) (content t) (content s) group (keys_of key locale) l.others n)
    ∙ sym (choose-reads (content s) group key locale l.well-before c))
    (λ c. choose-formless (content t) group key locale l.well c ∙ sym (choose-formless (content s) group key locale l.well-before c))
