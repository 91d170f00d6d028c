-- What an accepted request says of the file and its edit, and that the edit's old bytes stand at its place. Assumes nothing.
use Rattle.std.specs.Prelude.{Option, Some, None, Ok}
use mathlib.Core.Path.{◌≡◌, refl, sym, ap, ◌∙◌}
use Prim.Native.Nat.{ℕ, ◌+◌, ◌-◌, ◌≤◌}
use native.Mathlib.Omega.{arith}
use mathlib.Core.Bool.{Bool, true, false, not, ◌&&◌, ◌||◌, false≢true}
use mathlib.Core.List.{List, [], ◌∷◌, ◌++◌, append_assoc, append-nil}
use lib.ListN.{length, take, drop, length-append, take-append-drop}
use lib.Seq.{length-take-le}
use lib.Dec.{eqb}
use borrow.Author.Tests.{ne_eqb, not-true}
use Rattle.base.specs.Choice.{pick, maybe}
use Rattle.base.specs.Lists.{same, joined, any, last}
use Rattle.base.proofs.Clean.{Clean}
use Rattle.base.proofs.Lists.{joined-append}
use Rattle.base.proofs.Tests.{and_both, same_true}
use Rattle.text.specs.Escape.{fit_text, raw_text}
use Rattle.line.specs.Form.{group_form, key_form}
use Rattle.line.specs.Line.{read_line}
use Rattle.line.specs.declared.Line.{Line}
use Rattle.line.specs.declared.Line.TheVariants.{Blank, Comment, Header, Entry, Bad}
use Rattle.line.proofs.Bounds.{line-within}
use Rattle.rows.specs.Rows.{Row, rows, line_of, ended, read_rows, group_after, raw_value}
use Rattle.rows.specs.Title.{Key, title_of, title, same_title, find_row, has}
use Rattle.rows.proofs.Rows.{Full, rows_are, joined-rows, AllFull, full-before, line-full, row-split, row_of, group_end, Found, found-last}
use Rattle.rows.proofs.Told.{found-row}
use Rattle.wellformed.specs.Check.{plain_of}
use Rattle.entry.specs.Lookup.{value_ends}
use Rattle.splice.specs.Edit.{Edit, spliced, turned, stands}
use Rattle.splice.proofs.Splits.{Splits, splits-turned, splits-stands, splits-back, splits-lengths}
use Rattle.change.specs.Change.{Request, Set, Remove, is_plain, of_group, postfix_of, replacing, inserting, removing, set_edit, remove_edit, edit_of}
use Rattle.fault.proofs.Answers.{need-given, some-given, given_is}

-- ---- what an accepted request says

-- a set: an entry of that name gets another value, or a new one goes in after a row of the group
pub record SetOf (f group key text : List ℕ) (e : Edit) : Type 0 where
  pub form : (group_form group && key_form key) ≡ true
  pub fit : fit_text text ≡ true
  pub end : Row
  pub ends : last (λ r. of_group group (title r)) (read_rows f) ≡ Some end
  pub plain : (is_plain key || has (read_rows f) (Key group (plain_of key))) ≡ true
  pub is : maybe (find_row (read_rows f) (Key group key)) (inserting end key (raw_text text)) (λ r. replacing r (raw_text text)) ≡ e

-- a remove: the entry goes, and none of its postfixed keys is there
pub record RemoveOf (f group key : List ℕ) (e : Edit) : Type 0 where
  pub form : (group_form group && key_form key) ≡ true
  pub row : Row
  pub found : find_row (read_rows f) (Key group key) ≡ Some row
  pub none_left : any (λ s. postfix_of group key (title s)) (read_rows f) ≡ false
  pub is : removing row ≡ e

pub set-of : (f group key text : List ℕ) (e : Edit) → edit_of f (Set group key text) ≡ Ok e → SetOf f group key text e
unfolding edit_of set_edit
set-of f group key text e h =
    let a = need-given _ _ _ e h in
    let b = need-given _ _ _ e a.1 in
    let c = some-given _ _ _ e b.1 in
    let d = need-given _ _ _ e c.2 in
    record { form = a.0; fit = b.0; end = c.0; ends = c.1; plain = d.0; is = given_is _ e d.1 }

pub remove-of : (f group key : List ℕ) (e : Edit) → edit_of f (Remove group key) ≡ Ok e → RemoveOf f group key e
unfolding edit_of remove_edit
remove-of f group key e h =
    let a = need-given _ _ _ e h in
    let b = some-given _ _ _ e a.1 in
    let c = need-given _ _ _ e b.2 in
    record { form = a.0; row = b.0; found = b.1; none_left = not-true _ c.0; is = given_is _ e c.1 }

-- ---- titles

-- a row with a key's title is an entry
pub record Keyed (group key row : List ℕ) (g : List ℕ) (l : Line) : Type 0 where
  pub key-end : ℕ
  pub name : ℕ
  pub value : ℕ
  pub entry : l ≡ Entry key-end name value
  pub in_group : group ≡ g
  pub spelt : key ≡ take name row

pub keyed : (group key g row : List ℕ) (l : Line) → same_title (Key group key) (title_of g row l) ≡ true → Keyed group key row g l
unfolding same_title
keyed group key g row Blank e = absurd (false≢true e)
keyed group key g row Comment e = absurd (false≢true e)
keyed group key g row (Header n) e = absurd (false≢true e)
keyed group key g row (Entry k n v) e =
    let p = and_both (same group g) (same key (take n row)) e in
    record { key-end = k; name = n; value = v; entry = refl; in_group = same_true group g p.0; spelt = same_true key (take n row) p.1 }
keyed group key g row (Bad n) e = absurd (false≢true e)

-- ---- the old bytes stand at the place

pub regroup : (a p o e r j : List ℕ) → r ≡ (p ++ o) ++ e → a ++ (r ++ j) ≡ (a ++ p) ++ (o ++ (e ++ j))
regroup a p o e r j h = rw h (simp append_assoc)

-- rows of which the last is taken apart
pub record LastRow (xs : List (List ℕ)) : Type 0 where
  pub others : List (List ℕ)
  pub line : List ℕ
  pub clean : Clean line
  pub fulls : AllFull others
  pub is : xs ≡ others ++ ((line ++ (10 ∷ [])) ∷ [])

pub last_row : (x : List ℕ) (xs : List (List ℕ)) → AllFull (x ∷ xs) → LastRow (x ∷ xs)
last_row x [] h = record { others = []; line = h.0.line; clean = h.0.clean; fulls = tt; is = ap (λ (r : List ℕ). r ∷ []) h.0.is }
last_row x (y ∷ xs) h =
    let l = last_row y xs h.1 in
    record { others = x ∷ l.others; line = l.line; clean = l.clean; fulls = (h.0, l.fulls); is = ap (λ (rs : List (List ℕ)). x ∷ rs) l.is }

pub last-joined : (xs : List (List ℕ)) → (l : LastRow xs) → joined xs ≡ (joined l.others ++ l.line) ++ (10 ∷ [])
unfolding joined
last-joined xs l = ap joined l.is ∙ joined-append l.others ((l.line ++ (10 ∷ [])) ∷ []) ∙ simp (append-nil, append_assoc)

-- a row with its LF is ended
pub full-ended : (r : List ℕ) → Full r → ended r ≡ true
unfolding ended
full-ended r h =
    let l : line_of r ≡ h.line = ap line_of h.is ∙ line-full h.line [] h.clean in
    let n : length r ≡ length h.line + 1 = ap length h.is ∙ length-append h.line (10 ∷ []) in
    rw (l, ne_eqb (length h.line) (length r) (λ e. omega arith))

module _ (f : List ℕ) (xs : List (List ℕ)) (bytes : List ℕ) (ys : List (List ℕ)) (is : rows f ≡ xs ++ (bytes ∷ ys)) where
  pub file-split : f ≡ joined xs ++ (bytes ++ joined ys)
  unfolding joined
  file-split = sym (joined-rows f) ∙ ap joined is ∙ joined-append xs (bytes ∷ ys)

  -- the value's bytes become others
  abbrev pub value_edit : ℕ → List ℕ → Edit
  value_edit value v = record { place = length (joined xs) + value; old = drop value (line_of bytes); new = v }

  pub replacing-is : (n : ℕ) (g v : List ℕ) (key name value : ℕ) → read_line (line_of bytes) ≡ Entry key name value
      → replacing (row_of n (0 + length (joined xs)) g bytes) v ≡ value_edit value v
  unfolding value_ends raw_value
  replacing-is n g v key name value e = let z : 0 + length (joined xs) ≡ length (joined xs) = omega arith in rw (e, z)

  unfoldable pub splits-value : (value : ℕ) (v : List ℕ) → value ≤ length (line_of bytes) → Splits (value_edit value v) f
  splits-value value v h =
      record {
        front = joined xs ++ take value (line_of bytes);
        back = drop (length (line_of bytes)) bytes ++ joined ys;
        at = length-append (joined xs) (take value (line_of bytes)) ∙ rw (length-take-le value (line_of bytes) h);
        is = file-split ∙ regroup (joined xs) (take value (line_of bytes)) (drop value (line_of bytes)) (drop (length (line_of bytes)) bytes) bytes (joined ys) (rw (take-append-drop value (line_of bytes)) (sym (row-split bytes)));
      }

  -- bytes go in after the row
  abbrev pub insert_edit : List ℕ → Edit
  insert_edit new = record { place = length (joined xs) + length bytes; old = []; new = new }

  pub inserting-is : (n : ℕ) (g key v : List ℕ) (t : Bool) → ended bytes ≡ t
      → inserting (row_of n (0 + length (joined xs)) g bytes) key v ≡ insert_edit (pick t ((key ++ (61 ∷ v)) ++ (10 ∷ [])) (10 ∷ (key ++ (61 ∷ v))))
  unfolding inserting
  inserting-is n g key v t e = let z : 0 + length (joined xs) ≡ length (joined xs) = omega arith in rw (e, z, append_assoc key (61 ∷ []) v)

  unfoldable pub splits-insert : (new : List ℕ) → Splits (insert_edit new) f
  splits-insert new = record { front = joined xs ++ bytes; back = joined ys; at = length-append (joined xs) bytes; is = file-split ∙ sym (append_assoc (joined xs) bytes (joined ys)) }

  -- the row goes with its LF
  abbrev pub ended_edit : Edit
  ended_edit = record { place = length (joined xs); old = bytes; new = [] }

  unfoldable pub splits-ended : Splits ended_edit f
  splits-ended = record { front = joined xs; back = joined ys; at = refl; is = file-split }

  -- a last row goes with the LF before it
  abbrev pub last_edit : Edit
  last_edit = record { place = length (joined xs) - 1; old = 10 ∷ bytes; new = [] }

  unfoldable pub splits_last : LastRow xs → Splits last_edit f
  splits_last l =
      let j = last-joined xs l in
      let n : length (joined xs) ≡ length (joined l.others ++ l.line) + 1 = ap length j ∙ length-append (joined l.others ++ l.line) (10 ∷ []) in
      record {
        front = joined l.others ++ l.line;
        back = joined ys;
        at = omega arith;
        is = file-split ∙ rw (j, append_assoc (joined l.others ++ l.line) (10 ∷ []) (bytes ++ joined ys));
      }

  pub removing-is : (n : ℕ) (g : List ℕ) (t : Bool) → ended bytes ≡ t → removing (row_of n (0 + length (joined xs)) g bytes) ≡ pick t ended_edit last_edit
  unfolding removing
  removing-is n g t e = let z : 0 + length (joined xs) ≡ length (joined xs) = omega arith in rw (e, z)

  splits-removing : LastRow xs → (t : Bool) → Splits (pick t ended_edit last_edit) f
  splits-removing l true = splits-ended
  splits-removing l false = splits_last l

-- ---- every accepted request

-- a group's name is not empty, so its entries are not the file's first row
pub not_first : (group key : List ℕ) → (group_form group && key_form key) ≡ true → group ≡ [] → ⊥
unfolding group_form
not_first group key e z = false≢true (ap (λ (g : List ℕ). not (eqb (length g) 0)) (sym z) ∙ (and_both _ _ (and_both (group_form group) (key_form key) e).0).0)

-- the row of a key's title is an entry of the group that stands before it
pub keyed-row : (group key : List ℕ) (at : ℕ) (g : List ℕ) (rs : List (List ℕ)) (r : Row) → (h : Found (λ s. same_title (Key group key) (title s)) at g rs r)
    → Keyed group key (line_of h.bytes) (group_end g h.xs) (read_line (line_of h.bytes))
unfolding title
keyed-row group key at g rs r h =
    let l : Line = read_line (line_of h.bytes) in
    let k = keyed group key (group_after (group_end g h.xs) (line_of h.bytes) l) (line_of h.bytes) l (sym (ap (λ (s : Row). same_title (Key group key) (title s)) h.row) ∙ h.passes) in
    record {
      key-end = k.key-end;
      name = k.name;
      value = k.value;
      entry = k.entry;
      in_group = k.in_group ∙ ap (group_after (group_end g h.xs) (line_of h.bytes)) k.entry;
      spelt = k.spelt;
    }

pub row_before : (f group key : List ℕ) (r : Row) → (group_form group && key_form key) ≡ true → (h : Found (λ s. same_title (Key group key) (title s)) 0 [] (rows f) r) → LastRow h.xs
row_before f group key r e h = by h.xs refl
  where
    by : (xs : List (List ℕ)) → h.xs ≡ xs → LastRow xs
    by [] z = absurd (not_first group key e ((keyed-row group key 0 [] (rows f) r h).in_group ∙ ap (group_end []) z))
    by (x ∷ xs) z = last_row x xs (full-before (x ∷ xs) h.bytes h.ys (rw (h.is, z) at (rows_are f)))

-- the group's row after which an entry goes
pub end_row : (f group : List ℕ) (r : Row) → last (λ s. of_group group (title s)) (read_rows f) ≡ Some r → Found (λ s. of_group group (title s)) 0 [] (rows f) r
unfolding read_rows
end_row f group r e = found-last (λ s. of_group group (title s)) (rows f) 1 0 [] r e

splits-set : (f group key text : List ℕ) (e : Edit) → SetOf f group key text e → Splits e f
splits-set f group key text e h = by (find_row (read_rows f) (Key group key)) refl h.is
  where
    by : (o : Option Row) → find_row (read_rows f) (Key group key) ≡ o → maybe o (inserting h.end key (raw_text text)) (λ r. replacing r (raw_text text)) ≡ e → Splits e f
    by None z i =
        let w = end_row f group h.end h.ends in
        rw (← i, w.row, inserting-is f w.xs w.bytes w.ys w.is w.number (group_end [] w.xs) key (raw_text text) (ended w.bytes) refl)
        (splits-insert f w.xs w.bytes w.ys w.is _)
    by (Some r) z i =
        let w = found-row f (Key group key) r z in
        let k = keyed-row group key 0 [] (rows f) r w in
        let b = rw k.entry at (line-within (line_of w.bytes)) in
        rw (← i, w.row, replacing-is f w.xs w.bytes w.ys w.is w.number (group_end [] w.xs) (raw_text text) k.key-end k.name k.value k.entry)
        (splits-value f w.xs w.bytes w.ys w.is k.value (raw_text text) b.3)

splits-remove : (f group key : List ℕ) (e : Edit) → RemoveOf f group key e → Splits e f
splits-remove f group key e h =
    let w = found-row f (Key group key) h.row h.found in
    rw (← h.is, w.row, removing-is f w.xs w.bytes w.ys w.is w.number (group_end [] w.xs) (ended w.bytes) refl)
    (splits-removing f w.xs w.bytes w.ys w.is (row_before f group key h.row h.form w) (ended w.bytes))

-- an accepted request's edit finds its old bytes at its place
pub edit-splits : (f : List ℕ) (q : Request) (e : Edit) → edit_of f q ≡ Ok e → Splits e f
edit-splits f (Set group key text) e h = splits-set f group key text e (set-of f group key text e h)
edit-splits f (Remove group key) e h = splits-remove f group key e (remove-of f group key e h)

-- its old bytes stand there, its reverse takes it back, and so many bytes more or less are left
module _ (f : List ℕ) (q : Request) (e : Edit) (h : edit_of f q ≡ Ok e) where
  pub edit-stands : stands e f ≡ true
  edit-stands = splits-stands e f (edit-splits f q e h)

  pub edit-undone : spliced (turned e) (spliced e f) ≡ f
  edit-undone = splits-back e f (edit-splits f q e h)

  pub edit-undo-stands : stands (turned e) (spliced e f) ≡ true
  edit-undo-stands = splits-stands (turned e) (spliced e f) (splits-turned e f (edit-splits f q e h))

  pub edit-lengths : length (spliced e f) + length e.old ≡ length f + length e.new
  edit-lengths = splits-lengths e f (edit-splits f q e h)
