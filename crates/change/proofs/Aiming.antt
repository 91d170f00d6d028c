-- What a set or a remove changes, by what was found in the file. Assumes nothing.
use Rattle.std.specs.Prelude.{Option, Some, None, is_some, Ok, Err, ok_or}
use mathlib.Core.Path.{◌≡◌, refl, sym, ap, ◌∙◌}
use Prim.Native.Nat.{ℕ, ◌+◌, ◌-◌, ◌≤◌, ◌<◌}
use native.Mathlib.Omega.{arith}
use mathlib.Core.Bool.{Bool, true, false, ◌&&◌, ◌||◌}
use mathlib.Core.List.{List, [], ◌∷◌, ◌++◌}
use lib.ListN.{length, take, drop, length-append}
use lib.Seq.{take-length}
use lib.Dec.{eqb}
use borrow.Author.Tests.{eq-eqb, ne_eqb}
use Rattle.base.specs.Lists.{span, part, joined, any, last}
use Rattle.base.proofs.Span.{span-le}
use Rattle.base.specs.Choice.{there}
use Rattle.base.proofs.Search.{there-first, any_none, there-last}
use Rattle.base.proofs.Tests.{no, by-test, some-there, none-there}
use Rattle.fault.specs.declared.Fault.{Fault}
use Rattle.fault.specs.declared.Fault.TheVariants.{NoPlainKey, Missing, PostfixesRemain}
use Rattle.fault.specs.Answer.{Answer}
use Rattle.characters.specs.Class.{key_byte}
use Rattle.line.specs.Form.{group_form, key_form}
use Rattle.rows.specs.Rows.{Row, rows, line_of, ended, read_rows, raw_value}
use Rattle.rows.specs.Title.{Title, Nameless, Group, Key, title, same_title, find_row, has}
use Rattle.rows.specs.Find.{found_of}
use Rattle.rows.specs.declared.Row as told
use Rattle.rows.proofs.Rows.{Found, RowBefore, full, open-end, rows_are, rows-after, line_clean, line-full, group_end}
use Rattle.rows.proofs.Told.{Told, told-row, told-nothing, found-there, found-row, told_bounds, value-stands}
use Rattle.wellformed.specs.Check.{plain_of}
use Rattle.entry.specs.Lookup.{value_ends}
use Rattle.splice.specs.Edit.{Edit}
use Rattle.splice.proofs.Splits.{Splits, splits-old, splits-length}
use Rattle.change.specs.Change.{is_plain, of_group, postfix_of, inserting, removing, set_edit, remove_edit}
use Rattle.change.specs.Target.{Aims, slot_of}
use Rattle.change.specs.declared.Slot.{Slot}
use Rattle.change.specs.declared.Target.{Target}
use Rattle.change.specs.declared.Target.TheVariants as target
use Rattle.change.proofs.Accepted.{LastRow, last-joined, full-ended, file-split, insert_edit, splits-insert, splits-ended, splits_last, removing-is, row_before, end_row}
use Rattle.change.proofs.Passing.{fronts}

-- ---- the plain key

-- the key is plain, or its plain key is there
abbrev plain : List ℕ → List ℕ → List ℕ → Bool
plain file group key = is_plain key || has (read_rows file) (Key group (plain_of key))

-- n bytes of a key are its plain key
module _ (key : List ℕ) {n : ℕ} (q : n ≡ 0 + span key_byte (drop 0 key)) where
  span-is : span key_byte key ≡ n
  span-is = omega arith

  pub plain-le : n ≤ length key
  plain-le = omega (arith, span-le key_byte key)

  plain-is : is_plain key ≡ eqb n (length key)
  unfolding plain_of
  plain-is = rw span-is (rw (take-length key) at (fronts key n (length key) plain-le (omega arith)))

  pub plain-itself : n ≡ length key → is_plain key ≡ true
  plain-itself e = plain-is ∙ eq-eqb n (length key) e

  module _ (file group : List ℕ) (e : n ≡ length key → ⊥) where
    pub plain-found : {f : Option told.Row} {b : Bool} → b ≡ is_some f → f ≡ found_of (find_row (read_rows file) (Key group (take n key))) → b ≡ plain file group key
    unfolding plain_of
    plain-found i f = rw (plain-is, ne_eqb n (length key) e, span-is) (sym (found-there (find_row (read_rows file) (Key group (take n key))) i f))

-- ---- what was found

-- the row behind a slot
slot_row : (o : Option Row) {t : Slot} → Some t ≡ slot_of o → (r : Row) × (o ≡ Some r) × (t.place ≡ r.start + length r.bytes) × (t.after ≡ ended r.bytes)
slot_row None e = no (cc)
slot_row (Some r) e = (r, refl, cc, cc)

slot-none : (o : Option Row) → None ≡ slot_of o → o ≡ None
slot-none None e = refl
slot-none (Some r) e = no (cc)

-- an edit's old bytes, by their ends
module _ {file : List ℕ} {e : Edit} (h : Splits e file) {from to : ℕ} (i : from ≡ e.place) (j : to ≡ e.place + length e.old) where
  old-inside : (from ≤ to) × (to ≤ length file)
  old-inside = let l = splits-length e file h in (omega arith, omega arith)

  old-part : part from to file ≡ e.old
  old-part = let n : to - from ≡ length e.old = omega arith in rw (n, i) (splits-old e file h)

-- a row of a file: its LF ends it, or the file does
data RowEnd (file row : List ℕ) (start : ℕ) : Type 0 where
  by-lf : ended row ≡ true → length row ≡ length (line_of row) + 1 → start + length row ≤ length file → RowEnd file row start
  by_end : ended row ≡ false → length row ≡ length (line_of row) → start + length row ≡ length file → RowEnd file row start

row-end : (file : List ℕ) (xs : List (List ℕ)) (row : List ℕ) (ys : List (List ℕ)) → rows file ≡ xs ++ (row ∷ ys) → RowEnd file row (length (joined xs))
unfolding ended joined
row-end file xs row ys is = by (rows-after xs (row ∷ ys) (rw is at (rows_are file))).0
  where
    whole : length file ≡ length (joined xs) + (length row + length (joined ys))
    whole = ap length (file-split file xs row ys is) ∙ simp length-append

    by : RowBefore row ys → RowEnd file row (length (joined xs))
    by (full h) =
        let l : line_of row ≡ h.line = ap line_of h.is ∙ line-full h.line [] h.clean in
        by-lf (full-ended row h) (ap length h.is ∙ length-append h.line (10 ∷ []) ∙ rw l) (omega (arith, whole))
    by (open-end c n z) =
        let l : length row ≡ length (line_of row) = rw (line_clean row c) in
        by_end (rw (eq-eqb (length (line_of row)) (length row) (sym l))) l (omega (arith, whole, ap (λ (ss : List (List ℕ)). length (joined ss)) z))

-- ---- a set

-- a row outside the group is not the entry's
other-group : (group key : List ℕ) (t : Title) → of_group group t ≡ false → same_title (Key group key) t ≡ false
unfolding same_title
other-group group key Nameless e = refl
other-group group key (Group g) e = refl
other-group group key (Key g k) e = rw e

module _ (file group key : List ℕ) where
  -- the group's last row
  abbrev ends : Option Row
  ends = last (λ r. of_group group (title r)) (read_rows file)

  abbrev entry : Option Row
  entry = find_row (read_rows file) (Key group key)

  abbrev SetBy : Answer Target → Type 0
  SetBy a = Aims file key (set_edit (read_rows file) group key) a

  value-by : (r s : Row) {w : told.Row} → ends ≡ Some s → true ≡ plain file group key → entry ≡ Some r → Told r w → (w.value ≤ w.end) × (w.end ≤ length file)
      → SetBy (Ok (target.Value w.value w.end))
  unfolding set_edit value_ends raw_value
  value-by r s e p y t b =
      record { is = λ text. rw (e, ← p, y, t.value-is, t.end_is, value-stands file (found-row file (Key group key) r y)); inside = b }

  entry-by : (s : Row) {at : ℕ} {after : Bool} → ends ≡ Some s → at ≡ s.start + length s.bytes → after ≡ ended s.bytes → true ≡ plain file group key → entry ≡ None
      → SetBy (Ok (target.Entry at after))
  unfolding set_edit inserting
  entry-by s e i j p y =
      let w = end_row file group s e in
      record {
        is = λ text. rw (e, ← p, y, i, j);
        inside = omega (arith, ap (λ (r : Row). r.start + length r.bytes) w.row, splits-length (insert_edit file w.xs w.bytes w.ys w.is []) file (splits-insert file w.xs w.bytes w.ys w.is []));
      }

  pub set-no-group : {f : Fault} (o : Option Slot) → ok_or o Missing ≡ Err f → o ≡ slot_of ends → SetBy (Err f)
  unfolding set_edit
  set-no-group {f} None h e = let z : Missing ≡ f = cc in record { is = λ text. rw (slot-none ends e, z); inside = tt }
  set-no-group (Some t) h e = no (cc)

  -- the entry is there, and so is its group
  module _ {found : told.Row} (y : Some found ≡ found_of entry) where
    -- the group's last row
    group-there : (s : Row) × (ends ≡ Some s)
    unfolding find_row
    group-there =
        by-test (any (λ r. of_group group (title r)) (read_rows file))
        (λ t. some-there ends (there-last (λ r. of_group group (title r)) (read_rows file) ∙ t))
        (λ t.
        let a = told-row entry found (sym y) in
        let z : any (λ r. same_title (Key group key) (title r)) (read_rows file) ≡ false = any_none (λ r. of_group group (title r)) (λ r. of_group group (title r)) (λ r. of_group group (title r)) (λ r. same_title (Key group key) (title r)) (λ r u v w. other-group group key (title r) u) (read_rows file) t t t in
        let w : there entry ≡ false = there-first (λ r. same_title (Key group key) (title r)) (read_rows file) ∙ z in
        no (cc (ap there a.1)))

    pub value-no-plain : false ≡ plain file group key → SetBy (Err (NoPlainKey 0))
    unfolding set_edit
    value-no-plain p = record { is = λ text. rw (group-there.1, ← p); inside = tt }

    pub set_value : true ≡ plain file group key → SetBy (Ok (target.Value found.value found.end))
    set_value p =
        let a = told-row entry found (sym y) in
        let o = group-there in
        let b = told_bounds file (Key group key) found (sym y) in
        value-by a.0 o.0 o.1 p a.1 a.2 (b.1, b.2)

  -- the entry is absent
  module _ {t : Slot} (e : Some t ≡ slot_of ends) where
    pub set-no-plain : false ≡ plain file group key → SetBy (Err (NoPlainKey 0))
    unfolding set_edit
    set-no-plain p = record { is = λ text. rw ((slot_row ends e).1, ← p); inside = tt }

    pub set-entry : true ≡ plain file group key → there entry ≡ false → SetBy (Ok (target.Entry t.place t.after))
    set-entry p y = let o = slot_row ends e in entry-by o.0 o.1 o.2 o.3 p (none-there entry y)

-- ---- a remove

module _ (file group key : List ℕ) where
  abbrev postfixes : Bool
  postfixes = any (λ s. postfix_of group key (title s)) (read_rows file)

  abbrev RemoveBy : Answer Target → Type 0
  RemoveBy a = Aims file key (λ _. remove_edit (read_rows file) group key) a

  pub remove-missing : None ≡ found_of (entry file group key) → RemoveBy (Err Missing)
  unfolding remove_edit
  remove-missing y = record { is = λ text. rw (told-nothing (entry file group key) (sym y)); inside = tt }

  module _ {found : told.Row} (y : Some found ≡ found_of (entry file group key)) where
    pub remove-blocked : true ≡ postfixes → RemoveBy (Err PostfixesRemain)
    unfolding remove_edit
    remove-blocked p = record { is = λ text. rw ((told-row (entry file group key) found (sym y)).1, ← p); inside = tt }

    -- none is in the way: the row goes
    module _ (p : false ≡ postfixes) where
      gone-by : (r : Row) → entry file group key ≡ Some r → (place : ℕ) (old : List ℕ) → removing r ≡ record { place = place; old = old; new = [] }
          → Splits (record { place = place; old = old; new = [] }) file → {from to : ℕ} → from ≡ place → to ≡ place + length old → RemoveBy (Ok (target.Line from to))
      unfolding remove_edit
      gone-by r f place old z h i j = record { is = λ text. rw (f, ← p, z, old-part h i j, i); inside = old-inside h i j }

      module _ (r : Row) (f : entry file group key ≡ Some r) (t : Told r found) where
        w : Found (λ s. same_title (Key group key) (title s)) 0 [] (rows file) r
        w = found-row file (Key group key) r f

        starts : found.start ≡ length (joined w.xs)
        starts = t.start_is ∙ ap (λ (s : Row). s.start) w.row ∙ omega arith

        ends_at : found.end ≡ length (joined w.xs) + length (line_of w.bytes)
        ends_at = t.end_is ∙ ap (λ (s : Row). s.start + length (line_of s.bytes)) w.row ∙ omega arith

        ends_by : RowEnd file w.bytes (length (joined w.xs))
        ends_by = row-end file w.xs w.bytes w.ys w.is

        -- it goes with its LF
        row-gone : found.end < length file → RemoveBy (Ok (target.Line found.start (found.end + 1)))
        row-gone h = by ends_by
          where
            by : RowEnd file w.bytes (length (joined w.xs)) → RemoveBy (Ok (target.Line found.start (found.end + 1)))
            by (by-lf e l b) =
                gone-by r f (length (joined w.xs)) w.bytes (ap removing w.row ∙ removing-is file w.xs w.bytes w.ys w.is w.number (group_end [] w.xs) true e)
                (splits-ended file w.xs w.bytes w.ys w.is) starts (omega (arith, ends_at))
            by (by_end e l b) = absurd (omega (arith, ends_at))

        -- it is the last and has none: it goes with the LF before it
        module _ (h : length file ≤ found.end) (form : (group_form group && key_form key) ≡ true) where
          others : LastRow w.xs
          others = row_before file group key r form w

          last-starts : 1 ≤ found.start
          last-starts = omega (arith, starts, ap length (last-joined w.xs others), length-append (joined others.others ++ others.line) (10 ∷ []))

          last-gone : RemoveBy (Ok (target.Line (found.start - 1) found.end))
          last-gone = by ends_by
            where
              by : RowEnd file w.bytes (length (joined w.xs)) → RemoveBy (Ok (target.Line (found.start - 1) found.end))
              by (by-lf e l b) = absurd (omega (arith, ends_at))
              by (by_end e l b) =
                  gone-by r f (length (joined w.xs) - 1) (10 ∷ w.bytes) (ap removing w.row ∙ removing-is file w.xs w.bytes w.ys w.is w.number (group_end [] w.xs) false e)
                  (splits_last file w.xs w.bytes w.ys w.is others) (ap (λ (m : ℕ). m - 1) starts) (omega (arith, starts, ends_at, last-starts))

      pub remove-row : found.end < length file → RemoveBy (Ok (target.Line found.start (found.end + 1)))
      remove-row = let a = told-row (entry file group key) found (sym y) in row-gone a.0 a.1 a.2

      module _ (h : length file ≤ found.end) (form : (group_form group && key_form key) ≡ true) where
        pub last-start : 1 ≤ found.start
        last-start = let a = told-row (entry file group key) found (sym y) in last-starts a.0 a.1 a.2 h form

        pub remove-last : RemoveBy (Ok (target.Line (found.start - 1) found.end))
        remove-last = let a = told-row (entry file group key) found (sym y) in last-gone a.0 a.1 a.2 h form
