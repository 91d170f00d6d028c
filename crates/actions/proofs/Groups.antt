-- The group of an action: its header in the file, and what its name tells. Assumes nothing.
use Rattle.std.specs.Prelude.{Some, None}
use mathlib.Core.Path.{◌≡◌, refl, sym, ap, ◌∙◌}
use Prim.Native.Nat.{ℕ, ◌+◌, ◌-◌, ◌≤◌, ◌<◌}
use native.Mathlib.Omega.{arith}
use mathlib.Core.Bool.{Bool, true, false, ◌&&◌, and-false, false≢true}
use mathlib.Core.List.{List, []}
use lib.ListN.{length, length-append}
use lib.Dec.{eqb}
use Rattle.base.specs.Lists.{ascii, part}
use Rattle.base.proofs.Parts.{part-part}
use Rattle.base.proofs.Lists.{length_part}
use Rattle.base.proofs.Tests.{by-test, some-there, same_true}
use Rattle.line.specs.Form.{plain_form}
use Rattle.line.specs.Line.{read_line, is_bad}
use Rattle.line.specs.Name.{byte_at}
use Rattle.line.specs.declared.Line.{Line}
use Rattle.line.specs.declared.Line.TheVariants.{Blank, Comment, Header, Entry, Bad}
use Rattle.rows.specs.Rows.{Row, line_of, group_after, read_rows}
use Rattle.rows.specs.Title.{Group, Key, title, title_of, same_title, find_row, has}
use Rattle.rows.specs.Find.{found_of}
use Rattle.rows.specs.declared.Row as told
use Rattle.rows.proofs.Reading.{header-good, no-group}
use Rattle.rows.proofs.Rows.{group_end}
use Rattle.rows.proofs.Told.{Told, told-row, found-row, reading-is, line-inside, line-stands}
use Rattle.actions.specs.Actions.{action_group, is_action}
use Rattle.actions.specs.Step.{group_if}

-- ---- a header that was found

module _ (file g : List ℕ) {r : Row} (i : find_row (read_rows file) (Group g) ≡ Some r) where
  abbrev line : List ℕ
  line = line_of r.bytes

  named : same_title (Group g) (title_of r.group line (read_line line)) ≡ true
  unfolding title
  named = let w = found-row file (Group g) r i in rw (reading-is file w) at w.passes

  -- a line with a group's title is a header in its own group
  header : (x : Line) → same_title (Group g) (title_of r.group line x) ≡ true → (is_bad x ≡ false) × (g ≡ r.group)
  unfolding same_title
  header Blank e = absurd (false≢true e)
  header Comment e = absurd (false≢true e)
  header (Header n) e = (refl, same_true g r.group e)
  header (Entry k n v) e = absurd (false≢true e)
  header (Bad n) e = absurd (false≢true e)

  headed : (read_line line ≡ Header (length line - 1)) × (2 < length line)
  headed =
      by-test (eqb (byte_at line 0) 91)
      (λ b. header-good line b (header (read_line line) named).0)
      (λ b. absurd (false≢true (sym (no-group r.group g line b) ∙ named)))

  own-group : r.group ≡ part 1 (length line - 1) line
  own-group =
      let w = found-row file (Group g) r i in
      let b : r.bytes ≡ w.bytes = ap (λ (x : Row). x.bytes) w.row in
      ap (λ (x : Row). x.group) w.row
      ∙ ap (λ (s : List ℕ). group_after (group_end [] w.xs) (line_of s) (read_line (line_of s))) (sym b)
      ∙ ap (group_after (group_end [] w.xs) line) headed.0

  name-stands : part (r.start + 1) (r.start + length line - 1) file ≡ g
  name-stands =
      let w = found-row file (Group g) r i in
      let n : r.start + length line - 1 ≡ r.start + (length line - 1) = omega (arith, headed.1) in
      rw n
      (sym (part-part 1 (length line - 1) r.start (r.start + length line) file (omega arith))
      ∙ ap (part 1 (length line - 1)) (line-stands file w)
      ∙ sym own-group
      ∙ sym (header (read_line line) named).1)

-- the name stands between the brackets of the header that was told
pub record Titled (file g : List ℕ) (p e : ℕ) : Type 0 where
  pub brackets : p + 2 ≤ e
  pub inside : e ≤ length file
  pub is : part (p + 1) (e - 1) file ≡ g
  pub there-is : has (read_rows file) (Group g) ≡ true

row-titled : (file g : List ℕ) (r : Row) (i : find_row (read_rows file) (Group g) ≡ Some r) {w : told.Row} → Told r w → Titled file g w.start w.end
row-titled file g r i b =
    record {
      brackets = omega (arith, (headed file g i).1, b.start_is, b.end_is);
      inside = rw b.end_is (line-inside file (found-row file (Group g) r i));
      is = rw (b.start_is, b.end_is) (name-stands file g i);
      there-is = rw i;
    }

pub titled : (file g : List ℕ) {w : told.Row} → found_of (find_row (read_rows file) (Group g)) ≡ Some w → Titled file g w.start w.end
titled file g {w} i =
    let a = told-row (find_row (read_rows file) (Group g)) w i in
    row-titled file g a.0 a.1 a.2

-- a group's name is no longer than the file
pub group-short : (file g : List ℕ) → has (read_rows file) (Group g) ≡ true → length g ≤ length file
group-short file g h =
    let a = some-there (find_row (read_rows file) (Group g)) h in
    let r = a.0 in
    let l = line-inside file (found-row file (Group g) r a.1) in
    let to : ℕ = r.start + length (line_of r.bytes) - 1 in
    let b : to ≤ length file = omega arith in
    omega (arith, ap length (name-stands file g a.1), length_part (r.start + 1) to file b)

-- ---- what is asked of an identifier

module _ (rs : List Row) (id : List ℕ) where
  abbrev group : List ℕ
  group = action_group id

  pub other-form : plain_form id ≡ false → is_action rs id ≡ false
  unfolding is_action
  other-form f = rw f

  pub no_header : find_row rs (Group group) ≡ None → is_action rs id ≡ false
  unfolding is_action
  no_header e = rw (e, and-false (plain_form id))

  pub no_name : find_row rs (Key group (ascii "Name")) ≡ None → is_action rs id ≡ false
  unfolding is_action
  no_name e = rw e (and-false (plain_form id && has rs (Group group)))

  pub an-action : plain_form id ≡ true → has rs (Group group) ≡ true → has rs (Key group (ascii "Name")) ≡ true → is_action rs id ≡ true
  unfolding is_action
  an-action f h k = rw (f, h, k)

-- ---- what the name of a group tells

pub group-none : (b : Bool) (id : List ℕ) {g : List ℕ} → g ≡ group_if b id → length g ≡ 0 → b ≡ false
group-none false id e n = refl
group-none true id e n = absurd (omega (arith, ap length e, length-append (ascii "Desktop Action ") id))

pub group-some : (b : Bool) (id : List ℕ) {g : List ℕ} → g ≡ group_if b id → (length g ≡ 0 → ⊥) → (b ≡ true) × (g ≡ action_group id)
group-some false id e n = absurd (n (ap length e))
group-some true id e n = (refl, e)
