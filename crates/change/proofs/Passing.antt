-- Going through the rows of a file with a group in mind: its last row, and the postfixed keys in it. Assumes nothing.
use Rattle.std.specs.Prelude.{Option, Some, None}
use mathlib.Core.Path.{◌≡◌, refl, sym, ap, ◌∙◌}
use Prim.Native.Nat.{ℕ, ◌+◌, ◌-◌, ◌≤◌, ◌<◌}
use native.Mathlib.Omega.{arith}
use mathlib.Core.Bool.{Bool, true, false, not, ◌&&◌, and-true, and-false, and_assoc}
use mathlib.Core.List.{List, [], ◌∷◌}
use lib.ListN.{length, take, drop, length-take, length-drop}
use lib.Seq.{take-take, length-take-le}
use lib.Dec.{eqb, ltb}
use borrow.Author.Tests.{eq-eqb, ne_eqb, eqb-true, eqb-false, ltb-true, ltb-false}
use Rattle.base.specs.Choice.{pick, maybe}
use Rattle.base.specs.Lists.{same, part, any, last}
use Rattle.base.proofs.Lists.{length_part}
use Rattle.base.proofs.Search.{any_append, last-append}
use Rattle.base.proofs.Tests.{by-test, same_true, same_refl}
use Rattle.line.specs.Line.{read_line}
use Rattle.line.specs.declared.Line.{Line}
use Rattle.line.specs.declared.Line.TheVariants.{Blank, Comment, Header, Entry, Bad}
use Rattle.line.proofs.Bounds.{line-within}
use Rattle.line.proofs.Entries.{entry_key}
use Rattle.rows.specs.Rows.{Row, rows, rows_from, read_rows, group_after, ended}
use Rattle.rows.specs.Title.{title_of, title}
use Rattle.rows.specs.Find.{line_length}
use Rattle.rows.proofs.Step.{row_at, group_next, end-le, length-line, line_at, title-at, row_step, Prefix, prefix-start, prefix-end, prefix-rest, prefix-read, prefix-next}
use Rattle.wellformed.specs.Check.{plain_of}
use Rattle.change.specs.Change.{of_group, postfix_of}
use Rattle.change.specs.Target.{slot, slot_of, named, postfix_in}
use Rattle.change.specs.declared.Slot.{Slot}

-- ---- what a line is to a group

-- the group's header or one of its entries
of-group : (group g l : List ℕ) (r : Line) → of_group group (title_of g l r) ≡ (same group g && named r)
of-group group g l Blank = sym (and-false (same group g))
of-group group g l Comment = sym (and-false (same group g))
of-group group g l (Header e) = sym (and-true (same group g))
of-group group g l (Entry key name value) = sym (and-true (same group g))
of-group group g l (Bad n) = sym (and-false (same group g))

-- two beginnings of a list are the same if they are as long
pub fronts : (l : List ℕ) (m n : ℕ) → m ≤ length l → n ≤ length l → same (take m l) (take n l) ≡ eqb m n
fronts l m n h k =
    by-test (eqb m n)
    (λ t. rw (t, eqb-true m n t) (same_refl (take n l)))
    (λ f. rw f (by-test (same (take m l) (take n l))
    (λ t. absurd (eqb-false m n f (sym (length-take-le m l h) ∙ ap length (same_true (take m l) (take n l) t) ∙ length-take-le n l k)))
    (λ e. e)))

-- an entry with a postfixed key
of-postfix : (group key g l : List ℕ) → postfix_of group key (title_of g l (read_line l)) ≡ (same group g && postfix_in key l (read_line l))
of-postfix group key g l = go (read_line l) refl
  where
    go : (r : Line) → read_line l ≡ r → postfix_of group key (title_of g l r) ≡ (same group g && postfix_in key l r)
    go Blank x = sym (and-false (same group g))
    go Comment x = sym (and-false (same group g))
    go (Header e) x = sym (and-false (same group g))
    go (Entry k name value) x =
        let b = rw x at (line-within l) in
        let p : plain_of (take name l) ≡ take k l = unfold plain_of in rw (entry_key l k name value x, take-take k name l b.1) in
        rw (p, fronts l k name (omega arith) (omega arith)) (and_assoc (same group g) (same key (take k l)) (not (eqb k name)))
    go (Bad n) x = sym (and-false (same group g))

-- ---- the row at a place

-- inside says whether the row at p stands in the group, unless it is a header
pub record Passing (s group : List ℕ) (p : ℕ) (inside : Bool) : Type 0 where
  pub line : ℕ
  pub before : List ℕ
  pub starts : Prefix s p line before
  pub within : inside ≡ same group before

unfoldable pub passing-start : (s group : List ℕ) {inside : Bool} → inside ≡ same group [] → Passing s group 0 inside
passing-start s group i = record { line = 1; before = []; starts = prefix-start s; within = i }

module _ {s group : List ℕ} {p : ℕ} {inside : Bool} (w : Passing s group p inside) {e : ℕ} (h : p < length s) (q : e ≡ p + line_length (drop p s)) where
  -- the row
  abbrev row : Row
  row = row_at s w.line p e w.before

  -- the group is known of the row
  module _ {now : Bool} (i : (g : List ℕ) → inside ≡ same group g → now ≡ same group (group_after g (part p e s) (read_line (part p e s)))) where
    pub passing-next : Passing s group (e + 1) now
    passing-next = record { line = w.line + 1; before = group_next s p e w.before; starts = prefix-next w.starts h q; within = i w.before w.within }

    row_of : of_group group (title row) ≡ (now && named (read_line (part p e s)))
    row_of = rw (title-at s h q w.line w.before, i w.before w.within) (of-group group (group_next s p e w.before) (part p e s) (read_line (part p e s)))

    row-postfix : (key : List ℕ) → postfix_of group key (title row) ≡ (now && postfix_in key (part p e s) (read_line (part p e s)))
    row-postfix key = rw (title-at s h q w.line w.before, i w.before w.within) (of-postfix group key (group_next s p e w.before) (part p e s))

  -- the rows up to the next place are those before, and it
  last-next : last (λ r. of_group group (title r)) (read_rows (take (e + 1) s))
      ≡ maybe (pick (of_group group (title row)) (Some row) None) (last (λ r. of_group group (title r)) (read_rows (take p s))) Some
  unfolding last
  last-next = rw (prefix-read w.starts h q, last-append (λ r. of_group group (title r)) (read_rows (take p s)) (row ∷ []))

  -- where it ends, and whether its LF is there
  row-ended : (t : Bool) → ltb e (length s) ≡ t → slot (p + length (part p (e + 1) s)) (ended (part p (e + 1) s)) ≡ pick t (slot (e + 1) true) (slot e false)
  unfolding ended
  row-ended true t =
      let k = ltb-true e (length s) t in
      let n : length (part p (e + 1) s) ≡ e + 1 - p = length_part p (e + 1) s (omega arith) in
      let m : p + (e + 1 - p) ≡ e + 1 = omega arith in
      rw (line_at s h q, length-line s h q, n, m, ne_eqb (e - p) (e + 1 - p) (λ z. omega arith))
  row-ended false f =
      let k = ltb-false e (length s) f in
      let n : length (part p (e + 1) s) ≡ e - p = simp (length-take, length-drop) (omega (arith, end-le s h q)) in
      let m : p + (e - p) ≡ e = omega arith in
      rw (line_at s h q, length-line s h q, n, m, eq-eqb (e - p) (e - p) refl)

-- ---- the group's last row

-- t is where an entry comes in behind the last row of the group before p
pub record Ending (s group : List ℕ) (p : ℕ) (inside : Bool) (t : Option Slot) : Type 0 where
  pub passing : Passing s group p inside
  pub so_far : t ≡ slot_of (last (λ r. of_group group (title r)) (read_rows (take p s)))

pub ending-start : (s group : List ℕ) {inside : Bool} → inside ≡ same group [] → Ending s group 0 inside None
unfolding read_rows rows rows_from last
ending-start s group i = record { passing = passing-start s group i; so_far = refl }

pub ending-end : {s group : List ℕ} {p : ℕ} {inside : Bool} {t : Option Slot} → Ending s group p inside t → length s ≤ p → t ≡ slot_of (last (λ r. of_group group (title r)) (read_rows s))
ending-end w h = rw (prefix-end w.passing.starts h) w.so_far

module _ {s group : List ℕ} {p : ℕ} {inside : Bool} {t : Option Slot} (w : Ending s group p inside t) {e : ℕ} (h : p < length s) (q : e ≡ p + line_length (drop p s)) {now : Bool} (i : (g : List ℕ) → inside ≡ same group g → now ≡ same group (group_after g (part p e s) (read_line (part p e s)))) where
  -- the row is the group's
  pub ending-row : (now && named (read_line (part p e s))) ≡ true → Ending s group (e + 1) now (Some (pick (ltb e (length s)) (slot (e + 1) true) (slot e false)))
  ending-row f =
      record {
        passing = passing-next w.passing h q i;
        so_far = rw (last-next w.passing h q, row_of w.passing h q i, f) (sym (ap Some (row-ended w.passing h q (ltb e (length s)) refl)));
      }

  -- it is not
  pub ending-other : (now && named (read_line (part p e s))) ≡ false → Ending s group (e + 1) now t
  ending-other f = record { passing = passing-next w.passing h q i; so_far = rw (last-next w.passing h q, row_of w.passing h q i, f) w.so_far }

-- ---- postfixed keys

-- no row before p is this key with a postfix
pub record Lone (s group key : List ℕ) (p : ℕ) (inside : Bool) : Type 0 where
  pub passing : Passing s group p inside
  pub so_far : any (λ r. postfix_of group key (title r)) (read_rows (take p s)) ≡ false

pub lone-start : (s group key : List ℕ) {inside : Bool} → inside ≡ same group [] → Lone s group key 0 inside
unfolding read_rows rows rows_from any
lone-start s group key i = record { passing = passing-start s group i; so_far = refl }

pub lone-end : {s group key : List ℕ} {p : ℕ} {inside : Bool} → Lone s group key p inside → length s ≤ p → false ≡ any (λ r. postfix_of group key (title r)) (read_rows s)
lone-end w h = rw (prefix-end w.passing.starts h) (sym w.so_far)

module _ {s group key : List ℕ} {p : ℕ} {inside : Bool} (w : Lone s group key p inside) {e : ℕ} (h : p < length s) (q : e ≡ p + line_length (drop p s)) {now : Bool} (i : (g : List ℕ) → inside ≡ same group g → now ≡ same group (group_after g (part p e s) (read_line (part p e s)))) where
  -- the row is one
  pub lone-not : (now && postfix_in key (part p e s) (read_line (part p e s))) ≡ true → true ≡ any (λ r. postfix_of group key (title r)) (read_rows s)
  unfolding any
  lone-not f =
      let t : Row → Bool = λ r. postfix_of group key (title r) in
      rw (
        prefix-rest w.passing.starts,
        any_append t (read_rows (take p s)),
        w.so_far,
        row_step s h q w.passing.line w.passing.before,
        row-postfix w.passing h q i key,
        f,
      )

  -- it is not
  pub lone-next : (now && postfix_in key (part p e s) (read_line (part p e s))) ≡ false → Lone s group key (e + 1) now
  unfolding any
  lone-next f =
      record {
        passing = passing-next w.passing h q i;
        so_far = rw (prefix-read w.passing.starts h q, any_append (λ r. postfix_of group key (title r)) (read_rows (take p s)), w.so_far, row-postfix w.passing h q i key, f);
      }
