-- The pass over the rows for the first boolean key with another value, in a file without bad lines. Assumes nothing.
use Rattle.std.specs.Prelude.{Ok, Err}
use mathlib.Core.Path.{◌≡◌, refl, sym, ◌∙◌}
use Prim.Native.Nat.{ℕ, ◌+◌, ◌-◌, ◌≤◌, ◌<◌}
use mathlib.Core.Bool.{Bool, true, false, not, ◌&&◌, ◌||◌, and-false}
use mathlib.Core.List.{List, []}
use lib.ListN.{length, take, drop}
use borrow.Author.Tests.{not-true, eq-eqb, ne_eqb}
use Rattle.base.specs.Lists.{same, part, any, first}
use Rattle.base.proofs.Tests.{or-both}
use Rattle.base.proofs.Search.{any_append}
use Rattle.fault.specs.declared.Fault.TheVariants.{Incomplete}
use Rattle.line.specs.Name.{byte_at}
use Rattle.line.specs.Line.{read_line, is_bad}
use Rattle.line.specs.declared.Line.{Line}
use Rattle.line.specs.declared.Line.TheVariants.{Blank, Comment, Header, Entry, Bad}
use Rattle.rows.specs.Rows.{Row, rows, rows_from, read_rows, value_start, raw_value}
use Rattle.rows.specs.Title.{desktop_entry, title_of, same_title}
use Rattle.rows.specs.Find.{line_length, none_bad}
use Rattle.rows.proofs.Step.{row_at, group_next, no_row, line_at, title-at, row_step, Prefix, prefix-start, prefix-rest, prefix-next}
use Rattle.rows.proofs.Reading.{header-good, group-stays}
use Rattle.complete.specs.Complete.{main, boolean_keys, is_boolean, bad_boolean, booleans}
use Rattle.complete.specs.Step.{boolean_key, wrong_in}

-- a row in a group is wrong if the group is Desktop Entry and its line is wrong
wrong_row : (g l : List ℕ) (r : Line) → (any (λ k. same_title (main k) (title_of g l r)) boolean_keys && not (is_boolean (drop (value_start r) l))) ≡ (same desktop_entry g && wrong_in l r)
unfolding same_title any boolean_key
wrong_row g l Blank = sym (and-false (same desktop_entry g))
wrong_row g l Comment = sym (and-false (same desktop_entry g))
wrong_row g l (Header e) = sym (and-false (same desktop_entry g))
wrong_row g l (Entry key name value) = go (same desktop_entry g)
  where
    go : (t : Bool) → (any (λ k. t && same k (take name l)) boolean_keys && not (is_boolean (drop value l))) ≡ (t && wrong_in l (Entry key name value))
    go true = refl
    go false = refl
wrong_row g l (Bad n) = sym (and-false (same desktop_entry g))

-- the rows from p on, the n-th and those that follow, have the answer;
-- inside says whether the row at p stands in Desktop Entry, unless it is a header
pub record BooleansFrom (s : List ℕ) (p n : ℕ) (inside : Bool) : Type 0 where
  pub group : List ℕ
  pub starts : Prefix s p n group
  pub within : inside ≡ same desktop_entry group
  pub good : none_bad s ≡ true
  pub goes : booleans (rows_from n p group (rows (drop p s))) ≡ booleans (read_rows s)

pub booleans-start : (s : List ℕ) → none_bad s ≡ true → BooleansFrom s 0 1 false
unfolding same read_rows
booleans-start s h = record { group = []; starts = prefix-start s; within = refl; good = h; goes = refl }

-- no row is left
pub booleans-end : {s : List ℕ} {p n : ℕ} {inside : Bool} → BooleansFrom s p n inside → length s ≤ p → Ok tt ≡ booleans (read_rows s)
unfolding booleans first rows_from
booleans-end {s} {p} w h = rw (no_row s p h) at w.goes

module _ {s : List ℕ} {p n : ℕ} {inside : Bool} (w : BooleansFrom s p n inside) {e : ℕ} (h : p < length s) (q : e ≡ p + line_length (drop p s)) where
  -- its line is good
  row-good : is_bad (read_line (part p e s)) ≡ false
  unfolding none_bad any
  row-good =
      let bad : Row → Bool = λ r. is_bad r.reading in
      let rest : List Row = rows_from (n + 1) (e + 1) (group_next s p e w.group) (rows (drop (e + 1) s)) in
      let a : (any bad (read_rows (take p s)) || (is_bad (read_line (part p e s)) || any bad rest)) ≡ false
      = rw (prefix-rest w.starts, any_append bad (read_rows (take p s)), row_step s h q n w.group) at (not-true (any bad (read_rows s)) w.good) in
      (or-both _ (any bad rest) (or-both (any bad (read_rows (take p s))) _ a).1).0

  -- it is wrong if it stands in Desktop Entry and its line is wrong
  wrong-at : bad_boolean (row_at s n p e w.group) ≡ (same desktop_entry (group_next s p e w.group) && wrong_in (part p e s) (read_line (part p e s)))
  unfolding bad_boolean raw_value
  wrong-at = rw (title-at s h q n w.group, line_at s h q) (wrong_row (group_next s p e w.group) (part p e s) (read_line (part p e s)))

  -- it is not wrong
  next : {inside : Bool} → bad_boolean (row_at s n p e w.group) ≡ false → inside ≡ same desktop_entry (group_next s p e w.group) → BooleansFrom s (e + 1) (n + 1) inside
  unfolding booleans first
  next f i =
      record {
        group = group_next s p e w.group;
        starts = prefix-next w.starts h q;
        within = i;
        good = w.good;
        goes = rw (row_step s h q n w.group, f) at w.goes;
      }

  -- ---- a row that starts with `[`

  module _ {b : ℕ} (i : b ≡ byte_at (part p e s) 0) (j : b ≡ 91) where
    -- it is a header, and its name is what stands between the two brackets
    pub is-header : (read_line (part p e s) ≡ Header (length (part p e s) - 1)) × (2 < length (part p e s))
    is-header = header-good (part p e s) (rw (← i) (eq-eqb b 91 j)) row-good

    pub after-header : BooleansFrom s (e + 1) (n + 1) (same desktop_entry (part 1 (length (part p e s) - 1) (part p e s)))
    after-header = let z = is-header.0 in next (wrong-at ∙ rw z (and-false (same desktop_entry (part 1 (length (part p e s) - 1) (part p e s))))) (rw z)

  -- ---- another row

  module _ {b : ℕ} (i : b ≡ byte_at (part p e s) 0) (j : b ≡ 91 → ⊥) where
    -- it leaves the group
    stays : group_next s p e w.group ≡ w.group
    stays = group-stays w.group (part p e s) (rw (← i) (ne_eqb b 91 j))

    plain_at : bad_boolean (row_at s n p e w.group) ≡ (inside && wrong_in (part p e s) (read_line (part p e s)))
    plain_at = wrong-at ∙ rw (stays, w.within)

    pub after-plain : (inside && wrong_in (part p e s) (read_line (part p e s))) ≡ false → BooleansFrom s (e + 1) (n + 1) inside
    after-plain f = next (plain_at ∙ f) (rw stays w.within)

    pub at-wrong : (inside && wrong_in (part p e s) (read_line (part p e s))) ≡ true → Err (Incomplete n) ≡ booleans (read_rows s)
    unfolding booleans first
    at-wrong f = rw (row_step s h q n w.group, plain_at, f) at w.goes
