-- The walk through the rows of a file without bad lines: what is asked of the rows from a place on. Assumes nothing.
use Rattle.std.specs.Prelude.{Option, Some, None}
use mathlib.Core.Path.{◌≡◌, refl, sym, ◌∙◌}
use Prim.Native.Nat.{ℕ, ◌+◌, ◌-◌, ◌≤◌, ◌<◌}
use native.Mathlib.Nat.{add-zero}
use native.Mathlib.Omega.{arith}
use mathlib.Core.Bool.{Bool, true, false, ◌&&◌}
use mathlib.Core.List.{List, [], ◌∷◌}
use lib.ListN.{length, drop}
use lib.Dec.{eqb, eqb-suc-zero}
use borrow.Author.Tests.{not-true}
use Rattle.base.specs.Lists.{same, part, any, first}
use Rattle.base.proofs.Tests.{or-both}
use Rattle.line.specs.Name.{byte_at, read_name}
use Rattle.line.specs.Line.{read_line, is_bad}
use Rattle.line.specs.declared.Line.TheVariants.{Header}
use Rattle.rows.specs.Rows.{Row, rows, rows_from, read_rows, value_start}
use Rattle.rows.specs.Title.{Title, Group, Key, same_title, find_row}
use Rattle.rows.specs.Find.{line_length, none_bad, found_of, named_as, inside_after}
use Rattle.rows.specs.declared.Row as told
use Rattle.rows.proofs.Step.{row_at, group_next, title_at, no_row, start-le, end-le, length-line, line_at, title-at, row_step}
use Rattle.rows.proofs.Reading.{value-le, header-good, no-group, inside-after, key-title}

-- the value of the row that starts at p lies in the file
pub value-fits : (s : List ℕ) {p e v : ℕ} → p < length s → e ≡ p + line_length (drop p s) → v ≡ value_start (read_line (part p e s)) → p + v ≤ length s
value-fits s {p} {e} h q i = omega (arith, end-le s h q, start-le s h q, length-line s h q, value-le (part p e s))

-- a row that is told by its places
abbrev pub told_at : ℕ → ℕ → ℕ → ℕ → Option told.Row
told_at n p e v = Some (record { line = n; start = p; end = e; value = v })

-- what f says of the rows from p on, the n-th and those that follow, is the answer a, and none of them is bad
pub record Seek (s : List ℕ) (f : List Row → Option told.Row) (a : Option told.Row) (p n : ℕ) : Type 0 where
  pub group : List ℕ
  pub few : n ≤ p + 1
  pub good : any (λ r. is_bad r.reading) (rows_from n p group (rows (drop p s))) ≡ false
  pub goes : f (rows_from n p group (rows (drop p s))) ≡ a

pub seek-start : (s : List ℕ) (f : List Row → Option told.Row) → none_bad s ≡ true → Seek s f (f (read_rows s)) 0 1
unfolding none_bad read_rows
seek-start s f h = record { group = []; few = omega arith; good = not-true _ h; goes = refl }

-- no row is left
pub seek-end : {s : List ℕ} {f : List Row → Option told.Row} {a : Option told.Row} {p n : ℕ} → Seek s f a p n → length s ≤ p → f [] ≡ a
unfolding rows_from
seek-end {s} {f} {a} {p} {n} w h = rw (no_row s p h) at w.goes

module _ {s : List ℕ} {f : List Row → Option told.Row} {a : Option told.Row} {p n : ℕ} (w : Seek s f a p n) {e : ℕ} (h : p < length s) (q : e ≡ p + line_length (drop p s)) where
  rest-good : (is_bad (read_line (part p e s)) ≡ false) × (any (λ r. is_bad r.reading) (rows_from (n + 1) (e + 1) (group_next s p e w.group) (rows (drop (e + 1) s))) ≡ false)
  unfolding any
  rest-good = or-both _ _ (rw (row_step s h q n w.group) at w.good)

  -- its line is good
  pub seek-good : is_bad (read_line (part p e s)) ≡ false
  seek-good = rest-good.0

  -- the rest goes on by g
  pub seek-next : (g : List Row → Option told.Row) → ((rs : List Row) → f (row_at s n p e w.group ∷ rs) ≡ g rs) → Seek s g a (e + 1) (n + 1)
  seek-next g i =
      record {
        group = group_next s p e w.group;
        few = omega (arith, w.few);
        good = rest-good.1;
        goes = sym (i _) ∙ (rw (row_step s h q n w.group) at w.goes);
      }

  -- the answer is there
  seek_hit : {x : Option told.Row} → ((rs : List Row) → f (row_at s n p e w.group ∷ rs) ≡ x) → x ≡ a
  seek_hit i = sym (i _) ∙ (rw (row_step s h q n w.group) at w.goes)

  -- a row that starts with `[` is a header, and its name is what stands between the two brackets
  pub seek-header : true ≡ eqb (byte_at (part p e s) 0) 91 → (read_line (part p e s) ≡ Header (length (part p e s) - 1)) × (2 < length (part p e s))
  seek-header b = header-good (part p e s) (sym b) seek-good

  -- what is told of the row
  pub seek-told : found_of (Some (row_at s n p e w.group)) ≡ told_at n p e (p + value_start (read_line (part p e s)))
  seek-told =
      let z : p + length (part p e s) ≡ e = omega (arith, length-line s h q, start-le s h q) in
      rw (line_at s h q, z)

-- ---- a title

-- what is told of the first row of a title
abbrev pub finding : Title → List Row → Option told.Row
finding t rs = found_of (find_row rs t)

-- no row is left
pub title-end : (t : Title) {s : List ℕ} {a : Option told.Row} {p n : ℕ} → Seek s (finding t) a p n → length s ≤ p → None ≡ a
unfolding find_row first
title-end t w h = seek-end w h

module _ (t : Title) {s : List ℕ} {a : Option told.Row} {p n : ℕ} (w : Seek s (finding t) a p n) {e : ℕ} (h : p < length s) (q : e ≡ p + line_length (drop p s)) where
  -- it has another title
  title-other : same_title t (title_at s p e w.group) ≡ false → Seek s (finding t) a (e + 1) (n + 1)
  unfolding find_row first
  title-other b = seek-next w h q (finding t) (λ rs. rw (title-at s h q n w.group, b))

  -- it has the title
  title-hit : same_title t (title_at s p e w.group) ≡ true → told_at n p e (p + value_start (read_line (part p e s))) ≡ a
  unfolding find_row first
  title-hit b = seek_hit w h q (λ rs. rw (title-at s h q n w.group, b) (seek-told w h q))

-- ---- a group's header

module _ (g : List ℕ) {s : List ℕ} {a : Option told.Row} {p n : ℕ} (w : Seek s (finding (Group g)) a p n) {e : ℕ} (h : p < length s) (q : e ≡ p + line_length (drop p s)) where
  pub group-plain : false ≡ eqb (byte_at (part p e s) 0) 91 → Seek s (finding (Group g)) a (e + 1) (n + 1)
  group-plain b = title-other (Group g) w h q (no-group (group_next s p e w.group) g (part p e s) (sym b))

  header-title : true ≡ eqb (byte_at (part p e s) 0) 91 → same_title (Group g) (title_at s p e w.group) ≡ same g (part 1 (length (part p e s) - 1) (part p e s))
  unfolding same_title
  header-title b = rw (seek-header w h q b).0

  pub group-other : true ≡ eqb (byte_at (part p e s) 0) 91 → false ≡ same g (part 1 (length (part p e s) - 1) (part p e s)) → Seek s (finding (Group g)) a (e + 1) (n + 1)
  group-other b i = title-other (Group g) w h q (header-title b ∙ sym i)

  pub group-hit : true ≡ eqb (byte_at (part p e s) 0) 91 → true ≡ same g (part 1 (length (part p e s) - 1) (part p e s)) → told_at n p e p ≡ a
  group-hit b i = rw ((seek-header w h q b).0, add-zero) at (title-hit (Group g) w h q (header-title b ∙ sym i))

-- ---- a group's rows

-- inside says whether what stands before p stands in the group that is asked for
pub record SeekIn (s g : List ℕ) (f : List Row → Option told.Row) (a : Option told.Row) (p n : ℕ) (inside : Bool) : Type 0 where
  pub seek : Seek s f a p n
  pub within : inside ≡ same g seek.group

pub same_none : (g : List ℕ) → eqb (length g) 0 ≡ same g []
unfolding same
same_none [] = refl
same_none (b ∷ g) = eqb-suc-zero (length g)

pub in_start : (s g : List ℕ) (f : List Row → Option told.Row) → none_bad s ≡ true → SeekIn s g f (f (read_rows s)) 0 1 (eqb (length g) 0)
unfolding seek-start
in_start s g f h = record { seek = seek-start s f h; within = same_none g }

module _ {s g : List ℕ} {f : List Row → Option told.Row} {a : Option told.Row} {p n : ℕ} {inside : Bool} (w : SeekIn s g f a p n inside) {e : ℕ} (h : p < length s) (q : e ≡ p + line_length (drop p s)) where
  -- whether the row stands in it
  pub in_row : inside_after g (part p e s) inside (read_line (part p e s)) ≡ same g (group_next s p e w.seek.group)
  in_row = rw w.within (inside-after g w.seek.group (part p e s))

  pub in-next : (i : List Row → Option told.Row) → ((rs : List Row) → f (row_at s n p e w.seek.group ∷ rs) ≡ i rs)
      → SeekIn s g i a (e + 1) (n + 1) (inside_after g (part p e s) inside (read_line (part p e s)))
  unfolding seek-next
  in-next i j = record { seek = seek-next w.seek h q i j; within = in_row }

-- ---- a key in a group

module _ (g k : List ℕ) {s : List ℕ} {a : Option told.Row} {p n : ℕ} {inside : Bool} (w : SeekIn s g (finding (Key g k)) a p n inside) {e : ℕ} (h : p < length s) (q : e ≡ p + line_length (drop p s)) where
  has_key : same_title (Key g k) (title_at s p e w.seek.group)
      ≡ (inside_after g (part p e s) inside (read_line (part p e s)) && named_as k (part p e s) (read_name (part p e s)))
  has_key = rw (in_row w h q) (key-title (group_next s p e w.seek.group) g k (part p e s) (seek-good w.seek h q))

  pub key-hit : (inside_after g (part p e s) inside (read_line (part p e s)) && named_as k (part p e s) (read_name (part p e s))) ≡ true
      → told_at n p e (p + value_start (read_line (part p e s))) ≡ a
  key-hit i = title-hit (Key g k) w.seek h q (has_key ∙ i)

  pub key-other : (inside_after g (part p e s) inside (read_line (part p e s)) && named_as k (part p e s) (read_name (part p e s))) ≡ false
      → SeekIn s g (finding (Key g k)) a (e + 1) (n + 1) (inside_after g (part p e s) inside (read_line (part p e s)))
  unfolding find_row first
  key-other i = in-next w h q (finding (Key g k)) (λ rs. rw (title-at s h q n w.seek.group, has_key, i))
