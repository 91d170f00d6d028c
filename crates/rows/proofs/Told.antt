-- What is told of a row that was found: it stands in the file between the places told. Assumes nothing.
use Rattle.std.specs.Prelude.{Option, Some, None, is_some}
use mathlib.Core.Path.{◌≡◌, refl, sym, ap, ◌∙◌}
use Prim.Native.Nat.{ℕ, ◌+◌, ◌-◌, ◌≤◌}
use native.Mathlib.Nat.{add-zero}
use native.Mathlib.Omega.{arith}
use mathlib.Core.Bool.{Bool}
use mathlib.Core.List.{List, [], ◌∷◌, ◌++◌, append_assoc}
use lib.ListN.{length, take, drop, length-append, length-drop}
use lib.Seq.{take_at, drop_at, drop-drop, drop-append-le}
use Rattle.base.specs.Choice.{there}
use Rattle.base.specs.Lists.{part, first, joined}
use Rattle.base.proofs.Tests.{no}
use Rattle.base.proofs.Lists.{joined-append}
use Rattle.line.specs.Line.{read_line}
use Rattle.rows.specs.Rows.{Row, rows, line_of, read_rows, value_start}
use Rattle.rows.specs.Title.{Title, title, same_title, find_row}
use Rattle.rows.specs.Find.{found_of}
use Rattle.rows.specs.declared.Row as told
use Rattle.rows.proofs.Rows.{joined-rows, row-split, Found, found_first}
use Rattle.rows.proofs.Reading.{value-le}

-- ---- the row behind what is told

-- the places of a row
pub record Told (r : Row) (w : told.Row) : Type 0 where
  pub line-is : w.line ≡ r.line
  pub start_is : w.start ≡ r.start
  pub end_is : w.end ≡ r.start + length (line_of r.bytes)
  pub value-is : w.value ≡ r.start + value_start r.reading

pub told-row : (o : Option Row) (w : told.Row) → found_of o ≡ Some w → (r : Row) × (o ≡ Some r) × Told r w
told-row None w i = no (cc)
told-row (Some r) w i = (r, refl, record { line-is = cc; start_is = cc; end_is = cc; value-is = cc })

pub told-nothing : (o : Option Row) → found_of o ≡ None → o ≡ None
told-nothing None i = refl
told-nothing (Some r) i = no (cc)

-- a search found a row where there is one
pub found-there : (o : Option Row) {f : Option told.Row} {b : Bool} → b ≡ is_some f → f ≡ found_of o → there o ≡ b
found-there None x y = rw (x, y)
found-there (Some r) x y = rw (x, y)

-- ---- the row in the file

pub found-by : (f : List ℕ) (p : Row → Bool) (r : Row) → first p (read_rows f) ≡ Some r → Found p 0 [] (rows f) r
unfolding read_rows
found-by f p r e = found_first p (rows f) 1 0 [] r e

pub found-row : (f : List ℕ) (t : Title) (r : Row) → find_row (read_rows f) t ≡ Some r → Found (λ r. same_title t (title r)) 0 [] (rows f) r
unfolding find_row
found-row f t r e = found-by f (λ r. same_title t (title r)) r e

module _ (f : List ℕ) {p : Row → Bool} {r : Row} (w : Found p 0 [] (rows f) r) where
  -- its line is read
  pub reading-is : r.reading ≡ read_line (line_of r.bytes)
  reading-is = rw w.row

  start_is : r.start ≡ length (joined w.xs)
  start_is = rw w.row (omega arith)

  bytes-is : r.bytes ≡ w.bytes
  bytes-is = rw w.row

  -- the file: what stands before it, its line, and what follows
  around : f ≡ joined w.xs ++ (line_of r.bytes ++ (drop (length (line_of r.bytes)) r.bytes ++ joined w.ys))
  unfolding joined
  around =
      sym (joined-rows f)
      ∙ ap joined w.is
      ∙ joined-append w.xs (w.bytes ∷ w.ys)
      ∙ rw (← append_assoc (line_of r.bytes) (drop (length (line_of r.bytes)) r.bytes) (joined w.ys), row-split r.bytes, bytes-is)

  -- its line ends inside the file
  pub line-inside : r.start + length (line_of r.bytes) ≤ length f
  line-inside =
      let rest : List ℕ = drop (length (line_of r.bytes)) r.bytes ++ joined w.ys in
      omega (arith, start_is, ap length around, length-append (joined w.xs) (line_of r.bytes ++ rest), length-append (line_of r.bytes) rest)

  -- what stands in the file from a place of its line up to the line's end
  pub rest-stands : (k : ℕ) → k ≤ length (line_of r.bytes) → part (r.start + k) (r.start + length (line_of r.bytes)) f ≡ drop k (line_of r.bytes)
  rest-stands k h =
      let l : List ℕ = line_of r.bytes in
      let rest : List ℕ = drop (length l) r.bytes ++ joined w.ys in
      let n : r.start + length l - (r.start + k) ≡ length l - k = omega arith in
      rw (n, ← drop-drop k r.start f)
      (ap (λ (s : List ℕ). take (length l - k) (drop k (drop r.start s))) around
      ∙ rw (drop_at (joined w.xs) (l ++ rest) r.start (sym start_is), drop-append-le k l rest h) (take_at (drop k l) rest (length l - k) (length-drop k l)))

  pub line-stands : part r.start (r.start + length (line_of r.bytes)) f ≡ line_of r.bytes
  line-stands = rw add-zero at (rest-stands 0 (omega arith))

  -- its value starts in its line
  pub value-inside : value_start r.reading ≤ length (line_of r.bytes)
  value-inside = rw reading-is (value-le (line_of r.bytes))

  pub value-stands : part (r.start + value_start r.reading) (r.start + length (line_of r.bytes)) f ≡ drop (value_start r.reading) (line_of r.bytes)
  value-stands = rest-stands (value_start r.reading) value-inside

-- ---- the places told, in their order

pub told_bounds : (f : List ℕ) (t : Title) (w : told.Row) → found_of (find_row (read_rows f) t) ≡ Some w → (w.start ≤ w.value) × (w.value ≤ w.end) × (w.end ≤ length f)
told_bounds f t w i =
    let a = told-row (find_row (read_rows f) t) w i in
    let s = found-row f t a.0 a.1 in
    let l = line-inside f s in
    let m = value-inside f s in
    let b = a.2 in
    (omega arith, omega arith, omega arith)
