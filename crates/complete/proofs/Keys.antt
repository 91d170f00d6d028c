-- A plain key of Desktop Entry, by what is told of its row, and completeness where Type is there. Assumes nothing.
use Rattle.std.specs.Prelude.{Option, Some, None}
use mathlib.Core.Path.{◌≡◌, refl, sym, ◌∙◌}
use Prim.Native.Nat.{ℕ, ◌≤◌}
use mathlib.Core.Bool.{Bool, true, false, ◌&&◌}
use mathlib.Core.List.{List}
use lib.ListN.{length}
use Rattle.base.specs.Lists.{ascii, part}
use Rattle.fault.specs.declared.Fault.{Fault}
use Rattle.fault.specs.declared.Fault.TheVariants.{Incomplete}
use Rattle.fault.specs.Answer.{Answer, ◌>>=◌, need}
use Rattle.rows.specs.Rows.{Row, read_rows, raw_value}
use Rattle.rows.specs.Title.{find_row, has}
use Rattle.rows.specs.Find.{found_of}
use Rattle.rows.specs.declared.Row as told
use Rattle.rows.proofs.Told.{Told, told-row, told-nothing, found-row, value-stands, told_bounds}
use Rattle.complete.specs.Complete.{main, known_type, exec_where_due, url_where_due, booleans, complete_rows}
use Rattle.complete.specs.Step.{keys_there}

-- the row of a key that is there: its number, and where its value stands in the file
pub record KeyRow (f key : List ℕ) (w : told.Row) : Type 0 where
  pub row : Row
  pub found : find_row (read_rows f) (main key) ≡ Some row
  pub line-is : w.line ≡ row.line
  pub value-is : part w.value w.end f ≡ raw_value row
  pub value-le : w.value ≤ w.end
  pub end-le : w.end ≤ length f

-- its value stands between the places told
stands : (f key : List ℕ) {r : Row} {w : told.Row} → Told r w → find_row (read_rows f) (main key) ≡ Some r → part w.value w.end f ≡ raw_value r
unfolding raw_value
stands f key {r} t i = rw (t.end_is, t.value-is) (value-stands f (found-row f (main key) r i))

module _ (f key : List ℕ) {r : Option told.Row} (t : r ≡ found_of (find_row (read_rows f) (main key))) where
  pub key_row : {w : told.Row} → r ≡ Some w → KeyRow f key w
  key_row {w} i =
      let o = find_row (read_rows f) (main key) in
      let a = told-row o w (sym t ∙ i) in
      let b = told_bounds f (main key) w (sym t ∙ i) in
      record { row = a.0; found = a.1; line-is = a.2.line-is; value-is = stands f key a.2 a.1; value-le = b.1; end-le = b.2 }

  pub key-none : r ≡ None → find_row (read_rows f) (main key) ≡ None
  key-none i = told-nothing (find_row (read_rows f) (main key)) (sym t ∙ i)

-- ---- where Type is there

-- three needs with one refusal are one
need-all : (a b c : Bool) (f : Fault) (x : Answer (Unit {0})) → (need a f >>= λ _. need b f >>= λ _. need c f >>= λ _. x) ≡ (need (a && b && c) f >>= λ _. x)
need-all true true true f x = refl
need-all true true false f x = refl
need-all true false c f x = refl
need-all false b c f x = refl

pub complete-type : (rs : List Row) {row : Row} → find_row rs (main (ascii "Type")) ≡ Some row
    → complete_rows rs ≡ (need (known_type (raw_value row)) (Incomplete row.line) >>= λ _. need (keys_there rs) (Incomplete 0) >>= λ _. booleans rs)
unfolding complete_rows keys_there
complete-type rs i = rw (i, need-all (has rs (main (ascii "Name"))) (exec_where_due rs) (url_where_due rs) (Incomplete 0) (booleans rs))
