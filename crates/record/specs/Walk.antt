-- What the functions of this crate answer, by the definitions of records. Assumes nothing.
use Rattle.std.specs.Prelude.{ℕ, zero, suc, ◌+◌, List, [], ◌∷◌, length, drop, Option, Some, None, option_map}
use Rattle.base.specs.Choice.{pick, maybe}
use Rattle.record.specs.Record.{Rec, head_length, record_length, length_at, record_at, whole, cut, read_list}
use Rattle.record.specs.declared.Front.{Front}
use Rattle.record.specs.declared.Bounds.{Bounds}

-- the record at a place: its kind and its end; none: no whole record
unfoldable pub front_at : List ℕ → ℕ → Option Front
front_at s at = pick (whole (drop at s)) (Some (record { kind = (record_at (drop at s)).kind; end = at + length_at (drop at s) })) None

-- what the record at a place holds; none: damaged
unfoldable pub read_at : {A : Type 0} → (Rec → Option A) → List ℕ → ℕ → Option A
read_at read s at = pick (whole (drop at s)) (read (record_at (drop at s))) None

-- how many records of a kind fill the bytes, of which there are at most so many; none: damaged
unfoldable pub count_of : ℕ → ℕ → List ℕ → Option ℕ
count_of kind most s = option_map length (read_list kind most s)

-- where the n-th body stands, among records from a place on
unfoldable pub bounds_from : List Rec → ℕ → ℕ → Option Bounds
bounds_from [] n at = None
bounds_from (r ∷ rs) zero at = Some (record { from = at + head_length; to = at + record_length r.body })
bounds_from (r ∷ rs) (suc n) at = bounds_from rs n (at + record_length r.body)

-- where the n-th body of a list stands; none in a damaged list
unfoldable pub nth_of : List ℕ → ℕ → Option Bounds
nth_of s n = maybe (cut s) None (λ rs. bounds_from rs n 0)
