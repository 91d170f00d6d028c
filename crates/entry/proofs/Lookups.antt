-- The ends of a value that was found: they lie in the file, and the value stands between them. Assumes nothing.
use Rattle.std.specs.Prelude.{Option, Some, None, Ok, Err}
use mathlib.Core.Path.{◌≡◌, refl, ap}
use Prim.Native.Nat.{ℕ, ◌≤◌}
use native.Mathlib.Omega.{arith}
use mathlib.Core.Bool.{Bool, true, false, ◌&&◌}
use mathlib.Core.List.{List}
use lib.ListN.{length}
use Rattle.fault.specs.declared.Fault.TheVariants.{BadArgument, Missing}
use Rattle.fault.specs.Answer.{Answer, ◌>>=◌, need, some_or, then}
use Rattle.base.specs.Lists.{part, first}
use Rattle.choice.specs.Locale.{stripped_title, find_stripped, chosen}
use Rattle.choice.proofs.Chosen.{chosen_by}
use Rattle.line.specs.Form.{group_form, key_form, plain_form, locale_form}
use Rattle.rows.specs.Rows.{Row, read_rows, raw_value}
use Rattle.rows.specs.Title.{Title, Key, title, same_title, find_row}
use Rattle.rows.specs.Find.{found_of}
use Rattle.rows.proofs.Told.{found-by, line-inside, value-inside, value-stands}
use Rattle.wellformed.specs.Check.{check}
use Rattle.entry.specs.Choose.{chosen_ends, choose}
use Rattle.entry.specs.Lookup.{value_ends, lookup, ends_of}
use Rattle.entry.specs.declared.Ends.{Ends}

-- what finding tells is what the definition gives
pub ends-answer : (o : Option Row) → ends_of (found_of o) ≡ (some_or o Missing >>= λ r. Ok (value_ends r))
unfolding value_ends
ends-answer None = refl
ends-answer (Some r) = refl

-- ends in their order, inside n bytes
abbrev pub Inside : ℕ → Answer Ends → Type 0
Inside n (Ok x) = (x.from ≤ x.to) × (x.to ≤ n)
Inside n (Err f) = Unit

-- a row that was found by a test
module _ (file : List ℕ) (p : Row → Bool) (r : Row) (e : first p (read_rows file) ≡ Some r) where
  pub first-inside : Inside (length file) (Ok (value_ends r))
  unfolding value_ends
  first-inside =
      let w = found-by file p r e in
      let l = line-inside file w in
      let m = value-inside file w in
      (omega arith, omega arith)

  -- its value stands between its ends
  pub first-stands : part (value_ends r).from (value_ends r).to file ≡ raw_value r
  unfolding value_ends raw_value
  first-stands = value-stands file (found-by file p r e)

-- the same of one that was found by its title
module _ (file : List ℕ) (t : Title) (r : Row) (e : find_row (read_rows file) t ≡ Some r) where
  pub row_inside : Inside (length file) (Ok (value_ends r))
  unfolding find_row
  row_inside = first-inside file (λ s. same_title t (title s)) r e

  pub row-stands : part (value_ends r).from (value_ends r).to file ≡ raw_value r
  unfolding find_row
  row-stands = first-stands file (λ s. same_title t (title s)) r e

pub lookup-inside : (file group key : List ℕ) → Inside (length file) (lookup file group key)
unfolding lookup
lookup-inside file group key = by (check file) (group_form group && key_form key) (find_row (read_rows file) (Key group key)) refl
  where
    by : (a : Answer (Unit {0})) (t : Bool) (o : Option Row) → find_row (read_rows file) (Key group key) ≡ o
        → Inside (length file) (a >>= λ _. (need t BadArgument >>= λ _. (some_or o Missing >>= λ r. Ok (value_ends r))))
    by (Err f) t o e = tt
    by (Ok tt) false o e = tt
    by (Ok tt) true None e = tt
    by (Ok tt) true (Some r) e = row_inside file (Key group key) r e

-- ---- choice

module _ (file group key locale : List ℕ) where
  -- the row that is chosen was found by a key, encodings apart
  pub chosen-found : (r : Row) → chosen (read_rows file) group key locale ≡ Some r → (p : Row → Bool) × (first p (read_rows file) ≡ Some r)
  unfolding find_stripped
  chosen-found r e = let w = chosen_by (read_rows file) group key locale r e in (λ s. same_title (Key group w.0) (stripped_title (title s)), w.1)

  pub chosen-inside : Inside (length file) (chosen_ends (read_rows file) group key locale)
  chosen-inside = by (chosen (read_rows file) group key locale) refl
    where
      by : (o : Option Row) → chosen (read_rows file) group key locale ≡ o → Inside (length file) (some_or o Missing >>= λ r. Ok (value_ends r))
      by None e = tt
      by (Some r) e = let w = chosen-found r e in first-inside file w.0 r w.1

  pub choose-inside : Inside (length file) (choose file group key locale)
  unfolding choose
  choose-inside = by (check file) (group_form group && plain_form key && locale_form locale)
    where
      by : (a : Answer (Unit {0})) (t : Bool) → Inside (length file) (a >>= λ _. (need t BadArgument >>= λ _. chosen_ends (read_rows file) group key locale))
      by (Err f) t = tt
      by (Ok tt) false = tt
      by (Ok tt) true = chosen-inside

  -- between its ends stands the raw value of the row that is chosen
  pub chosen-stands : then (λ e. part e.from e.to file) (chosen_ends (read_rows file) group key locale)
      ≡ then raw_value (some_or (chosen (read_rows file) group key locale) Missing)
  chosen-stands = by (chosen (read_rows file) group key locale) refl
    where
      by : (o : Option Row) → chosen (read_rows file) group key locale ≡ o
          → then (λ e. part e.from e.to file) (some_or o Missing >>= λ r. Ok (value_ends r)) ≡ then raw_value (some_or o Missing)
      by None e = refl
      by (Some r) e = let w = chosen-found r e in ap Ok (first-stands file w.0 r w.1)
