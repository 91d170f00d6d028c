-- What the inner functions of this crate answer, by the definitions of a run. Assumes nothing.
use Rattle.std.specs.Prelude.{◌≡◌, ℕ, List, [], length}
use Rattle.base.specs.Bounds.{list_most}
use Rattle.base.specs.Choice.{maybe}
use Rattle.base.specs.Over.{at_front}
use Rattle.record.specs.Record.{read_list}
use Rattle.run.specs.Run.{Put}

-- the items of a list that reads
abbrev pub items_in : List ℕ → List (List ℕ)
items_in list = maybe (read_list 2 list_most list) [] (λ items. items)

-- what is put in, by the slices that hold it
abbrev pub put_of : List ℕ → List ℕ → List ℕ → Put
put_of item name location = record { item = item; name = name; location = location }

-- n bytes x were written to the start of a buffer s, which became t
pub record Wrote (s x : List ℕ) (n : ℕ) (t : List ℕ) : Type 0 where
  pub long : n ≡ length x
  pub is : t ≡ at_front s x
