-- What the inner functions of this crate answer, by the definitions of actions. Assumes nothing.
use Rattle.std.specs.Prelude.{ℕ, Bool, false, List, [], ◌∷◌, length, take, Option}
use Rattle.base.specs.Choice.{pick}
use Rattle.base.specs.Lists.{part}
use Rattle.record.specs.Record.{list_of}
use Rattle.text.specs.Element.{raw_elements}
use Rattle.text.specs.Step.{spend}
use Rattle.rows.specs.Rows.{Row}
use Rattle.actions.specs.Actions.{action_group, is_new}

-- the elements of a raw list, as they stand
abbrev pub elements : List ℕ → List (List ℕ)
elements raw = raw_elements raw false

-- the group of an identifier, if it has one; else empty
abbrev pub group_if : Bool → List ℕ → List ℕ
group_if holds id = pick holds (action_group id) []

-- the element from i to e of a raw list is an action's that does not stand before
abbrev pub is_listed_at : List Row → List ℕ → ℕ → ℕ → Bool
is_listed_at rs raw i e = is_new rs (elements (take i raw)) (part i e raw)

-- the element, if it is listed there
abbrev pub listed_at : List Row → List ℕ → ℕ → ℕ → List (List ℕ)
listed_at rs raw i e = pick (is_listed_at rs raw i e) (part i e raw ∷ []) []

-- the room left after the records of some bodies
abbrev pub spend_list : Option ℕ → List (List ℕ) → Option ℕ
spend_list room bodies = spend room (length (list_of 2 bodies))
