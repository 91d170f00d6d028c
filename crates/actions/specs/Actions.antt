-- The actions of an application (02, A1): those that are listed, each with its label, and the expansion of an action's own Exec. Assumes nothing.
use Rattle.std.specs.Prelude.{ℕ, Bool, not, ◌&&◌, List, [], ◌∷◌, ◌++◌, Ok}
use Rattle.base.specs.Choice.{pick, maybe}
use Rattle.base.specs.Lists.{ascii, same, any}
use Rattle.fault.specs.declared.Fault.TheVariants.{BadArgument, Missing}
use Rattle.fault.specs.Answer.{Answer, ◌>>=◌, need, then}
use Rattle.record.specs.Record.{list_of}
use Rattle.text.specs.Element.{elements_of}
use Rattle.line.specs.Form.{plain_form, locale_form}
use Rattle.rows.specs.Rows.{Row, read_rows, raw_value}
use Rattle.rows.specs.Title.{desktop_entry, Group, Key, find_row, has}
use Rattle.wellformed.specs.Check.{check}
use Rattle.exec.specs.Expand.{asked_items, name_in, group_arguments}

-- the raw value of the list Actions; empty without one
unfoldable pub actions_value : List Row → List ℕ
actions_value rs = maybe (find_row rs (Key desktop_entry (ascii "Actions"))) [] raw_value

-- its identifiers, or 9
unfoldable pub identifiers : List Row → Answer (List (List ℕ))
identifiers rs = elements_of (actions_value rs)

-- an action's group
abbrev pub action_group : List ℕ → List ℕ
action_group id = ascii "Desktop Action " ++ id

-- an identifier in key form whose group exists and has a Name
unfoldable pub is_action : List Row → List ℕ → Bool
is_action rs id = plain_form id && has rs (Group (action_group id)) && has rs (Key (action_group id) (ascii "Name"))

-- it is an action's, and does not stand among those seen
abbrev pub is_new : List Row → List (List ℕ) → List ℕ → Bool
is_new rs seen id = is_action rs id && not (any (same id) seen)

-- the actions among some identifiers, each where it first stands; those seen stood before
unfoldable pub listed_from : List Row → List (List ℕ) → List (List ℕ) → List (List ℕ)
listed_from rs seen [] = []
listed_from rs seen (id ∷ ids) =
    let later : List (List ℕ) = listed_from rs (id ∷ seen) ids in
    pick (is_new rs seen id) (id ∷ later) later

-- the actions that are listed, in list order, or 9
unfoldable pub listed : List Row → Answer (List (List ℕ))
listed rs = then (listed_from rs []) (identifiers rs)

-- each identifier and its label, which is its group's Name by locale, or the first label's refusal
unfoldable pub labelled : List Row → List ℕ → List (List ℕ) → Answer (List (List ℕ))
labelled rs locale [] = Ok []
labelled rs locale (id ∷ ids) = do
  label ← name_in rs (action_group id) locale
  later ← labelled rs locale ids
  Ok (id ∷ label ∷ later)

-- the call that lists: 1 to 6, the locale (7), Actions (9), the labels in list order (9); records of kind 2, identifier then label
unfoldable pub actions : List ℕ → List ℕ → Answer (List ℕ)
actions file locale = do
  _ ← check file
  _ ← need (locale_form locale) BadArgument
  ids ← listed (read_rows file)
  bodies ← labelled (read_rows file) locale ids
  Ok (list_of 2 bodies)

-- the expansion of an action's own Exec: what every expansion asks, Actions (9), an identifier that is not listed (8), then as for the
-- application's Exec, with the action's Icon; the arguments as records of kind 3
unfoldable pub expand_action : List ℕ → List ℕ → List ℕ → List ℕ → List ℕ → ℕ → Answer (List ℕ)
expand_action file id locale location list run = do
  items ← asked_items file locale location list
  ids ← listed (read_rows file)
  _ ← need (any (same id) ids) Missing
  args ← group_arguments (read_rows file) (action_group id) locale location items run
  Ok (list_of 3 args)
