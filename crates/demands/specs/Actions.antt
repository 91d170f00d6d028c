-- The listed actions, by the public calls: what the list reads back to, which can be asked for, and that none is listed twice (02, A1). Assumes nothing.
use Rattle.std.specs.Prelude.{◌≡◌, ℕ, Bool, true, List, [], ◌∷◌, map, length, Some, Ok, Err}
use Rattle.base.specs.Choice.{pick}
use Rattle.base.specs.Lists.{same, any}
use Rattle.fault.specs.declared.Fault.TheVariants.{Missing}
use Rattle.fault.specs.Answer.{◌>>=◌, then}
use Rattle.record.specs.Record.{read_list, list_of}
use Rattle.rows.specs.Rows.{read_rows}
use Rattle.rows.specs.Title.{Group}
use Rattle.wellformed.specs.WellFormed.{distinct}
use Rattle.exec.specs.Expand.{asked_items, group_arguments}
use Rattle.actions.specs.Actions.{action_group, actions, expand_action}

-- an action as it is listed
pub record Action : Type 0 where
  pub id : List ℕ
  pub label : List ℕ

-- the bodies of actions: each identifier, then its label
unfoldable pub bodies : List Action → List (List ℕ)
bodies [] = []
bodies (a ∷ menu) = a.id ∷ a.label ∷ bodies menu

-- an accepted list reads back to these actions
pub record Menu (file locale : List ℕ) (menu : List Action) : Type 0 where
  pub out : List ℕ
  pub is : actions file locale ≡ Ok out
  pub reads_back : read_list 2 (length out) out ≡ Some (bodies menu)

-- an identifier is among those listed
abbrev pub is_listed : List ℕ → List Action → Bool
is_listed id menu = any (λ a. same id a.id) menu

-- every accepted list reads back to actions
unfoldable pub ListReadsBack : Type 0
ListReadsBack = (file locale out : List ℕ) → actions file locale ≡ Ok out → (menu : List Action) × (m : Menu file locale menu) × (m.out ≡ out)

-- An action that is listed is expanded by its own Exec, whatever the language; every other identifier is 8, once what every expansion asks is in order.
unfoldable pub ListedCanBeAsked : Type 0
ListedCanBeAsked = (file language : List ℕ) (menu : List Action) → Menu file language menu → (id locale location list : List ℕ) (run : ℕ)
    → expand_action file id locale location list run
    ≡ (asked_items file locale location list >>= λ items.
    pick (is_listed id menu) (then (list_of 3) (group_arguments (read_rows file) (action_group id) locale location items run)) (Err Missing))

-- no two actions that are listed have one identifier
unfoldable pub NoneListedTwice : Type 0
NoneListedTwice = (file locale : List ℕ) (menu : List Action) → Menu file locale menu → distinct (map (λ a. Group a.id) menu) ≡ true
