-- Name and Icon in an expansion, and the labels of actions, are those that the public choice of language hands back. Assumes nothing.
use Rattle.std.specs.Prelude.{◌≡◌, ℕ, true, List, [], eqb, Ok, Err}
use Rattle.base.specs.Choice.{pick}
use Rattle.base.specs.Lists.{ascii}
use Rattle.fault.specs.Table.{number_of}
use Rattle.fault.specs.Answer.{Answer, ◌>>=◌}
use Rattle.text.specs.Escape.{read_text}
use Rattle.line.specs.Form.{group_form, locale_form}
use Rattle.rows.specs.Rows.{read_rows}
use Rattle.wellformed.specs.Check.{check}
use Rattle.exec.specs.Expand.{name_in, icon_text}
use Rattle.demands.specs.Files.{chosen_part}

-- no bytes where the refusal is 8, and every other answer as it is
abbrev pub or_none : Answer (List ℕ) → Answer (List ℕ)
or_none (Ok raw) = Ok raw
or_none (Err f) = pick (eqb (number_of f) 8) (Ok []) (Err f)

-- The Name of a group, the application's where its code stands in Exec and an action's as its label, is the text of what choice hands back, or
-- choice's own refusal.
unfoldable pub NameIsChosen : Type 0
NameIsChosen = (file group locale : List ℕ) → check file ≡ Ok tt → group_form group ≡ true → locale_form locale ≡ true
    → name_in (read_rows file) group locale ≡ (chosen_part file group (ascii "Name") locale >>= read_text)

-- Icon, where its code stands in Exec, is the same of its group, and none where choice is refused with 8
unfoldable pub IconIsChosen : Type 0
IconIsChosen = (file group locale : List ℕ) → check file ≡ Ok tt → group_form group ≡ true → locale_form locale ≡ true
    → icon_text (read_rows file) group locale true ≡ (or_none (chosen_part file group (ascii "Icon") locale) >>= read_text)
