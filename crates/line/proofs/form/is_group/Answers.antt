-- `form::is_group` meets its contract: the tests that led to each return say which case of the definition holds. Assumes nothing.
use mathlib.Core.Path.{sym, ◌∙◌}
use Rattle.line.specs.Form.{group_form}
use Rattle.line.proofs.form.is_group.Goals as goal

pub returns-then-not-is_empty : goal.returns-then-not-is_empty
unfolding group_form
returns-then-not-is_empty c = rw (sym c.is_empty.ensures ∙ c.if-not-is_empty.true) c.all_in.ensures

pub returns-else-not-is_empty : goal.returns-else-not-is_empty
unfolding group_form
returns-else-not-is_empty c = rw (sym c.is_empty.ensures ∙ c.if-not-is_empty.false, c.if-not-is_empty.false)
