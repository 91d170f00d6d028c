-- `listed::group_asked` meets its contract: an action is listed if it is an element. Assumes nothing.
use mathlib.Core.Path.{sym, ◌∙◌}
use Rattle.actions.proofs.listed.group_asked.Goals as goal

pub returns-then-is_element : goal.returns-then-is_element
returns-then-is_element c = rw (sym c.is_element.ensures ∙ c.if-is_element.true) c.group_of.ensures

pub returns : goal.returns
returns c = rw (sym c.is_element.ensures ∙ c.if-is_element.false)
