-- `codes::width_of` meets its contract: the tests that led to each return say which case of the definition holds. Assumes nothing.
use mathlib.Core.Path.{sym, ◌∙◌}
use Rattle.command.specs.Command.{width_of}
use Rattle.command.proofs.codes.width_of.Goals as goal

pub returns-then-takes_next : goal.returns-then-takes_next
unfolding width_of
returns-then-takes_next c = rw (sym c.takes_next.ensures ∙ c.if-takes_next.true)

pub returns : goal.returns
unfolding width_of
returns c = rw (sym c.takes_next.ensures ∙ c.if-takes_next.false)
