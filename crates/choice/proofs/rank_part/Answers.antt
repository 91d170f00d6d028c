-- `rank_part` meets its contract: the parts are compared, then the length of the one that is there. Assumes nothing.
use mathlib.Core.Path.{sym, ◌∙◌}
use Rattle.base.proofs.Tests.{pointwise_same}
use Rattle.choice.specs.Step.{rank_part}
use Rattle.choice.proofs.rank_part.Goals as goal

pub returns-then-eq : goal.returns-then-eq
unfolding rank_part
returns-then-eq c = rw (← pointwise_same, sym c.eq.ensures ∙ c.if-eq.true)

pub returns-then-is_empty : goal.returns-then-is_empty
unfolding rank_part
returns-then-is_empty c = rw (← pointwise_same, sym c.eq.ensures ∙ c.if-eq.false, sym c.is_empty.ensures ∙ c.if-is_empty.true)

pub returns : goal.returns
unfolding rank_part
returns c = rw (← pointwise_same, sym c.eq.ensures ∙ c.if-eq.false, sym c.is_empty.ensures ∙ c.if-is_empty.false)
