-- `same_bytes` meets its contract. Assumes nothing.
use mathlib.Core.Path.{◌∙◌}
use Rattle.base.proofs.Tests.{pointwise_same}
use Rattle.wellformed.proofs.same_bytes.Goals as goal

pub returns : goal.returns
returns c = rw (← c.bytes.ensures, ← c.bytes-2.ensures) (c.eq.ensures ∙ pointwise_same _ _)
