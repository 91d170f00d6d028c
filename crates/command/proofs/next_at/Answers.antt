-- `next_at` meets its contract: a piece takes one byte or two. Assumes nothing.
use native.Mathlib.Omega.{arith}
use Rattle.command.proofs.Pieces.{width_fits}
use Rattle.command.proofs.next_at.Goals as goal

pub overflow_add-result : goal.overflow_add-result
overflow_add-result c = omega (arith, width_fits _ _ c.width_of.ensures)
