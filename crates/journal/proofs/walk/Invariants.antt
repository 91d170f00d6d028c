-- `journal::walk` meets its contract: the records up to the place stand, and those from there on decide. Assumes nothing.
use Prim.Native.Nat.{◌-◌}
use Rattle.journal.proofs.Walking.{Walking}
use Rattle.journal.proofs.walk.Given as goal

abbrev pub invariant-loop-at : goal.invariant-loop-at
invariant-loop-at l = Walking l.used l.standing l.at l.last

abbrev pub decreases-loop-at : goal.decreases-loop-at
decreases-loop-at l = l.standing - l.at
