-- `check_command` meets its contract: the faults from `i` on are all that can be found, and the codes there all that were not seen. Assumes nothing.
use Prim.Native.Nat.{◌-◌}
use lib.ListN.{length}
use Rattle.command.proofs.Checks.{Commanding}
use Rattle.command.proofs.check_command.Given as goal

abbrev pub invariant-loop-i : goal.invariant-loop-i
invariant-loop-i l = Commanding l.exec l.i l.program l.seen

abbrev pub decreases-loop-i : goal.decreases-loop-i
decreases-loop-i l = length l.exec - l.i
