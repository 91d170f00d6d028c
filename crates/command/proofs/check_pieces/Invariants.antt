-- `check_pieces` meets its contract: the faults from `i` on are all that can be found, and the codes there all that were not seen. Assumes nothing.
use Prim.Native.Nat.{◌-◌}
use lib.ListN.{length}
use Rattle.command.proofs.Pieces.{Checking}
use Rattle.command.proofs.check_pieces.Given as goal

abbrev pub invariant-loop-i : goal.invariant-loop-i
invariant-loop-i l = Checking l.quoted l.program l.s l.at l.initial.known l.i l.known

abbrev pub decreases-loop-i : goal.decreases-loop-i
decreases-loop-i l = length l.s - l.i
