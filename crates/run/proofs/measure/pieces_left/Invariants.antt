-- `measure::pieces_left` meets its contract: the room left and what the pieces from `i` on take are the whole answer. Assumes nothing.
use Prim.Native.Nat.{◌-◌}
use lib.ListN.{length}
use Rattle.run.specs.Step.{put_of}
use Rattle.run.proofs.Spending.{Spending}
use Rattle.run.proofs.measure.pieces_left.Given as goal

abbrev pub invariant-loop-i : goal.invariant-loop-i
invariant-loop-i l = Spending (put_of l.item l.name l.location) l.quoted l.s l.initial.room l.i l.room

abbrev pub decreases-loop-i : goal.decreases-loop-i
decreases-loop-i l = length l.s - l.i
