-- `measure::run_left` meets its contract: the room left and what the words from `i` on take are the whole answer. Assumes nothing.
use Prim.Native.Nat.{◌-◌}
use lib.ListN.{length}
use Rattle.run.specs.Run.{run_of}
use Rattle.run.specs.Step.{put_of, items_in}
use Rattle.run.proofs.Arguments.{Measuring}
use Rattle.run.proofs.measure.run_left.Given as goal

abbrev pub invariant-loop-i : goal.invariant-loop-i
invariant-loop-i l = Measuring (run_of (put_of l.item l.name l.location) (items_in l.list) l.icon) l.exec l.initial.left l.i l.left

abbrev pub decreases-loop-i : goal.decreases-loop-i
decreases-loop-i l = length l.exec - l.i
