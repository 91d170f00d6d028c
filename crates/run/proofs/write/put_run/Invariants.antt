-- `write::put_run` meets its contract: what is written and the records of the words from `i` on make the whole. Assumes nothing.
use Prim.Native.Nat.{◌-◌}
use lib.ListN.{length}
use Rattle.run.specs.Run.{run_of}
use Rattle.run.specs.Step.{put_of, items_in}
use Rattle.run.proofs.Writing.{WordsPut}
use Rattle.run.proofs.write.put_run.Given as goal

abbrev pub invariant-loop-i : goal.invariant-loop-i
invariant-loop-i l = WordsPut (run_of (put_of l.item l.name l.location) (items_in l.list) l.icon) l.exec l.initial.out l.out l.i l.at

abbrev pub decreases-loop-i : goal.decreases-loop-i
decreases-loop-i l = length l.exec - l.i
