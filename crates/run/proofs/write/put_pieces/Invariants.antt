-- `write::put_pieces` meets its contract: what is written and the pieces from `i` on make the whole. Assumes nothing.
use Prim.Native.Nat.{◌-◌}
use lib.ListN.{length}
use Rattle.run.specs.Step.{put_of}
use Rattle.run.proofs.Filling.{PiecesPut}
use Rattle.run.proofs.write.put_pieces.Given as goal

abbrev pub invariant-loop-i : goal.invariant-loop-i
invariant-loop-i l = PiecesPut (put_of l.item l.name l.location) l.quoted l.s l.initial.out l.out l.i l.at

abbrev pub decreases-loop-i : goal.decreases-loop-i
decreases-loop-i l = length l.s - l.i
