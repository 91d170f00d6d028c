-- `labels::all_left` meets its contract: the room left and what those from `i` on take are the whole answer. Assumes nothing.
use Prim.Native.Nat.{◌-◌}
use lib.ListN.{length}
use Rattle.rows.specs.Rows.{read_rows}
use Rattle.actions.proofs.Labelling.{RoomLeft}
use Rattle.actions.proofs.labels.all_left.Given as goal

abbrev pub invariant-loop-i : goal.invariant-loop-i
invariant-loop-i l = RoomLeft (read_rows l.file) l.raw l.locale l.room l.i l.left

abbrev pub decreases-loop-i : goal.decreases-loop-i
decreases-loop-i l = length l.raw - l.i
