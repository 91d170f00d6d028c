-- `list::room_after` meets its contract: the room left and what the elements from `i` on take are the whole answer. Assumes nothing.
use lib.ListN.{length}
use Prim.Native.Nat.{◌-◌}
use Rattle.text.proofs.Elements.{RoomLeft}
use Rattle.text.proofs.list.room_after.Given as goal

abbrev pub invariant-loop-i : goal.invariant-loop-i
invariant-loop-i l = RoomLeft l.raw l.room l.i l.left

abbrev pub decreases-loop-i : goal.decreases-loop-i
decreases-loop-i l = length l.raw - l.i
