-- `utf8::sound_rest` meets its contract: the bytes asked so far may follow. Assumes nothing.
use Prim.Native.Nat.{◌+◌, ◌-◌, ◌≤◌}
use lib.ListN.{length}
use Rattle.characters.specs.Window.{FollowedTo}
use Rattle.characters.proofs.utf8.sound_rest.Given as goal

abbrev pub invariant-loop-k : goal.invariant-loop-k
invariant-loop-k l = (l.at ≤ l.k) × (l.k + 3 ≤ length l.s) × FollowedTo l.s l.at l.k

abbrev pub decreases-loop-k : goal.decreases-loop-k
decreases-loop-k l = length l.s - l.k
