-- `utf8::sound_16` meets its contract: the bytes asked so far may follow. Assumes nothing.
use mathlib.Core.Path.{◌≡◌}
use mathlib.Core.Bool.{true}
use Prim.Native.Nat.{◌+◌, ◌-◌, ◌≤◌}
use Rattle.characters.specs.Window.{FollowedTo}
use Rattle.characters.proofs.utf8.sound_16.Given as goal

abbrev pub invariant-loop-j : goal.invariant-loop-j
invariant-loop-j l = (l.j ≤ 16) × (l.sound ≡ true → FollowedTo l.s l.i (l.i + l.j))

abbrev pub decreases-loop-j : goal.decreases-loop-j
decreases-loop-j l = 16 - l.j
