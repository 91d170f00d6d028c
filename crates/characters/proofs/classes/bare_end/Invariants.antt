-- `classes::bare_end` meets its contract: what is left from `i` on is the whole answer. Assumes nothing.
use mathlib.Core.Path.{◌≡◌}
use lib.ListN.{length, drop}
use Prim.Native.Nat.{◌+◌, ◌-◌}
use Rattle.characters.specs.Bare.{bare_length}
use mathlib.Core.Bool.{false}
use Rattle.characters.proofs.classes.bare_end.Given as goal

abbrev pub invariant-loop-i : goal.invariant-loop-i
invariant-loop-i l = l.i + bare_length l.stop (drop l.i l.s) l.taken ≡ l.from + bare_length l.stop (drop l.from l.s) false

abbrev pub decreases-loop-i : goal.decreases-loop-i
decreases-loop-i l = length l.s - l.i
