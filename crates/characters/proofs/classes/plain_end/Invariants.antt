-- `classes::plain_end` meets its contract: what is left to pass from `i` is the whole answer. Assumes nothing.
use mathlib.Core.Path.{◌≡◌}
use lib.ListN.{length, drop}
use Prim.Native.Nat.{◌+◌, ◌-◌}
use Rattle.base.specs.Lists.{span}
use Rattle.characters.specs.Class.{value_byte}
use Rattle.characters.proofs.classes.plain_end.Given as goal

abbrev pub invariant-loop-i : goal.invariant-loop-i
invariant-loop-i l = l.i + span value_byte (drop l.i l.s) ≡ l.from + span value_byte (drop l.from l.s)

abbrev pub decreases-loop-i : goal.decreases-loop-i
decreases-loop-i l = length l.s - l.i
