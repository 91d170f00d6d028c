-- `utf8::rest` meets its contract: what is left of the character from `i` on is the whole answer. Assumes nothing.
use mathlib.Core.Path.{◌≡◌}
use lib.ListN.{length}
use Prim.Native.Nat.{◌-◌}
use Rattle.characters.specs.Step.{rest_at}
use Rattle.characters.proofs.utf8.rest.Given as goal

abbrev pub invariant-loop-i : goal.invariant-loop-i
invariant-loop-i l = rest_at l.s l.i l.m l.lo l.hi ≡ rest_at l.s l.from l.more l.low l.high

abbrev pub decreases-loop-i : goal.decreases-loop-i
decreases-loop-i l = length l.s - l.i
