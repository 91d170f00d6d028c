-- `listed::is_element` meets its contract: the elements from `i` on have the answer. Assumes nothing.
use mathlib.Core.Path.{◌≡◌}
use Prim.Native.Nat.{◌-◌}
use lib.ListN.{length, drop}
use Rattle.base.specs.Lists.{same, any}
use Rattle.actions.specs.Step.{elements}
use Rattle.actions.proofs.listed.is_element.Given as goal

abbrev pub invariant-loop-i : goal.invariant-loop-i
invariant-loop-i l = any (same l.id) (elements (drop l.i l.raw)) ≡ any (same l.id) (elements l.raw)

abbrev pub decreases-loop-i : goal.decreases-loop-i
decreases-loop-i l = length l.raw - l.i
