-- `rows::next_lf` meets its contract: what is left to find from `i` is the whole answer, and it is inside. Assumes nothing.
use mathlib.Core.Path.{◌≡◌}
use lib.ListN.{length, drop}
use Prim.Native.Nat.{◌+◌, ◌-◌}
use Rattle.rows.specs.Find.{line_length}
use Rattle.rows.proofs.next_lf.Given as goal

abbrev pub invariant-loop-i : goal.invariant-loop-i
invariant-loop-i l = l.i + line_length (drop l.i l.s) ≡ l.from + line_length (drop l.from l.s)

abbrev pub decreases-loop-i : goal.decreases-loop-i
decreases-loop-i l = length l.s - l.i
