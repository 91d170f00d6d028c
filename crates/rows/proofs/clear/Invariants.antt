-- `rows::clear` meets its contract: while n is 0 no LF has been passed. Assumes nothing.
use mathlib.Core.Path.{◌≡◌}
use Prim.Native.Nat.{◌-◌, ◌≤◌}
use lib.ListN.{take, drop}
use lib.Dec.{eqb}
use Rattle.base.specs.Lists.{all}
use Rattle.rows.specs.Find.{no_lf}
use Rattle.rows.proofs.clear.Given as goal

abbrev pub invariant-loop-j : goal.invariant-loop-j
invariant-loop-j l = (l.j ≤ 16) × (eqb l.n 0 ≡ all no_lf (take l.j (drop l.i l.s)))

abbrev pub decreases-loop-j : goal.decreases-loop-j
decreases-loop-j l = 16 - l.j
