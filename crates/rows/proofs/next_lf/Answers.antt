-- `rows::next_lf` meets its contract: what is left to find from `i` is the whole answer, and it is inside. Assumes nothing.
use Rattle.rows.proofs.Step.{line-ends, line-goes}
use native.Mathlib.Omega.{arith}
use mathlib.Core.Path.{refl}
use Rattle.rows.proofs.next_lf.Goals as goal

pub loop-i-preserved : goal.loop-i-preserved
loop-i-preserved c =
    omega (arith, c.loop-i.invariant, line-goes c.args.s.now c.loop-i.i (omega (arith, c.loop-i.invariant)) c.loop-i-test.true)

pub returns : goal.returns
returns c =
    omega (arith, c.loop-i.invariant, line-ends c.args.s.now c.loop-i.i (omega (arith, c.loop-i.invariant)) c.loop-i-test.false)

pub loop-i-init : goal.loop-i-init
loop-i-init c = refl

pub bounds-s-i : goal.bounds-s-i
bounds-s-i c = omega (arith, c.loop-i.invariant)

pub overflow_add-i : goal.overflow_add-i
overflow_add-i c = omega (arith, c.loop-i.invariant)

pub loop-i-smaller : goal.loop-i-smaller
loop-i-smaller c = omega (arith, c.loop-i.invariant)
