-- `rows::near_end` meets its contract: what is left to find from `i` is the whole answer. Assumes nothing.
use Rattle.rows.proofs.Step.{line-none, line-ends, line-goes}
use borrow.Author.Rules.{rules}
use native.Mathlib.Omega.{arith}
use mathlib.Core.Path.{refl}
use Rattle.rows.proofs.near_end.Goals as goal

pub returns-then-s-i-eq10 : goal.returns-then-s-i-eq10
returns-then-s-i-eq10 c =
    omega (arith, c.loop-i.invariant, line-ends c.args.s.now c.loop-i.i (search rules) c.if-s-i-eq10.true)

pub loop-i-preserved : goal.loop-i-preserved
loop-i-preserved c =
    omega (arith, c.loop-i.invariant, line-goes c.args.s.now c.loop-i.i (search rules) c.if-s-i-eq10.false)

pub loop-i-init : goal.loop-i-init
loop-i-init c = refl

pub returns : goal.returns
returns c = omega (arith, line-none c.args.s.now c.loop-i.i c.loop-i-test.false)
