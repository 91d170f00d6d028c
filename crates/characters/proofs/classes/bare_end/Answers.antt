-- `classes::bare_end` meets its contract: what is left from `i` on is the whole answer. Assumes nothing.
use borrow.Author.Rules.{rules}
use native.Mathlib.Omega.{arith}
use mathlib.Core.Path.{refl}
use Rattle.base.proofs.Scan.{here, done}
use borrow.Author.Tests.{eq-eqb, ne_eqb}
use Rattle.characters.specs.Bare.{bare_length}
use Rattle.characters.proofs.classes.bare_end.Goals as goal

pub loop-i-init : goal.loop-i-init
unfolding bare_length
loop-i-init c = refl

pub loop-i-preserved-then-taken : goal.loop-i-preserved-then-taken
unfolding bare_length
loop-i-preserved-then-taken c =
    let l = c in
    omega (arith, rw (here l.args.s.now l.loop-i.i (search rules), c.if-taken.true) at l.loop-i.invariant)

pub returns-then-s-i : goal.returns-then-s-i
unfolding bare_length
returns-then-s-i c =
    let l = c in
    omega (arith, rw (here l.args.s.now l.loop-i.i (search rules), c.if-taken.false, eq-eqb _ _ c.if-s-i.true) at l.loop-i.invariant)

pub loop-i-preserved : goal.loop-i-preserved
unfolding bare_length
loop-i-preserved c =
    let l = c in
    omega (arith, rw (here l.args.s.now l.loop-i.i (search rules), c.if-taken.false, ne_eqb _ _ c.if-s-i.false) at l.loop-i.invariant)

pub returns : goal.returns
unfolding bare_length
returns c = omega (arith, rw (done c.args.s.now c.loop-i.i c.loop-i-test.false) at c.loop-i.invariant)
