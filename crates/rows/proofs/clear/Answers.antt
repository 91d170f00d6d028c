-- `rows::clear` meets its contract: while n is 0 no LF has been passed. Assumes nothing.
use borrow.Author.Tests.{eq-eqb, ne_eqb}
use native.Mathlib.Omega.{arith}
use mathlib.Core.Path.{◌≡◌, refl, sym, ◌∙◌}
use mathlib.Core.Bool.{and-false, and-true}
use lib.ListN.{take, drop}
use Rattle.base.specs.Lists.{all}
use Rattle.base.proofs.Span.{all-next}
use Rattle.rows.specs.Find.{no_lf}
use Rattle.rows.proofs.clear.Goals as goal

pub loop-j-init : goal.loop-j-init
unfolding all
loop-j-init c = (omega arith, refl)

pub loop-j-preserved-then-s-i-eq10 : goal.loop-j-preserved-then-s-i-eq10
loop-j-preserved-then-s-i-eq10 c =
    let a = c.args in
    (omega arith, rw (all-next no_lf a.s.now a.i c.loop-j.j (omega arith), eq-eqb _ _ c.if-s-i-eq10.true) (sym (and-false (all no_lf (take c.loop-j.j (drop a.i a.s.now))))))

pub loop-j-preserved : goal.loop-j-preserved
loop-j-preserved c =
    let a = c.args in
    (omega arith, rw (all-next no_lf a.s.now a.i c.loop-j.j (omega arith), ne_eqb _ _ c.if-s-i-eq10.false) (c.loop-j.invariant.1 ∙ sym (and-true _)))

pub returns : goal.returns
returns c = let q : c.loop-j.j ≡ 16 = omega arith in rw q at c.loop-j.invariant.1

pub overflow_add-i : goal.overflow_add-i
overflow_add-i c = omega arith

pub bounds-s-i : goal.bounds-s-i
bounds-s-i c = omega arith

pub overflow_add-j : goal.overflow_add-j
overflow_add-j c = omega arith

pub loop-j-smaller-then-s-i-eq10 : goal.loop-j-smaller-then-s-i-eq10
loop-j-smaller-then-s-i-eq10 c = omega arith

pub overflow_add-j-else-s-i-eq10 : goal.overflow_add-j-else-s-i-eq10
overflow_add-j-else-s-i-eq10 c = omega arith

pub loop-j-smaller : goal.loop-j-smaller
loop-j-smaller c = omega arith
