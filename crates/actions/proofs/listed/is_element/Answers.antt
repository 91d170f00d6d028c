-- `listed::is_element` meets its contract: the elements from `i` on have the answer. Assumes nothing.
use native.Mathlib.Omega.{arith}
use mathlib.Core.Path.{refl, sym, ◌∙◌}
use Rattle.base.specs.Lists.{any}
use Rattle.base.proofs.Tests.{pointwise_same}
use Rattle.text.proofs.Elements.{element-end, split}
use Rattle.actions.proofs.Elements.{elements-done}
use borrow.Author.Rules.{rules}
use Rattle.actions.proofs.listed.is_element.Goals as goal

pub slice_bounds-eq-count : goal.slice_bounds-eq-count
slice_bounds-eq-count c =
    (element-end c.args.raw.now c.loop-i.i (search rules) c.bare_end-e.ensures).0

pub slice_bounds-eq-end : goal.slice_bounds-eq-end
slice_bounds-eq-end c =
    (element-end c.args.raw.now c.loop-i.i (search rules) c.bare_end-e.ensures).1

pub returns-then-eq : goal.returns-then-eq
unfolding any
returns-then-eq c =
    let a = c.args in
    rw (split a.raw.now c.loop-i.i (search rules) c.bare_end-e.ensures, ← pointwise_same, sym c.eq.ensures ∙ c.if-eq.true) at c.loop-i.invariant

pub overflow_add-i : goal.overflow_add-i
overflow_add-i c = omega (arith, ((element-end c.args.raw.now c.loop-i.i (search rules) c.bare_end-e.ensures).1))

pub loop-i-smaller : goal.loop-i-smaller
loop-i-smaller c = omega (arith, ((element-end c.args.raw.now c.loop-i.i (search rules) c.bare_end-e.ensures).0), ((element-end c.args.raw.now c.loop-i.i (search rules) c.bare_end-e.ensures).1))

pub loop-i-preserved : goal.loop-i-preserved
unfolding any
loop-i-preserved c =
    let a = c.args in
    rw (split a.raw.now c.loop-i.i (search rules) c.bare_end-e.ensures, ← pointwise_same, sym c.eq.ensures ∙ c.if-eq.false) at c.loop-i.invariant

pub returns : goal.returns
unfolding any
returns c =
    let a = c.args in
    rw (elements-done a.raw.now c.loop-i.i c.loop-i-test.false) at c.loop-i.invariant

pub loop-i-init : goal.loop-i-init
loop-i-init c = refl

pub slice_bounds-eq-start : goal.slice_bounds-eq-start
slice_bounds-eq-start c =
    (element-end c.args.raw.now c.loop-i.i (search rules) c.bare_end-e.ensures).0
