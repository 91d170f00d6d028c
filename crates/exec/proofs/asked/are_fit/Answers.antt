-- `asked::are_fit` meets its contract: what is left of the items answers as all. Assumes nothing.
use native.Mathlib.Omega.{arith}
use mathlib.Core.Path.{sym, ap, ◌∙◌}
use mathlib.Core.List.{List}
use Prim.Native.Nat.{ℕ}
use Rattle.base.specs.Lists.{all}
use Rattle.record.proofs.Place.{front-damaged, front-record}
use Rattle.exec.specs.Expand.{fit_item}
use Rattle.run.proofs.Writing.{items-start, items-damaged, items-next, items-cons, items-done}
use Rattle.exec.proofs.asked.are_fit.Goals as goal

pub loop-from-init : goal.loop-from-init
loop-from-init c = let s = items-start c.args.list.now c.requires in (s.0, ap (λ (xs : List (List ℕ)). all fit_item xs) (sym s.1))

pub returns-in_default : goal.returns-in_default
returns-in_default c = items-damaged c.loop-from.invariant.0 c.loop-from-test.true (front-damaged _ _ (sym c.read.ensures ∙ c.in_default.is))

pub overflow_add-body : goal.overflow_add-body
overflow_add-body c = let r = front-record _ _ (sym c.read.ensures ∙ c.in-Some.is) in omega arith

pub slice_bounds-is_fit_item-count : goal.slice_bounds-is_fit_item-count
slice_bounds-is_fit_item-count c = let r = front-record _ _ (sym c.read.ensures ∙ c.in-Some.is) in r.head-inside

pub slice_bounds-is_fit_item-end : goal.slice_bounds-is_fit_item-end
slice_bounds-is_fit_item-end c = let r = front-record _ _ (sym c.read.ensures ∙ c.in-Some.is) in r.inside

pub loop-from-smaller : goal.loop-from-smaller
loop-from-smaller c =
    let r = front-record _ _ (sym c.read.ensures ∙ c.in-Some.is) in omega arith

pub loop-from-preserved : goal.loop-from-preserved
unfolding all
loop-from-preserved c =
    let r = front-record _ _ (sym c.read.ensures ∙ c.in-Some.is) in
    (items-next c.loop-from.invariant.0 r, rw (items-cons c.loop-from.invariant.0 r, sym c.is_fit_item.ensures ∙ c.if-is_fit_item.true) at c.loop-from.invariant.1)

pub returns-else-is_fit_item : goal.returns-else-is_fit_item
unfolding all
returns-else-is_fit_item c =
    let r = front-record _ _ (sym c.read.ensures ∙ c.in-Some.is) in
    rw (items-cons c.loop-from.invariant.0 r, sym c.is_fit_item.ensures ∙ c.if-is_fit_item.false) at c.loop-from.invariant.1

pub returns : goal.returns
unfolding all
returns c = rw (items-done c.args.list.now c.loop-from.from c.loop-from-test.false) at c.loop-from.invariant.1

pub slice_bounds-is_fit_item-start : goal.slice_bounds-is_fit_item-start
slice_bounds-is_fit_item-start c = let r = front-record _ _ (sym c.read.ensures ∙ c.in-Some.is) in r.head-inside
