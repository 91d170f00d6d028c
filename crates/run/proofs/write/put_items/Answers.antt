-- `write::put_items` meets its contract: what is written and the items from the place on make the whole. Assumes nothing.
use native.Mathlib.Omega.{arith}
use mathlib.Core.Path.{sym, ◌∙◌}
use Rattle.record.proofs.Place.{front-damaged, front-record}
use Rattle.run.proofs.Writing.{items-begin, items-damaged, items-next, items-room, items-filled, items-end}
use Rattle.run.proofs.write.put_items.Goals as goal

pub loop-from-init : goal.loop-from-init
loop-from-init c = items-begin c.args.list.now c.args.out.now c.requires.0 c.requires.1

pub returns-in_default : goal.returns-in_default
returns-in_default c = items-damaged c.loop-from.invariant.0 c.loop-from-test.true (front-damaged _ _ (sym c.read.ensures ∙ c.in_default.is))

pub overflow_add-body : goal.overflow_add-body
overflow_add-body c = let r = front-record _ _ (sym c.read.ensures ∙ c.in-Some.is) in omega arith

pub slice_bounds-put_argument-count-in-loop-from : goal.slice_bounds-put_argument-count-in-loop-from
slice_bounds-put_argument-count-in-loop-from c = let r = front-record _ _ (sym c.read.ensures ∙ c.in-Some.is) in r.head-inside

pub slice_bounds-put_argument-start-in-loop-from : goal.slice_bounds-put_argument-start-in-loop-from
slice_bounds-put_argument-start-in-loop-from c = let r = front-record _ _ (sym c.read.ensures ∙ c.in-Some.is) in r.head-inside

pub slice_bounds-put_argument-end-in-loop-from : goal.slice_bounds-put_argument-end-in-loop-from
slice_bounds-put_argument-end-in-loop-from c = let r = front-record _ _ (sym c.read.ensures ∙ c.in-Some.is) in r.inside

pub put_argument-at-requires : goal.put_argument-at-requires
put_argument-at-requires c =
    items-room c.loop-from.invariant.0 c.loop-from.invariant.1 (front-record _ _ (sym c.read.ensures ∙ c.in-Some.is))

pub loop-from-preserved : goal.loop-from-preserved
loop-from-preserved c =
    let r = front-record _ _ (sym c.read.ensures ∙ c.in-Some.is) in
    (items-next c.loop-from.invariant.0 r, items-filled c.loop-from.invariant.0 c.loop-from.invariant.1 r c.put_argument-at.ensures)

pub overflow_add-at : goal.overflow_add-at
overflow_add-at c =
    let r = front-record _ _ (sym c.read.ensures ∙ c.in-Some.is) in
    omega (arith, (items-filled c.loop-from.invariant.0 c.loop-from.invariant.1 r c.put_argument-at.ensures).fill.inside)

pub loop-from-smaller : goal.loop-from-smaller
loop-from-smaller c =
    let r = front-record _ _ (sym c.read.ensures ∙ c.in-Some.is) in omega arith

pub returns : goal.returns
returns c = items-end c.args.list.now c.loop-from.from c.loop-from.invariant.1 c.loop-from-test.false
