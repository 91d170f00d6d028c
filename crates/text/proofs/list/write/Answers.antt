-- `list::write` meets its contract: what is written and the records of the elements from `i` on are the whole. Assumes nothing.
use borrow.Author.Rules.{rules}
use native.Mathlib.Omega.{arith}
use Rattle.text.proofs.Elements.{element-end, listing_start, listing-end, listing-room, listing-next, own-sound}
use Rattle.text.proofs.list.write.Goals as goal

pub slice_bounds-put-count : goal.slice_bounds-put-count
slice_bounds-put-count c =
    let e = c in
    let l = e in
    let a = l.args in
    let b = element-end a.raw.now l.loop-i.i (search rules) e.bare_end-e.ensures in
    b.0

pub slice_bounds-put-start : goal.slice_bounds-put-start
slice_bounds-put-start c =
    let e = c in
    let l = e in
    let a = l.args in
    let b = element-end a.raw.now l.loop-i.i (search rules) e.bare_end-e.ensures in
    b.0

pub slice_bounds-put-end : goal.slice_bounds-put-end
slice_bounds-put-end c =
    let e = c in
    let l = e in
    let a = l.args in
    let b = element-end a.raw.now l.loop-i.i (search rules) e.bare_end-e.ensures in
    b.1

pub put-at-requires : goal.put-at-requires
put-at-requires c =
    let e = c in
    let l = e in
    (own-sound l.loop-i.invariant (search rules) e.bare_end-e.ensures, listing-room l.loop-i.invariant (search rules) e.bare_end-e.ensures)

pub overflow_add-i : goal.overflow_add-i
overflow_add-i c =
    let e = c in
    let l = e in
    omega (arith, element-end l.args.raw.now l.loop-i.i (search rules) e.bare_end-e.ensures)

pub loop-i-smaller : goal.loop-i-smaller
loop-i-smaller c =
    let e = c in
    let l = e in
    omega (arith, element-end l.args.raw.now l.loop-i.i (search rules) e.bare_end-e.ensures)

pub loop-i-preserved : goal.loop-i-preserved
loop-i-preserved c =
    let e = c in
    listing-next e.loop-i.invariant (search rules) e.bare_end-e.ensures c.put-at.ensures

pub loop-i-init : goal.loop-i-init
loop-i-init c = listing_start c.args.raw.now c.args.out.now c.requires

pub returns : goal.returns
returns c = listing-end c.loop-i.invariant (search rules)
