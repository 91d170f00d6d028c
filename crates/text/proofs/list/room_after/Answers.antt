-- `list::room_after` meets its contract: the room left and what the elements from `i` on take are the whole answer. Assumes nothing.
use borrow.Author.Rules.{rules}
use mathlib.Core.Path.{sym, ◌∙◌}
use Rattle.std.proofs.lemmas.Result.{err_from_is_err_and}
use Rattle.text.proofs.Elements.{room-start, room-end, room-wrong, room_next, element-end}
use Rattle.text.proofs.list.room_after.Goals as goal

pub slice_bounds-length_from-end : goal.slice_bounds-length_from-end
slice_bounds-length_from-end c = (element-end c.args.raw.now c.loop-i.i (search rules) c.bare_end-e.ensures).1

pub returns-in_err-n : goal.returns-in_err-n
returns-in_err-n c =
    let p = err_from_is_err_and c.from_residual.result c.from_residual.ensures.1 in
    rw (p.1, p.2) (room-wrong c.loop-i.invariant (search rules) c.bare_end-e.ensures (sym c.in_err-n.was ∙ c.length_from.ensures))

pub loop-i-preserved : goal.loop-i-preserved
loop-i-preserved c = room_next c.loop-i.invariant (search rules) c.bare_end-e.ensures (sym c.in_ok-n.was ∙ c.length_from.ensures) c.spend_record-left.ensures

pub loop-i-init : goal.loop-i-init
loop-i-init c = room-start c.args.raw.now c.args.room

pub returns : goal.returns
returns c = room-end c.loop-i.invariant (search rules)
