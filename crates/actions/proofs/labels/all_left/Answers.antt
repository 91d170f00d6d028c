-- `labels::all_left` meets its contract: the room left and what those from `i` on take are the whole answer. Assumes nothing.
use native.Mathlib.Omega.{arith}
use mathlib.Core.Path.{sym, ◌∙◌}
use Rattle.std.proofs.lemmas.Result.{err_from_is_err_and}
use Rattle.text.proofs.Elements.{element-end}
use Rattle.rows.specs.Rows.{read_rows}
use Rattle.actions.proofs.Labelling.{room-start, room-end, room-wrong, room_next}
use borrow.Author.Rules.{rules}
use Rattle.actions.proofs.labels.all_left.Goals as goal

pub loop-i-init : goal.loop-i-init
loop-i-init c = let a = c.args in room-start (read_rows a.file.now) a.raw.now a.locale.now a.room

pub action_left-requires : goal.action_left-requires
action_left-requires c =
    let b = element-end c.args.raw.now c.loop-i.i (search rules) c.bare_end-e.ensures in
    (c.requires.0, c.requires.1, b.0, b.1)

pub returns-in_err-left : goal.returns-in_err-left
returns-in_err-left c =
    let p = err_from_is_err_and c.from_residual.result c.from_residual.ensures.1 in
    rw (p.1, p.2) (room-wrong _ _ _ c.loop-i.invariant (search rules) c.bare_end-e.ensures (sym c.in_err-left.was ∙ c.action_left.ensures))

pub overflow_add-i : goal.overflow_add-i
overflow_add-i c =
    omega (arith, element-end c.args.raw.now c.loop-i.i (search rules) c.bare_end-e.ensures)

pub loop-i-smaller : goal.loop-i-smaller
loop-i-smaller c =
    omega (arith, element-end c.args.raw.now c.loop-i.i (search rules) c.bare_end-e.ensures)

pub loop-i-preserved : goal.loop-i-preserved
loop-i-preserved c =
    room_next _ _ _ c.loop-i.invariant (search rules) c.bare_end-e.ensures (sym c.in_ok-left.was ∙ c.action_left.ensures)

pub returns : goal.returns
returns c = room-end _ _ _ c.loop-i.invariant c.loop-i-test.false
