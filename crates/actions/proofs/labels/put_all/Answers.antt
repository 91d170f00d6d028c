-- `labels::put_all` meets its contract: what is written and the records of those from `i` on are the whole. Assumes nothing.
use native.Mathlib.Omega.{arith}
use Rattle.text.proofs.Elements.{element-end}
use Rattle.rows.specs.Rows.{read_rows}
use Rattle.actions.proofs.Labelling.{fill-all, filled, next-sound, next-room, fill-next}
use borrow.Author.Rules.{rules}
use Rattle.actions.proofs.labels.put_all.Goals as goal

pub loop-i-init : goal.loop-i-init
loop-i-init c =
    fill-all (read_rows c.args.file.now) c.args.raw.now c.args.locale.now c.args.out.now c.requires.2 c.requires.3

pub put_action-at-requires : goal.put_action-at-requires
put_action-at-requires c =
    let b = element-end c.args.raw.now c.loop-i.i (search rules) c.bare_end-e.ensures in
    (c.requires.0, c.requires.1, b.0, b.1, next-sound _ _ _ c.loop-i.invariant (search rules) c.bare_end-e.ensures, next-room _ _ _ c.loop-i.invariant (search rules) c.bare_end-e.ensures)

pub overflow_add-i : goal.overflow_add-i
overflow_add-i c =
    omega (arith, element-end c.args.raw.now c.loop-i.i (search rules) c.bare_end-e.ensures)

pub loop-i-smaller : goal.loop-i-smaller
loop-i-smaller c =
    omega (arith, element-end c.args.raw.now c.loop-i.i (search rules) c.bare_end-e.ensures)

pub loop-i-preserved : goal.loop-i-preserved
loop-i-preserved c =
    fill-next _ _ _ c.loop-i.invariant (search rules) c.bare_end-e.ensures c.put_action-at.ensures

pub returns : goal.returns
returns c = filled _ _ _ c.loop-i.invariant c.loop-i-test.false
