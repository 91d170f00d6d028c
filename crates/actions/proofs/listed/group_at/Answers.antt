-- `listed::group_at` meets its contract: an action that stands before is not listed again. Assumes nothing.
use native.Mathlib.Omega.{arith}
use mathlib.Core.Path.{sym, ◌∙◌}
use mathlib.Core.Bool.{and-false, and-true}
use lib.Seq.{length-take-le}
use Rattle.base.specs.Lists.{part}
use Rattle.rows.specs.Rows.{read_rows}
use Rattle.actions.specs.Actions.{is_action}
use Rattle.actions.proofs.Groups.{group-none}
use Rattle.actions.proofs.listed.group_at.Goals as goal

pub returns-then-group-eq0 : goal.returns-then-group-eq0
returns-then-group-eq0 c =
    let a = c.args in
    let n = group-none (is_action (read_rows a.file.now) (part a.i a.e a.raw.now)) (part a.i a.e a.raw.now) c.group_of-group.ensures c.if-group-eq0.true in
    rw (n) (rw (n) at c.group_of-group.ensures)

pub slice_bounds-is_element-end : goal.slice_bounds-is_element-end
slice_bounds-is_element-end c =
    sym (length-take-le c.args.i c.args.raw.now (omega (arith, c.requires.1, c.requires.2)))

pub returns-then-is_element : goal.returns-then-is_element
returns-then-is_element c =
    let a = c.args in
    rw (sym c.is_element.ensures ∙ c.if-is_element.true, and-false (is_action (read_rows a.file.now) (part a.i a.e a.raw.now)))

pub returns : goal.returns
returns c =
    let a = c.args in
    rw (sym c.is_element.ensures ∙ c.if-is_element.false, and-true (is_action (read_rows a.file.now) (part a.i a.e a.raw.now))) c.group_of-group.ensures
