-- `find_place` meets its contract: the group's last row, and the plain key, say which edit the definition has. Assumes nothing.
use mathlib.Core.Path.{sym, ◌∙◌}
use Rattle.fault.proofs.Answers.{handed-on}
use Rattle.change.proofs.Aiming.{set-no-group, set-no-plain, set-entry}
use Rattle.change.proofs.find_place.Goals as goal

pub returns-in_err-place : goal.returns-in_err-place
returns-in_err-place c =
    let s = c.args in
    rw (handed-on _ c.from_residual.ensures.1)
    (set-no-group s.file.now s.group.now s.key.now c.group_end.result (sym c.ok_or.ensures.value ∙ c.in_err-place.was) c.group_end.ensures)

pub returns-then-has_plain : goal.returns-then-has_plain
returns-then-has_plain c =
    let s = c.args in
    set-entry s.file.now s.group.now s.key.now (rw (c.ok_or.ensures.ok_part, c.in_ok-place.was) at c.group_end.ensures) (sym c.if-has_plain.true ∙ c.has_plain.ensures) c.requires.1

pub returns : goal.returns
returns c =
    let s = c.args in
    set-no-plain s.file.now s.group.now s.key.now (rw (c.ok_or.ensures.ok_part, c.in_ok-place.was) at c.group_end.ensures) (sym c.if-has_plain.false ∙ c.has_plain.ensures)
