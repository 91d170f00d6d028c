-- `expand_action` meets its contract: the calls that led to each return say which answer the definition has. Assumes nothing.
use borrow.Author.Rules.{rules}
use Rattle.std.specs.Prelude.{Some}
use mathlib.Core.Path.{sym, ap, ◌∙◌}
use mathlib.Core.Bool.{◌&&◌}
use Rattle.base.specs.Lists.{same, any}
use Rattle.fault.proofs.Answers.{then-given, then-refused, handed-on}
use Rattle.text.specs.Element.{elements_of}
use Rattle.text.specs.Step.{spend_all}
use Rattle.text.proofs.OutputLaws.{leaves-refused}
use Rattle.rows.specs.Rows.{read_rows}
use Rattle.rows.specs.Title.{desktop_entry}
use Rattle.wellformed.proofs.Accepts.{check-good}
use Rattle.exec.proofs.Asking.{Granted, asked-given}
use Rattle.actions.specs.Actions as spec
use Rattle.actions.specs.Step.{elements}
use Rattle.actions.proofs.Groups.{group-none, group-some}
use Rattle.actions.proofs.Answering.{action-unasked, action-wrong, action-other, action-listed}
use Rattle.actions.proofs.expand_action.Goals as goal
use Rattle.actions.proofs.expand_action.Goals.{In_ok-count}

-- what was asked is granted
granted : (c : In_ok-count) → let a = c.args in
    Granted a.file.now a.locale.now a.location.now a.list.now c.in_ok-count.count
granted c =
    let a = c.args in
    asked-given a.file.now a.locale.now a.location.now a.list.now (sym c.in_ok-count.was ∙ c.ask.ensures)

pub value-ids-requires : goal.value-ids-requires
value-ids-requires c = let g = granted (goal.at.value-ids-requires c).In_ok-count in (check-good desktop_entry _ g.checks).0

pub group_asked-group-requires : goal.group_asked-group-requires
group_asked-group-requires c = let g = granted (goal.at.group_asked-group-requires c).In_ok-count in (check-good desktop_entry _ g.checks).0

pub expand_group-requires : goal.expand_group-requires
expand_group-requires c =
    let g = granted (goal.at.expand_group-requires c).In_ok-count in
    let k = check-good desktop_entry _ g.checks in
    (k.0, k.1, g.reads, g.counts, g.locale-form)

pub returns-then-is_empty : goal.returns-then-is_empty
returns-then-is_empty c =
    let a = c.args in
    let ids = then-given (spend_all (Some 0)) (elements_of c.value-ids.result.now) (sym c.in_ok-room_after.was ∙ c.room_after.ensures) in
    let n = group-none (any (same a.action.now) (elements c.value-ids.result.now) && spec.is_action (read_rows a.file.now) a.action.now) a.action.now c.group_asked-group.ensures (search rules) in
    leaves-refused (spec.expand_action a.file.now a.action.now a.locale.now a.location.now a.list.now a.run) _ a.out.now
    (action-other a.file.now a.action.now a.locale.now a.location.now a.list.now a.run (granted (goal.at.returns-then-is_empty c).In_ok-count) c.value-ids.ensures ids.1 n)

pub returns-in_err-count : goal.returns-in_err-count
returns-in_err-count c =
    let a = c.args in
    rw (handed-on _ c.from_residual.ensures.1) (leaves-refused (spec.expand_action a.file.now a.action.now a.locale.now a.location.now a.list.now a.run) _ a.out.now
    (action-unasked a.file.now a.action.now a.locale.now a.location.now a.list.now a.run (sym c.in_err-count.was ∙ c.ask.ensures)))

pub returns-in_err-room_after : goal.returns-in_err-room_after
returns-in_err-room_after c =
    let a = c.args in
    rw (handed-on _ c.from_residual-in_err-room_after.ensures.1) (leaves-refused (spec.expand_action a.file.now a.action.now a.locale.now a.location.now a.list.now a.run) _ a.out.now
    (action-wrong a.file.now a.action.now a.locale.now a.location.now a.list.now a.run (granted (goal.at.returns-in_err-room_after c).In_ok-count) c.value-ids.ensures
    (then-refused (spend_all (Some 0)) (elements_of c.value-ids.result.now) (sym c.in_err-room_after.was ∙ c.room_after.ensures))))

pub returns : goal.returns
returns c =
    let a = c.args in
    let ids = then-given (spend_all (Some 0)) (elements_of c.value-ids.result.now) (sym c.in_ok-room_after.was ∙ c.room_after.ensures) in
    let y = group-some (any (same a.action.now) (elements c.value-ids.result.now) && spec.is_action (read_rows a.file.now) a.action.now) a.action.now c.group_asked-group.ensures (search rules) in
    rw (action-listed a.file.now a.action.now a.locale.now a.location.now a.list.now a.run (granted (goal.at.returns c).In_ok-count) c.value-ids.ensures ids.1 y.0, ← y.1) c.expand_group.ensures
