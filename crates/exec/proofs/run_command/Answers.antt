-- `run_command` meets its contract: the calls that led to each return say which answer the definition has. Assumes nothing.
use mathlib.Core.Path.{sym, ◌∙◌}
use Rattle.std.proofs.lemmas.Result.{err_from_is_err_and}
use lib.Seq.{length-take-le}
use Rattle.rows.specs.Rows.{read_rows}
use Rattle.command.specs.Command.{arguments_in}
use Rattle.exec.specs.Expand.{name_text, icon_text}
use Rattle.run.specs.Step.{items_in}
use Rattle.exec.proofs.Values.{read-given}
use Rattle.exec.proofs.Expanding.{refused-leaves, run_past, run-no-name, run-no-icon, run-given}
use Rattle.exec.proofs.run_command.Goals as goal

pub returns-in_err-name_end : goal.returns-in_err-name_end
returns-in_err-name_end c =
    let a = c.args in
    let p = err_from_is_err_and c.from_residual.result c.from_residual.ensures.1 in
    rw (p.1, p.2)
    (refused-leaves a.out.now (run-no-name (arguments_in a.exec.now) (read_rows a.file.now) a.group.now a.locale.now a.location.now (items_in a.list.now) a.run c.requires.1 c.requires.5 (sym c.in_runs.ensures ∙ c.if-in_runs.true) (rw c.in_err-name_end.was at c.name_text.ensures)))

pub returns-in_err-icon_end : goal.returns-in_err-icon_end
returns-in_err-icon_end c =
    let a = c.args in
    let n = read-given (name_text (read_rows a.file.now) a.locale.now a.seen.name) (rw c.in_ok-name_end.was at c.name_text.ensures) in
    let p = err_from_is_err_and c.from_residual-in_err-icon_end.result c.from_residual-in_err-icon_end.ensures.1 in
    rw (p.1, p.2)
    (refused-leaves a.out.now (run-no-icon (arguments_in a.exec.now) (read_rows a.file.now) a.group.now a.locale.now a.location.now (items_in a.list.now) a.run c.requires.1 c.requires.5 (sym c.in_runs.ensures ∙ c.if-in_runs.true) n.0 (rw c.in_err-icon_end.was at c.icon_text.ensures)))

pub slice_bounds-name-end : goal.slice_bounds-name-end
slice_bounds-name-end c =
    let a = c.args in
    (read-given (name_text (read_rows a.file.now) a.locale.now a.seen.name) (rw c.in_ok-name_end.was at c.name_text.ensures)).1

pub slice_bounds-write_run-end : goal.slice_bounds-write_run-end
slice_bounds-write_run-end c = sym (length-take-le _ _ (((read-given (name_text (read_rows c.args.file.now) c.args.locale.now c.args.seen.name) (rw c.in_ok-name_end.was at c.name_text.ensures)).1)))

pub slice_bounds-icon-end : goal.slice_bounds-icon-end
slice_bounds-icon-end c =
    let a = c.args in
    (read-given (icon_text (read_rows a.file.now) a.group.now a.locale.now a.seen.icon) (rw c.in_ok-icon_end.was at c.icon_text.ensures)).1

pub slice_bounds-write_run-end-then-in_runs : goal.slice_bounds-write_run-end-then-in_runs
slice_bounds-write_run-end-then-in_runs c = sym (length-take-le _ _ (((read-given (icon_text (read_rows c.args.file.now) c.args.group.now c.args.locale.now c.args.seen.icon) (rw c.in_ok-icon_end.was at c.icon_text.ensures)).1)))

pub returns-then-in_runs : goal.returns-then-in_runs
returns-then-in_runs c =
    let a = c.args in
    let n = read-given (name_text (read_rows a.file.now) a.locale.now a.seen.name) (rw c.in_ok-name_end.was at c.name_text.ensures) in
    let i = read-given (icon_text (read_rows a.file.now) a.group.now a.locale.now a.seen.icon) (rw c.in_ok-icon_end.was at c.icon_text.ensures) in
    rw (run-given (arguments_in a.exec.now) (read_rows a.file.now) a.group.now a.locale.now a.location.now (items_in a.list.now) a.run c.requires.1 c.requires.5 (sym c.in_runs.ensures ∙ c.if-in_runs.true) n.0 i.0, ← c.item_at-item.ensures) c.write_run.ensures

pub returns : goal.returns
returns c =
    let a = c.args in
    refused-leaves a.out.now (run_past (arguments_in a.exec.now) (read_rows a.file.now) a.group.now a.locale.now a.location.now (items_in a.list.now) a.run c.requires.1 c.requires.5 (sym c.in_runs.ensures ∙ c.if-in_runs.false))
