-- `expand` meets its contract: the calls that led to each return say which answer the definition has. Assumes nothing.
use mathlib.Core.Path.{sym, ◌∙◌}
use Rattle.rows.specs.Title.{desktop_entry}
use Rattle.wellformed.proofs.Accepts.{check-good}
use Rattle.fault.proofs.Answers.{handed-on}
use Rattle.text.proofs.OutputLaws.{leaves-refused}
use Rattle.exec.specs.Expand as spec
use Rattle.exec.proofs.Asking.{asked-given}
use Rattle.exec.proofs.Expanding.{expand-refused, expand-granted}
use Rattle.exec.proofs.expand.Goals as goal

pub expand_group-requires : goal.expand_group-requires
expand_group-requires c =
    let a = c.args in
    let g = asked-given a.file.now a.locale.now a.location.now a.list.now (sym c.in_ok-count.was ∙ c.ask.ensures) in
    let k = check-good desktop_entry a.file.now g.checks in
    (k.0, k.1, g.reads, g.counts, g.locale-form)

pub returns-in_err-count : goal.returns-in_err-count
returns-in_err-count c =
    let a = c.args in
    rw (handed-on _ c.from_residual.ensures.1) (leaves-refused (spec.expand a.file.now a.locale.now a.location.now a.list.now a.run) _ a.out.now (expand-refused a.file.now a.locale.now a.location.now a.list.now a.run (sym c.in_err-count.was ∙ c.ask.ensures)))

pub returns : goal.returns
returns c =
    let a = c.args in
    let g = asked-given a.file.now a.locale.now a.location.now a.list.now (sym c.in_ok-count.was ∙ c.ask.ensures) in
    rw (expand-granted a.file.now a.locale.now a.location.now a.list.now a.run g) c.expand_group.ensures
