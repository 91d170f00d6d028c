-- `labels::write_all` meets its contract: the room left says whether the records are written. Assumes nothing.
use Rattle.std.specs.Prelude.{Ok}
use mathlib.Core.Path.{sym, ap, ◌∙◌}
use mathlib.Core.List.{[]}
use Rattle.std.proofs.lemmas.Result.{err_from_is_err_and}
use Rattle.rows.specs.Rows.{read_rows}
use Rattle.actions.specs.Actions.{listed_from, labelled}
use Rattle.actions.specs.Step.{elements}
use Rattle.actions.proofs.Labelling.{records-wrong, records-short, records-fit, records-put}
use Rattle.actions.proofs.labels.write_all.Goals as goal

pub put_all-requires : goal.put_all-requires
put_all-requires c =
    let a = c.args in
    let rs = read_rows a.file.now in
    let f = records-fit (labelled rs a.locale.now (listed_from rs [] (elements a.raw.now))) a.out.now
    (ap Ok (sym c.in-Some.is) ∙ sym c.in_ok-all_left.was ∙ c.all_left.ensures) in
    (c.requires.0, c.requires.1, f.0, f.1)

pub returns-in_err-all_left : goal.returns-in_err-all_left
returns-in_err-all_left c =
    let a = c.args in
    let rs = read_rows a.file.now in
    let p = err_from_is_err_and c.from_residual.result c.from_residual.ensures.1 in
    rw (p.1, p.2) (records-wrong (labelled rs a.locale.now (listed_from rs [] (elements a.raw.now))) a.out.now (sym c.in_err-all_left.was ∙ c.all_left.ensures))

pub returns-in-None : goal.returns-in-None
returns-in-None c =
    let a = c.args in
    let rs = read_rows a.file.now in
    records-short (labelled rs a.locale.now (listed_from rs [] (elements a.raw.now))) a.out.now
    (ap Ok (sym c.in-None.is) ∙ sym c.in_ok-all_left.was ∙ c.all_left.ensures)

pub returns-in-Some : goal.returns-in-Some
returns-in-Some c =
    let a = c.args in
    let rs = read_rows a.file.now in
    records-put (labelled rs a.locale.now (listed_from rs [] (elements a.raw.now))) a.out.now
    (ap Ok (sym c.in-Some.is) ∙ sym c.in_ok-all_left.was ∙ c.all_left.ensures) c.put_all.ensures
