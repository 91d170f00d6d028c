-- `read_list` meets its contract: the calls that led to each return say which answer the definition has. Assumes nothing.
use Rattle.std.specs.Prelude.{Ok}
use mathlib.Core.Path.{sym, ap, ◌∙◌}
use Rattle.std.proofs.lemmas.Result.{err_from_is_err_and}
use Rattle.text.proofs.Elements.{list-refused, list-short, list-fits, list_written}
use Rattle.text.proofs.read_list.Goals as goal

pub returns-in_err-room_after : goal.returns-in_err-room_after
returns-in_err-room_after c =
    let a = c.args in
    let p = err_from_is_err_and c.from_residual.result c.from_residual.ensures.1 in
    rw (p.1, p.2) (list-refused a.raw.now a.out.now (sym c.in_err-room_after.was ∙ c.room_after.ensures))

pub write-requires : goal.write-requires
write-requires c =
    let a = c.args in
    list-fits a.raw.now a.out.now (ap Ok (sym c.in-Some.is) ∙ sym c.in_ok-room_after.was ∙ c.room_after.ensures)

pub returns-in-None : goal.returns-in-None
returns-in-None c =
    let a = c.args in
    list-short a.raw.now a.out.now (ap Ok (sym c.in-None.is) ∙ sym c.in_ok-room_after.was ∙ c.room_after.ensures)

pub returns-in-Some : goal.returns-in-Some
returns-in-Some c =
    let a = c.args in
    list_written a.raw.now a.out.now (ap Ok (sym c.in-Some.is) ∙ sym c.in_ok-room_after.was ∙ c.room_after.ensures) c.write.ensures
