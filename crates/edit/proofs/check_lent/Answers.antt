-- `edit::check_lent` meets its contract: the calls that led to each return say which refusal comes first. Assumes nothing.
use mathlib.Core.Path.{sym, ◌∙◌}
use Rattle.std.proofs.lemmas.Result.{err_from_is_err_and}
use lib.Seq.{length-take-le}
use Rattle.edit.specs.Calls.{lent}
use Rattle.edit.proofs.Opening.{ready-fits, opened-refused, opened-sound, opened-damaged}
use Rattle.edit.proofs.check_lent.Goals as goal

pub slice_bounds-sound-end : goal.slice_bounds-sound-end
slice_bounds-sound-end c =
    let a = c.args in
    let f = ready-fits (let a = c.args in lent a.file.now a.size a.journal.now a.used a.standing) (sym c.in_ok-check_file.was ∙ c.check_file.ensures) in
    sym (length-take-le a.used a.journal.now f.numbers.used-fits)

pub returns : goal.returns
returns c = opened-sound (let a = c.args in lent a.file.now a.size a.journal.now a.used a.standing) (sym c.in_ok-check_file.was ∙ c.check_file.ensures) (sym c.sound.ensures ∙ c.if-not-sound.false)

pub returns-in_err-check_file : goal.returns-in_err-check_file
returns-in_err-check_file c =
    let p = err_from_is_err_and c.from_residual.result c.from_residual.ensures.1 in
    rw (p.1, p.2) (opened-refused (let a = c.args in lent a.file.now a.size a.journal.now a.used a.standing) (sym c.in_err-check_file.was ∙ c.check_file.ensures))

pub returns-then-not-sound : goal.returns-then-not-sound
returns-then-not-sound c = opened-damaged (let a = c.args in lent a.file.now a.size a.journal.now a.used a.standing) (sym c.in_ok-check_file.was ∙ c.check_file.ensures) (sym c.sound.ensures ∙ c.if-not-sound.true)
