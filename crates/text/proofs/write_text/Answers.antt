-- `write_text` meets its contract: the calls that led to each return say which answer the definition has. Assumes nothing.
use native.Mathlib.Omega.{arith}
use mathlib.Core.Path.{sym, ap, ◌∙◌}
use Rattle.text.specs.Escape.{write_text}
use Rattle.fault.specs.declared.Fault.TheVariants.{UnfitText}
use Rattle.text.proofs.OutputLaws.{leaves-refused, leaves-full, leaves-written}
use Rattle.text.proofs.Writing.{fit_written, unfit-written}
use Rattle.fault.specs.Answer.{accepted}
use Rattle.text.proofs.write_text.Goals as goal

pub returns-then-out-size : goal.returns-then-out-size
returns-then-out-size c =
    let m = c in
    let a = m.args in
    let e = fit_written a.text.now (sym c.in-None.is ∙ m.scan.ensures) in
    leaves-full (write_text a.text.now) a.out.now (ap accepted e) (rw e (omega (arith, c.raw_length-size.ensures)))

pub returns-in-Some : goal.returns-in-Some
returns-in-Some c =
    let m = c in
    let a = m.args in
    leaves-refused (write_text a.text.now) UnfitText a.out.now (unfit-written a.text.now (sym c.in-Some.is ∙ m.scan.ensures))

pub returns-else-out-size : goal.returns-else-out-size
returns-else-out-size c =
    let u = c in
    let m = u in
    let a = m.args in
    let e = fit_written a.text.now (sym u.in-None.is ∙ m.scan.ensures) in
    leaves-written (write_text a.text.now) a.out.now (ap accepted e) (rw e (omega (arith, u.raw_length-size.ensures))) (rw e u.write_raw.ensures)
