-- `edit::turn` meets its contract: the calls that led to each return say how far the definition goes. Assumes nothing.
use native.Mathlib.Omega.{arith}
use mathlib.Core.Path.{sym}
use lib.Seq.{length-take-le}
use Rattle.journal.specs.declared.Way.TheVariants.{Undo, Redo}
use Rattle.fault.proofs.Answers.{handed-on}
use Rattle.edit.proofs.Opening.{ready-fits}
use Rattle.edit.proofs.Turning.{way-steps, made-unready, made-unread, made_again}
use Rattle.edit.proofs.turn.Goals as goal

pub slice_bounds-edits-end : goal.slice_bounds-edits-end
slice_bounds-edits-end c = sym (length-take-le _ _ (ready-fits _ (rw c.in_ok-check_file.was at c.check_file.ensures)).numbers.used-fits)

pub again-requires : goal.again-requires
again-requires c =
    let i = ready-fits _ (rw c.in_ok-check_file.was at c.check_file.ensures) in
    let w = c.in_ok-start.ensures.1 in
    record { size_fits = (i.ready.size_fits, i.ready.size_bound); parts_fit = (omega arith, omega arith, omega arith, omega arith) }

pub again-requires-in-Redo : goal.again-requires-in-Redo
again-requires-in-Redo c =
    let i = ready-fits _ (rw c.in_ok-check_file.was at c.check_file.ensures) in
    let w = c.in_ok-start.ensures.1 in
    record { size_fits = (i.ready.size_fits, i.ready.size_bound); parts_fit = (omega arith, omega arith, omega arith, omega arith) }

pub returns-in_err-check_file : goal.returns-in_err-check_file
returns-in_err-check_file c =
    rw (handed-on _ c.from_residual.ensures.1) (made-unready (way-steps c.args.way _) (rw c.in_err-check_file.was at c.check_file.ensures))

pub returns-in_err-start : goal.returns-in_err-start
returns-in_err-start c =
    rw (handed-on _ c.from_residual-in_err-start.ensures.1) (made-unread (way-steps c.args.way _) (rw c.in_ok-check_file.was at c.check_file.ensures) c.in_err-start.ensures.0)

pub returns-in-Undo : goal.returns-in-Undo
returns-in-Undo c =
    let t = c.in-Undo.is in
    let q = rw t at c.in_ok-start.ensures in
    let e = c.again.ensures in
    rw t (made_again (way-steps Undo _) (rw c.in_ok-check_file.was at c.check_file.ensures) q.0 e.answer e.file)

pub returns-in-Redo : goal.returns-in-Redo
returns-in-Redo c =
    let t = c.in-Redo.is in
    let q = rw t at c.in_ok-start.ensures in
    let e = c.again-in-Redo.ensures in
    rw t (made_again (way-steps Redo _) (rw c.in_ok-check_file.was at c.check_file.ensures) q.0 e.answer e.file)
