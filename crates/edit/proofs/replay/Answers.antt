-- `edit::replay` meets its contract: what was decided is what is done. Assumes nothing.
use native.Mathlib.Omega.{arith}
use mathlib.Core.Path.{sym}
use lib.Seq.{length-take-le}
use Rattle.fault.proofs.Answers.{handed-on}
use Rattle.edit.proofs.Replaying.{makes, unmade}
use Rattle.edit.proofs.replay.Goals as goal

pub slice_bounds-outcome-end-2 : goal.slice_bounds-outcome-end-2
slice_bounds-outcome-end-2 c = sym (length-take-le _ _ (omega arith))

pub outcome-requires : goal.outcome-requires
outcome-requires c =
    let a = c.args in
    let l = length-take-le a.size a.file.now (omega arith) in
    (omega arith, omega arith)

pub replace-requires : goal.replace-requires
replace-requires c =
    let a = c.args in
    let l = length-take-le a.size a.file.now (omega arith) in
    let m = makes _ _ _ _ c.in_ok-len.ensures in
    (omega arith, omega arith, omega arith)

pub returns-in_err-len : goal.returns-in_err-len
returns-in_err-len c =
    let e = c.in_err-len.ensures in
    rw (handed-on _ c.from_residual.ensures.1) (record { answer = e; file = unmade _ _ _ _ _ e })

pub returns : goal.returns
returns c =
    let e = c.in_ok-len.ensures in
    record { answer = e; file = rw (makes _ _ _ _ e).is c.replace.ensures }
