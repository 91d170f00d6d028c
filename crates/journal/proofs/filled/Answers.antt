-- `journal::filled` meets its contract: the records from the place on decide. Assumes nothing.
use native.Mathlib.Omega.{arith}
use Rattle.record.proofs.Each.{fill-begin, fill-damaged, fill-next, fill_done}
use Rattle.journal.specs.Journal.{read_edit}
use Rattle.journal.proofs.Walking.{further, ends-record}
use Rattle.journal.proofs.filled.Goals as goal

pub returns-in-Err : goal.returns-in-Err
returns-in-Err c =
    let r = c.in-Err.ensures in
    fill-damaged read_edit c.loop-record.invariant r.1 r.2

pub returns-in-Ok-None : goal.returns-in-Ok-None
returns-in-Ok-None c = fill_done read_edit c.loop-record.invariant (rw c.in-Ok-None.field-0-is at c.in-Ok-None.ensures)

pub loop-record-smaller : goal.loop-record-smaller
loop-record-smaller c =
    let r = rw c.in-Ok-Some.field-0-is at c.in-Ok-Some.ensures in
    omega (arith, further r, r.inside)

pub loop-record-preserved : goal.loop-record-preserved
loop-record-preserved c =
    let r = rw c.in-Ok-Some.field-0-is at c.in-Ok-Some.ensures in
    fill-next read_edit c.loop-record.invariant r.edit (ends-record r)

pub loop-record-init : goal.loop-record-init
loop-record-init c = fill-begin read_edit _ _
