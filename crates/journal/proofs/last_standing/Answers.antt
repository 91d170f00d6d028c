-- `journal::last_standing` meets its contract: the record where the latest one begins holds the latest edit. Assumes nothing.
use Rattle.std.specs.Prelude.{Ok, Err}
use Rattle.fault.proofs.Answers.{handed-on, ok_or-is}
use Rattle.journal.proofs.Answers.{latest-damaged, latest-nothing, latest-read}
use Rattle.journal.proofs.last_standing.Goals as goal

pub returns-in_err-last : goal.returns-in_err-last
returns-in_err-last c = rw (handed-on _ c.from_residual.ensures.1) (latest-damaged _ _ c.in_err-last.ensures, tt)

pub returns-then-standing-eq0 : goal.returns-then-standing-eq0
returns-then-standing-eq0 c = (latest-nothing c.in_ok-last.ensures c.if-standing-eq0.true, tt)

pub returns-in_err-read_edit : goal.returns-in_err-read_edit
returns-in_err-read_edit c =
    rw (handed-on _ c.from_residual-in_err-read_edit.ensures.1) (latest-read c.in_ok-last.ensures c.if-standing-eq0.false (Err _) c.in_err-read_edit.ensures)

pub returns-in_ok-read_edit : goal.returns-in_ok-read_edit
returns-in_ok-read_edit c =
    rw (c.ok_or.ensures.value, ok_or-is) (latest-read c.in_ok-last.ensures c.if-standing-eq0.false (Ok _) c.in_ok-read_edit.ensures)
