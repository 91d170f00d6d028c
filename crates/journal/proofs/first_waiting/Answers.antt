-- `journal::first_waiting` meets its contract: the record at standing holds the next edit. Assumes nothing.
use Rattle.std.specs.Prelude.{Ok, Err}
use Rattle.fault.proofs.Answers.{handed-on, ok_or-is}
use Rattle.journal.proofs.Answers.{waiting-damaged, waiting-read}
use Rattle.journal.proofs.first_waiting.Goals as goal

pub returns-in_err-walk : goal.returns-in_err-walk
returns-in_err-walk c = rw (handed-on _ c.from_residual.ensures.1) (waiting-damaged _ _ c.in_err-walk.ensures, tt)

pub returns-in_err-read_edit : goal.returns-in_err-read_edit
returns-in_err-read_edit c = rw (handed-on _ c.from_residual-in_err-read_edit.ensures.1) (waiting-read c.in_ok-walk.ensures (Err _) c.in_err-read_edit.ensures)

pub returns : goal.returns
returns c = rw (c.ok_or.ensures.value, ok_or-is) (waiting-read c.in_ok-walk.ensures (Ok _) c.in_ok-read_edit.ensures)
