-- `edit::again` meets its contract: the answer is that of the edit, with the numbers. Assumes nothing.
use Rattle.fault.proofs.Answers.{handed-on}
use Rattle.edit.proofs.Turning.{refused-too, numbers-too}
use Rattle.edit.proofs.again.Goals as goal

pub returns-in_err-size : goal.returns-in_err-size
returns-in_err-size c =
    rw (handed-on _ c.from_residual.ensures.1) (record { answer = refused-too _ _ _ _ _ c.in_err-size.ensures.answer; file = c.in_err-size.ensures.file })

pub returns : goal.returns
returns c = record { answer = numbers-too _ _ _ _ _ c.in_ok-size.ensures.answer; file = c.in_ok-size.ensures.file }
