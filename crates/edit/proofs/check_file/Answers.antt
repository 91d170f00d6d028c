-- `edit::check_file` meets its contract: the tests that led to each return say whether the numbers fit. Assumes nothing.
use native.Mathlib.Omega.{arith}
use mathlib.Core.Path.{sym, ◌∙◌}
use lib.Seq.{length-take-le}
use Rattle.edit.specs.Calls.{State, lent}
use Rattle.edit.proofs.Opening.{size-over, numbers-over, lengths-fit}
use Rattle.edit.proofs.check_file.Goals as goal
use Rattle.edit.proofs.check_file.Goals.{Start}

-- what is lent
abbrev held : Start → State
held c = lent c.args.file.now c.args.size c.args.journal.now c.args.used c.args.standing

pub returns-then-file-size : goal.returns-then-file-size
returns-then-file-size c = size-over (held (goal.at.returns-then-file-size c).Start) c.if-file-size.true

pub returns-then-not-fits : goal.returns-then-not-fits
returns-then-not-fits c =
    numbers-over (held (goal.at.returns-then-not-fits c).Start) c.if-file-size.false (sym c.fits.ensures ∙ c.if-not-fits.true)

pub slice_bounds-check-end : goal.slice_bounds-check-end
slice_bounds-check-end c = sym (length-take-le _ c.args.file.now (omega arith))

pub returns : goal.returns
returns c =
    c.check.ensures ∙ sym (lengths-fit (held (goal.at.returns c).Start) c.if-file-size.false (sym c.fits.ensures ∙ c.if-not-fits.false))
