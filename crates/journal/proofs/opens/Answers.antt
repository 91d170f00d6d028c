-- `journal::opens` meets its contract: the numbers, then the walk. Assumes nothing.
use mathlib.Core.Path.{sym, ◌∙◌}
use lib.Seq.{length-take-le}
use Rattle.journal.proofs.Numbers.{numbers-bounds}
use Rattle.journal.proofs.Opened.{opened-unfit, opened-fit}
use Rattle.journal.proofs.opens.Goals as goal

pub returns-else-fits : goal.returns-else-fits
returns-else-fits c = c.if-fits.false ∙ opened-unfit _ (sym c.if-fits.ensures)

pub slice_bounds-sound-end : goal.slice_bounds-sound-end
slice_bounds-sound-end c = sym (length-take-le _ _ (numbers-bounds _ (sym c.if-fits.ensures)).used-fits)

pub returns-then-fits : goal.returns-then-fits
returns-then-fits c = c.sound.ensures ∙ opened-fit _ (sym c.if-fits.ensures)
