-- `journal::fits` meets its contract: three comparisons. Assumes nothing.
use native.Mathlib.Omega.{arith}
use Prim.Native.Nat.{◌<◌}
use lib.ListN.{length}
use Rattle.journal.specs.Lent.{lent}
use Rattle.journal.proofs.Numbers.{used-beyond, used_over, numbers_fit_lem}
use Rattle.journal.proofs.fits.Goals as goal
use Rattle.journal.proofs.fits.Goals.{then-used-journal, else-used-journal}

pub returns-then-used-le-JOURNAL_MOST : goal.returns-then-used-le-JOURNAL_MOST
returns-then-used-le-JOURNAL_MOST c = let t = c.if-used-le-JOURNAL_MOST.true in numbers_fit_lem _ t.0 t.1

pub returns-else-used-le-JOURNAL_MOST : goal.returns-else-used-le-JOURNAL_MOST
returns-else-used-le-JOURNAL_MOST c =
    let a = c.args in
    elim c.if-used-journal.branch [
      | then-used-journal w ↦ let h : 65536 < a.used = omega arith in cc (used_over (lent a.journal.now a.used a.standing) h)
      | else-used-journal w ↦ let h : length a.journal.now < a.used = omega arith in cc (used-beyond (lent a.journal.now a.used a.standing) h)
    ]
