-- What the journal's two numbers say of its buffer. Assumes nothing.
use mathlib.Core.Path.{◌≡◌, sym, ◌∙◌}
use Prim.Native.Nat.{◌≤◌, ◌<◌}
use mathlib.Core.Bool.{true, false, ◌&&◌, and-false}
use lib.ListN.{length}
use lib.Dec.{leb}
use borrow.Author.Tests.{leb-true, le-leb, lt-leb}
use Rattle.base.proofs.Tests.{and_both}
use Rattle.journal.specs.Lent.{Lent, numbers_fit}

module _ (s : Lent) where
  pub used-beyond : length s.journal < s.used → false ≡ numbers_fit s
  unfolding numbers_fit
  used-beyond h = rw (lt-leb s.used (length s.journal) h)

  pub used_over : 65536 < s.used → false ≡ numbers_fit s
  unfolding numbers_fit
  used_over h = simp (lt-leb s.used 65536 h, and-false)

  pub numbers_fit_lem : s.used ≤ length s.journal → s.used ≤ 65536 → leb s.standing s.used ≡ numbers_fit s
  unfolding numbers_fit
  numbers_fit_lem a b = rw (le-leb s.used (length s.journal) a, le-leb s.used 65536 b)

pub record Bounds (s : Lent) : Type 0 where
  pub used-fits : s.used ≤ length s.journal
  pub used-bound : s.used ≤ 65536
  pub standing-fits : s.standing ≤ s.used

pub numbers-bounds : (s : Lent) → numbers_fit s ≡ true → Bounds s
unfolding numbers_fit
numbers-bounds s e =
    let a = and_both (leb s.used (length s.journal) && leb s.used 65536) (leb s.standing s.used) e in
    let b = and_both (leb s.used (length s.journal)) (leb s.used 65536) a.0 in
    record { used-fits = leb-true _ _ b.0; used-bound = leb-true _ _ b.1; standing-fits = leb-true _ _ a.1 }

pub bounds-fit : (s : Lent) → Bounds s → numbers_fit s ≡ true
bounds-fit s b = sym (numbers_fit_lem s b.used-fits b.used-bound) ∙ le-leb s.standing s.used b.standing-fits
