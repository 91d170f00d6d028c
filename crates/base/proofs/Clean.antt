-- Bytes without LF. Assumes nothing.
use mathlib.Core.Path.{◌≡◌, refl}
use Prim.Native.Nat.{ℕ, zero, suc, ◌+◌}
use mathlib.Core.Bool.{Bool, true, false}
use mathlib.Core.List.{List, [], ◌∷◌, ◌++◌}
use lib.ListN.{take, drop, get_or}
use lib.Seq.{take-add}
use lib.Dec.{eqb}
use borrow.Author.Tests.{eqb-true}
use Rattle.base.specs.Choice.{pick}
use Rattle.base.specs.Lists.{span}
use Rattle.base.proofs.Tests.{class-other}

abbrev pub Clean : List ℕ → Type 0
Clean [] = Unit
Clean (b ∷ bs) = (eqb b 10 ≡ false) × Clean bs

pub clean-append : (s t : List ℕ) → Clean s → Clean t → Clean (s ++ t)
clean-append [] t c d = d
clean-append (b ∷ s) t c d = (c.0, clean-append s t c.1 d)

pub clean-take : (n : ℕ) (s : List ℕ) → Clean s → Clean (take n s)
clean-take zero s c = tt
clean-take (suc n) [] c = tt
clean-take (suc n) (b ∷ s) c = (c.0, clean-take n s c.1)

-- a front and the bytes behind it
pub clean-add : (n m : ℕ) (s : List ℕ) → Clean (take n s) → Clean (take m (drop n s)) → Clean (take (n + m) s)
clean-add n m s c d = rw (take-add n m s) (clean-append (take n s) (take m (drop n s)) c d)

-- the bytes of a class to which LF does not belong
pub clean-span : (p : ℕ → Bool) → p 10 ≡ false → (s : List ℕ) → Clean (take (span p s) s)
unfolding span
clean-span p h [] = tt
clean-span p h (b ∷ s) = by (p b) refl (clean-span p h s)
  where
    by : (t : Bool) → p b ≡ t → Clean (take (span p s) s) → Clean (take (pick t (suc (span p s)) 0) (b ∷ s))
    by true e c = (class-other p b 10 h e, c)
    by false e c = tt

-- one byte that is another
pub clean-byte : (c n : ℕ) (s : List ℕ) → eqb c 10 ≡ false → eqb (get_or s n 0) c ≡ true → Clean (take 1 (drop n s))
clean-byte c zero [] h e = tt
clean-byte c zero (b ∷ s) h e = (rw (eqb-true b c e) h, tt)
clean-byte c (suc n) [] h e = tt
clean-byte c (suc n) (b ∷ s) h e = clean-byte c n s h e
