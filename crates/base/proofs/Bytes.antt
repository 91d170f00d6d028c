-- A rule of all bytes, by one test that is computed at each. Assumes nothing.
use mathlib.Core.Path.{◌≡◌, refl, sym}
use mathlib.Core.Bool.{Bool, true, false, beq, ◌&&◌}
use Prim.Native.Nat.{ℕ, zero, suc, ◌<◌}
use native.Mathlib.Omega.{arith}
use native.Mathlib.Nat.{le_of_suc-le-suc, eq-or-lt_of_le}
use mathlib.Core.Logic.{⊎_elim}
use Rattle.base.proofs.Tests.{and_both}

-- the test passes at each number below n
abbrev pub below : (ℕ → Bool) → ℕ → Bool
below f zero = true
below f (suc n) = f n && below f n

pub below_each : (f : ℕ → Bool) (n : ℕ) → below f n ≡ true → (k : ℕ) → k < n → f k ≡ true
below_each f zero t k h = absurd (omega arith)
below_each f (suc n) t k h =
    let b = and_both (f n) (below f n) t in
    ⊎_elim (λ e. rw e b.0) (λ l. below_each f n b.1 k l) (eq-or-lt_of_le (le_of_suc-le-suc h))

-- two tests that agree at each byte
pub at-bytes : (f g : ℕ → Bool) → below (λ (b : ℕ). beq (f b) (g b)) 256 ≡ true → (b : ℕ) → b < 256 → f b ≡ g b
at-bytes f g t b h = alike (f b) (g b) (below_each (λ (b : ℕ). beq (f b) (g b)) 256 t b h)
  where
    alike : (x y : Bool) → beq x y ≡ true → x ≡ y
    alike true true e = refl
    alike true false e = sym e
    alike false true e = e
    alike false false e = refl
