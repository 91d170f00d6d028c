-- The bytes of a name from a place on, and their hash. Assumes nothing.
use native.Mathlib.Omega.{arith}
use mathlib.Core.Path.{◌≡◌, refl}
use mathlib.Core.List.{List, [], ◌∷◌}
use Prim.Native.Nat.{ℕ, ◌+◌, ◌≤◌, ◌<◌}
use lib.ListN.{length, get_or, drop}
use Rattle.base.proofs.Scan.{here}
use Rattle.marks.specs.Marks.{hash_word, hash_from}

-- four bytes, one by one
pub four : (x : List ℕ) (i : ℕ) → i + 4 ≤ length x → drop i x ≡ get_or x i 0 ∷ get_or x (i + 1) 0 ∷ get_or x (i + 2) 0 ∷ get_or x (i + 3) 0 ∷ drop (i + 4) x
four x i h =
    let k : i + 1 + 1 ≡ i + 2 = omega arith in
    let l : i + 2 + 1 ≡ i + 3 = omega arith in
    let m : i + 3 + 1 ≡ i + 4 = omega arith in
    rw (here x i (omega arith), here x (i + 1) (omega arith), k, here x (i + 2) (omega arith), l, here x (i + 3) (omega arith), m)

-- fewer than four
pub hash-end : (last h : ℕ) (s : List ℕ) → length s < 4 → hash_from last s h ≡ hash_word h last
unfolding hash_from
hash-end last h [] l = refl
hash-end last h (a ∷ []) l = refl
hash-end last h (a ∷ b ∷ []) l = refl
hash-end last h (a ∷ b ∷ c ∷ []) l = refl
hash-end last h (a ∷ b ∷ c ∷ d ∷ s) l = absurd (omega arith)
