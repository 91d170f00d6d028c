-- Numbers in little-endian bytes: how they read back, and what the bytes at a place are as a number. Assumes nothing.
use mathlib.Core.Path.{◌≡◌, refl, sym, ap}
use mathlib.Core.List.{List, [], ◌∷◌}
use Prim.Native.Nat.{ℕ, zero, suc, ◌+◌, ◌-◌, ◌*◌, ◌/◌, ◌%◌, ◌^◌, ◌≤◌, ◌<◌}
use native.Mathlib.Nat.{pow-suc, pow-le-pow_right}
use native.Mathlib.Omega.{arith}
use lib.ListN.{length, get_or, take, drop}
use Rattle.base.proofs.Scan.{here}
use Rattle.record.specs.Number.{little_endian, number_in}

-- the number fits so many bytes
unfoldable pub FitsBytes : ℕ → ℕ → Type 0
FitsBytes zero n = n ≡ 0
FitsBytes (suc width) n = FitsBytes width (n / 256)

pub fits-two : (n : ℕ) → n < 65536 → FitsBytes 2 n
unfolding FitsBytes
fits-two n h = omega arith

pub fits-four : (n : ℕ) → n < 4294967296 → FitsBytes 4 n
unfolding FitsBytes
fits-four n h = omega arith

-- a number written in bytes that it fits is read back
pub number-back : (width n : ℕ) → FitsBytes width n → number_in (little_endian width n) ≡ n
unfolding FitsBytes number_in little_endian
number-back zero n h = sym h
number-back (suc width) n h =
    let e : number_in (little_endian width (n / 256)) ≡ n / 256 = number-back width (n / 256) h in
    omega arith

pub length-number : (width n : ℕ) → length (little_endian width n) ≡ width
unfolding little_endian
length-number zero n = refl
length-number (suc width) n = ap suc (length-number width (n / 256))

-- the bytes at a place are the first one and 256 times the rest
pub number-here : (s : List ℕ) (at width : ℕ) → at < length s
    → number_in (take (suc width) (drop at s)) ≡ get_or s at 0 + 256 * number_in (take width (drop (at + 1) s))
unfolding number_in
number-here s at width h = rw (here s at h)

-- ---- read and written by a loop

-- of so many bytes at a place those from byte i on, as a number
pub record Reading (s : List ℕ) (at width i n : ℕ) : Type 0 where
  pub is : n ≡ number_in (take (width - i) (drop (at + i) s))
  pub small : n < 256 ^ (width - i)

module _ (s : List ℕ) (at width : ℕ) where
  pub reading-begin : Reading s at width width 0
  unfolding number_in
  reading-begin = let z : width - width ≡ 0 = omega arith in record { is = rw z; small = rw z (omega arith) }

  pub reading-done : {n : ℕ} → Reading s at width 0 n → (n ≡ number_in (take width (drop at s))) × (n < 256 ^ width)
  reading-done r = let z : width - 0 ≡ width = omega arith in let k : at + 0 ≡ at = omega arith in (rw (z, k) at r.is, rw z at r.small)

  module _ {i n : ℕ} (r : Reading s at width i n) where
    pub reading-small : width ≤ 4 → n < 4294967296
    reading-small h =
        let p : 256 ^ (width - i) ≤ 256 ^ 4 = pow-le-pow_right (omega arith) {i = width - i} {j = 4} (omega arith) in
        omega (arith, p, r.small)

    pub reading-next : {b : ℕ} → at + width ≤ length s → i ≤ width → 0 < i → b ≡ get_or s (at + (i - 1)) 0 → b < 256 → Reading s at width (i - 1) (b + 256 * n)
    reading-next h l p e f =
        let w : width - (i - 1) ≡ suc (width - i) = omega arith in
        let k : at + (i - 1) + 1 ≡ at + i = omega arith in
        let q : 256 ^ suc (width - i) ≡ 256 ^ (width - i) * 256 = pow-suc 256 (width - i) in
        record {
          is = rw (w, number-here s (at + (i - 1)) (width - i) (omega arith), k) (omega (arith, r.is));
          small = rw (w, q) (omega (arith, r.small));
        }

-- the bytes of a number from byte i on
pub bytes-next : (width i n : ℕ) → i < width → little_endian (width - i) n ≡ n % 256 ∷ little_endian (width - (i + 1)) (n / 256)
unfolding little_endian
bytes-next width i n h = let z : width - i ≡ suc (width - (i + 1)) = omega arith in rw z

pub bytes-end : (width i n : ℕ) → width ≤ i → little_endian (width - i) n ≡ []
unfolding little_endian
bytes-end width i n h = let z : width - i ≡ 0 = omega arith in rw z
