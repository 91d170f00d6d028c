-- A mark that is set stays set, whatever is marked after it. Assumes nothing.
use mathlib.Core.Path.{◌≡◌, refl, sym, ◌∙◌}
use mathlib.Core.List.{List}
use mathlib.Core.Bool.{Bool, true, false, ◌&&◌, false≢true}
use Prim.Native.Nat.{ℕ, ◌/◌, ◌%◌, ◌-◌, ◌<◌, max}
use native.Mathlib.Omega.{arith}
use borrow.Author.Tests.{eqb-true, eqb-false, eq-eqb}
use lib.Arith.{bin_ind}
use lib.Bits.{bit_and, bit_or, and_step, or_step, and_self, and_zero_r, or_comm, and_le_r}
use lib.Dec.{eqb}
use lib.ListN.{length, get_or, set, length-set}
use lib.Seq.{get_or-set_same, get_or-set_other}
use Rattle.base.proofs.Tests.{by-test, and_both}
use Rattle.marks.specs.Marks.{hash_step, name_hash, hash_of, rehash, word_of, bits_of, has_bits, with_bits, marked, with_mark}

-- ---- in a word

Keeps : ℕ → Type 0
Keeps w = (a b : ℕ) → bit_and w b ≡ b → bit_and (bit_or w a) b ≡ b

kept_step : (w : ℕ) → Keeps (w / 2) → Keeps w
unfolding Keeps
kept_step w ih a b e =
    let o = or_step w a in
    let n = and_step w b in
    let hw : w % 2 < 2 = omega arith in
    let ha : a % 2 < 2 = omega arith in
    let hb : b % 2 < 2 = omega arith in
    let q : bit_and (w / 2) (b / 2) ≡ b / 2 = omega arith in
    let i = ih (a / 2) (b / 2) q in
    let o1 : bit_or w a / 2 ≡ bit_or (w / 2) (a / 2) = omega arith in
    let o2 : bit_or w a % 2 ≡ max (w % 2) (a % 2) = omega arith in
    rw (and_step (bit_or w a) b, o1, o2, i) (omega arith)

bits-kept : (w a b : ℕ) → bit_and w b ≡ b → bit_and (bit_or w a) b ≡ b
unfolding Keeps
bits-kept = bin_ind Keeps (λ a b e. rw (← e) (and_zero_r a)) kept_step

bits-own : (w a : ℕ) → bit_and (bit_or w a) a ≡ a
bits-own w a = rw or_comm (bits-kept a w a (and_self a))

-- ---- in a table

module _ (m : List ℕ) (h : ℕ) where
  pub set-length : length (with_bits m h) ≡ length m
  unfolding with_bits
  set-length = length-set m _ _

  module _ (p : 0 < length m) where
    word-inside : word_of (length m) h < length m
    word-inside = omega (arith, and_le_r (h / 281474976710656) (length m - 1))

    -- the bits are set now
    set_own : has_bits (with_bits m h) h ≡ true
    unfolding has_bits with_bits
    set_own =
        let i : ℕ = word_of (length m) h in
        let v : ℕ = bit_or (get_or m i 0) (bits_of h) in
        rw (length-set m i v, get_or-set_same m i v 0 word-inside) (eq-eqb _ _ (bits-own (get_or m i 0) (bits_of h)))

    -- bits that were set are still set
    set-kept : (k : ℕ) → has_bits m k ≡ true → has_bits (with_bits m h) k ≡ true
    unfolding has_bits with_bits
    set-kept k q = rw (length-set m (word_of (length m) h) (bit_or (get_or m (word_of (length m) h) 0) (bits_of h))) (go (eqb (word_of (length m) k) (word_of (length m) h)) refl)
      where
        i : ℕ
        i = word_of (length m) h

        go : (t : Bool) → eqb (word_of (length m) k) (word_of (length m) h) ≡ t
            → eqb (bit_and (get_or (set m (word_of (length m) h) (bit_or (get_or m (word_of (length m) h) 0) (bits_of h))) (word_of (length m) k) 0) (bits_of k)) (bits_of k) ≡ true
        go true e =
            let z : word_of (length m) k ≡ word_of (length m) h = eqb-true _ _ e in
            rw (z, get_or-set_same m (word_of (length m) h) (bit_or (get_or m (word_of (length m) h) 0) (bits_of h)) 0 word-inside)
            (eq-eqb _ _ (bits-kept (get_or m (word_of (length m) h) 0) (bits_of h) (bits_of k) (eqb-true _ _ (rw z at q))))
        go false e = rw (get_or-set_other m (word_of (length m) h) (word_of (length m) k) (bit_or (get_or m (word_of (length m) h) 0) (bits_of h)) 0 (eqb-false _ _ e)) q

module _ (m : List ℕ) (tag : ℕ) (x : List ℕ) where
  pub mark-length : length (with_mark m tag x) ≡ length m
  unfolding with_mark
  mark-length = set-length _ _ ∙ set-length m (hash_of tag x)

  module _ (p : 0 < length m) where
    inner : 0 < length (with_bits m (hash_of tag x))
    inner = rw (set-length m (hash_of tag x)) p

    -- the name has its mark now
    pub mark-own : marked (with_mark m tag x) tag x ≡ true
    unfolding marked with_mark
    mark-own =
        let h : ℕ = hash_of tag x in
        let first : has_bits (with_bits (with_bits m h) (rehash h)) h ≡ true = set-kept (with_bits m h) (rehash h) inner h (set_own m h p) in
        rw (first, set_own (with_bits m h) (rehash h) inner)

    -- the bits of a hash that were set are still set
    kept : (k : ℕ) → has_bits m k ≡ true → has_bits (with_mark m tag x) k ≡ true
    unfolding with_mark
    kept k q = set-kept (with_bits m (hash_of tag x)) (rehash (hash_of tag x)) inner k (set-kept m (hash_of tag x) p k q)

    -- a name without a mark now had none before
    pub mark-kept : (tag' : ℕ) (y : List ℕ) → marked (with_mark m tag x) tag' y ≡ false → marked m tag' y ≡ false
    unfolding marked
    mark-kept tag' y q = by-test (has_bits m h && has_bits m (rehash h)) still (λ e. e)
      where
        h : ℕ
        h = hash_of tag' y

        still : (has_bits m h && has_bits m (rehash h)) ≡ true → (has_bits m h && has_bits m (rehash h)) ≡ false
        still e =
            let b = and_both (has_bits m h) (has_bits m (rehash h)) e in
            absurd (false≢true (sym q ∙ rw (kept h b.0, kept (rehash h) b.1)))

-- a name's mark, from its two hashes
pub marked_by : (m : List ℕ) (tag : ℕ) (x : List ℕ) {m₁ m₂ : List ℕ} {h h₁ g : ℕ} {t : Bool} → h₁ ≡ name_hash x
    → h ≡ hash_step 2246822519 h₁ (tag % 65536) → g ≡ rehash h → t ≡ (has_bits m h && has_bits m g) → m₁ ≡ with_bits m h → m₂ ≡ with_bits m₁ g
    → (t ≡ marked m tag x) × (m₂ ≡ with_mark m tag x)
unfolding hash_of marked with_mark
marked_by m tag x e₁ e e₂ q s₁ s₂ = rw (q, s₂, s₁, e₂, e, e₁) (refl, refl)
