-- Words, one after another, and where they end. Assumes nothing.
use mathlib.Core.Path.{◌≡◌, ap, ◌∙◌}
use Prim.Native.Nat.{ℕ, zero, suc, ◌+◌, ◌-◌, ◌≤◌, ◌<◌}
use native.Mathlib.Nat.{add-zero}
use native.Mathlib.Omega.{arith}
use mathlib.Core.Bool.{Bool, true, false}
use mathlib.Core.List.{List, [], ◌∷◌}
use lib.ListN.{length, take, drop, get_or, length-drop}
use lib.Seq.{get_or-drop, drop-drop, drop-nil}
use lib.Dec.{eqb}
use borrow.Author.Tests.{eq-eqb, ne_eqb}
use Rattle.base.specs.Choice.{pick}
use Rattle.base.specs.Lists.{span, part}
use Rattle.base.proofs.Scan.{here, done}
use Rattle.base.proofs.Span.{span-from}
use Rattle.characters.specs.Bare.{bare_length}
use Rattle.line.specs.Name.{byte_at}
use Rattle.command.specs.Words.{Word, inside_length, opens, not_space, quoted_length, word_length, words_after}

-- the first byte from a place on, and the second
pub first_byte : (s : List ℕ) (i : ℕ) → byte_at (drop i s) 0 ≡ get_or s i 0
first_byte s i = rw (get_or-drop, add-zero)

-- ---- where a word ends

module _ (s : List ℕ) (from : ℕ) where
  pub word-quoted : {c e : ℕ} → get_or s from 0 ≡ 34 → c ≡ from + 1 + bare_length 34 (drop (from + 1) s) false → e ≡ c + span not_space (drop c s)
      → e ≡ from + word_length (drop from s)
  unfolding word_length
  word-quoted {c} {e} b p q =
      let o : opens (drop from s) ≡ true = rw (first_byte s from) (eq-eqb _ _ b) in
      let n : inside_length (drop from s) ≡ bare_length 34 (drop (from + 1) s) false = rw (drop-drop 1 from s) in
      let k : from + (1 + inside_length (drop from s)) ≡ c = omega arith in
      rw (o, drop-drop (1 + inside_length (drop from s)) from s, k) (omega (arith, q))

  pub word-bare : {e : ℕ} → (get_or s from 0 ≡ 34 → ⊥) → e ≡ from + span not_space (drop from s) → e ≡ from + word_length (drop from s)
  unfolding word_length
  word-bare n q =
      let o : opens (drop from s) ≡ false = rw (first_byte s from) (ne_eqb _ _ n) in
      rw o (omega (arith, q))

quote-le : (s : List ℕ) (t : Bool) → bare_length 34 s t ≤ length s
unfolding bare_length
quote-le [] t = omega arith
quote-le (b ∷ s) true = let h = quote-le s false in omega arith
quote-le (b ∷ s) false = go (eqb b 34) (quote-le s (eqb b 92))
  where
    go : (t : Bool) → bare_length 34 s (eqb b 92) ≤ length s → pick t 0 (suc (bare_length 34 s (eqb b 92))) ≤ suc (length s)
    go true h = omega arith
    go false h = omega arith

-- a quote that was looked for behind an opening one
pub quote-ends : (s : List ℕ) {c : ℕ} → 0 < length s → c ≡ 1 + inside_length s → (0 < c) × (c ≤ length s)
quote-ends s h e = let l = quote-le (drop 1 s) false in let d = length-drop 1 s in (omega arith, omega arith)

quoted-le : (s : List ℕ) → 0 < length s → quoted_length s ≤ length s
quoted-le s h = go (opens s)
  where
    go : (t : Bool) → pick t (1 + inside_length s) 0 ≤ length s
    go true = omega (arith, quote-le (drop 1 s) false, length-drop 1 s)
    go false = omega arith

word-le : (s : List ℕ) → 0 < length s → word_length s ≤ length s
unfolding word_length
word-le s h = span-from not_space s (quoted_length s) (quoted-le s h)

-- a word has a byte at least
word_some : (s : List ℕ) → 0 < length s → not_space (byte_at s 0) ≡ true → 0 < word_length s
unfolding word_length span
word_some [] h n = absurd (omega arith)
word_some (b ∷ s) h n = go (opens (b ∷ s))
  where
    go : (t : Bool) → 0 < pick t (1 + inside_length (b ∷ s)) 0 + span not_space (drop (pick t (1 + inside_length (b ∷ s)) 0) (b ∷ s))
    go true = omega arith
    go false = rw n (omega arith)

-- ---- the words from a place on

pub words-pass : (s : List ℕ) (n at : ℕ) → words_after s n at ≡ words_after (drop n s) 0 (at + n)
unfolding words_after
words-pass [] n at = rw (drop-nil n)
words-pass (b ∷ s) zero at = rw (add-zero at)
words-pass (b ∷ s) (suc n) at = words-pass s n (at + 1) ∙ ap (λ (k : ℕ). words_after (drop n s) 0 k) (omega arith)

words_step : (s : List ℕ) (at : ℕ) → 0 < length s → not_space (byte_at s 0) ≡ true
    → words_after s 0 at ≡ record { start = at; bytes = take (word_length s) s } ∷ words_after (drop (word_length s) s) 0 (at + word_length s)
unfolding words_after
words_step [] at h n = absurd (omega arith)
words_step (b ∷ s) at h n = rw n (go (word_length (b ∷ s)) (word_some (b ∷ s) h n))
  where
    go : (m : ℕ) → 0 < m
        → record { start = at; bytes = take m (b ∷ s) } ∷ words_after s (m - 1) (at + 1) ≡ record { start = at; bytes = take m (b ∷ s) } ∷ words_after (drop m (b ∷ s)) 0 (at + m)
    go zero h = absurd (omega arith)
    go (suc m) h =
        let e : suc m - 1 ≡ m = omega arith in
        let f : at + 1 + m ≡ at + suc m = omega arith in
        rw (e, words-pass s m (at + 1), f)

-- the words from a place of the value on
abbrev pub words_at : List ℕ → ℕ → List Word
words_at s i = words_after (drop i s) 0 i

pub words-done : (s : List ℕ) (i : ℕ) → length s ≤ i → words_at s i ≡ []
unfolding words_after
words-done s i h = rw (done s i h)

module _ (s : List ℕ) (i : ℕ) (h : i < length s) where
  some_left : 0 < length (drop i s)
  some_left = simp length-drop (omega arith)

  pub words-space : get_or s i 0 ≡ 32 → words_at s i ≡ words_at s (i + 1)
  unfolding words_after
  words-space b = rw (here s i h, eq-eqb _ _ b)

  module _ {e : ℕ} (n : get_or s i 0 ≡ 32 → ⊥) (q : e ≡ i + word_length (drop i s)) where
    no-space : not_space (byte_at (drop i s) 0) ≡ true
    no-space = rw (first_byte s i, ne_eqb _ _ n)

    pub word-ends : (i < e) × (e ≤ length s)
    word-ends =
        let a = word_some (drop i s) some_left no-space in
        let b = word-le (drop i s) some_left in
        let l = length-drop i s in
        (omega arith, omega arith)

    pub words-word : words_at s i ≡ record { start = i; bytes = part i e s } ∷ words_at s e
    words-word =
        let m : e - i ≡ word_length (drop i s) = omega arith in
        rw (words_step (drop i s) i some_left no-space, drop-drop (word_length (drop i s)) i s, ← q, m)
