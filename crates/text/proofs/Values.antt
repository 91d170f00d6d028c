-- A text that can be set is written as a value that an entry may have. Assumes nothing.
use Rattle.std.specs.Prelude.{Option, Some, None}
use mathlib.Core.Path.{◌≡◌, refl, sym, ap, ◌∙◌}
use Prim.Native.Nat.{ℕ, ◌<◌}
use native.Mathlib.Omega.{arith}
use mathlib.Core.Bool.{Bool, true, false, not, ◌||◌, false≢true}
use mathlib.Core.List.{List, [], ◌∷◌, ◌++◌}
use lib.Dec.{eqb}
use borrow.Author.Tests.{eqb-true}
use Rattle.base.specs.Choice.{pick, there}
use Rattle.base.specs.Lists.{ascii, span}
use Rattle.characters.specs.Class.{space_byte, value_byte, text_byte}
use Rattle.characters.specs.Utf8.{step, text_fault}
use Rattle.characters.proofs.Steps.{High, step-high, low-start, goes, went}
use Rattle.characters.specs.declared.Due.{Due}
use Rattle.characters.specs.declared.Due.TheVariants.{Start, Tail}
use Rattle.text.specs.Escape.{escaped, escaped_all, raw_text, fit_text}
use Rattle.base.proofs.Tests.{no, by-test}

-- a byte written as a pair
pair_goes : (b c : ℕ) (d next : Due) (s : List ℕ) → b < 128 → step text_byte Start b ≡ Some Start → step value_byte Start c ≡ Some Start → High d → step text_byte d b ≡ Some next
    → text_fault value_byte next s ≡ None → text_fault value_byte d (92 ∷ c ∷ s) ≡ None
pair_goes b c d next s l o p h e f =
    let i : d ≡ Start = low-start text_byte d b next l h e in
    let j : Some next ≡ Some Start = sym e ∙ ap (λ (x : Due). step text_byte x b) i ∙ o in
    let k : next ≡ Start = cc in
    rw i (went value_byte Start 92 (c ∷ s) Start (unfold step value_byte in refl) (went value_byte Start c s Start p (rw k at f)))

plain-same : (b : ℕ) → eqb b 10 ≡ false → eqb b 9 ≡ false → eqb b 13 ≡ false → text_byte b ≡ value_byte b
unfolding text_byte
plain-same b e₁ e₂ e₃ = rw (e₁, e₂, e₃) (by (value_byte b))
  where
    by : (t : Bool) → (t || false || false || false) ≡ t
    by true = refl
    by false = refl

plain_step : (b : ℕ) (d : Due) → text_byte b ≡ value_byte b → step text_byte d b ≡ step value_byte d b
unfolding step
plain_step b Start e = rw e
plain_step b (Tail more low high) e = refl

escaped-goes : (b : ℕ) (d next : Due) (s : List ℕ) → High d → step text_byte d b ≡ Some next → text_fault value_byte next s ≡ None → text_fault value_byte d (escaped b ++ s) ≡ None
unfolding escaped
escaped-goes b d next s h e f =
    by-test (eqb b 92)
    (λ t₁. rw t₁ (pair 92 92 t₁ (omega arith) (unfold step text_byte value_byte in refl) (unfold step value_byte in refl)))
    (λ n₁. by-test (eqb b 10)
    (λ t₂. rw (n₁, t₂) (pair 10 110 t₂ (omega arith) (unfold step text_byte value_byte in refl) (unfold step value_byte in refl)))
    (λ n₂. by-test (eqb b 9)
    (λ t₃. rw (n₁, n₂, t₃) (pair 9 116 t₃ (omega arith) (unfold step text_byte value_byte in refl) (unfold step value_byte in refl)))
    (λ n₃. by-test (eqb b 13)
    (λ t₄. rw (n₁, n₂, n₃, t₄) (pair 13 114 t₄ (omega arith) (unfold step text_byte value_byte in refl) (unfold step value_byte in refl)))
    (λ n₄. rw (n₁, n₂, n₃, n₄) (went value_byte d b s next (sym (plain_step b d (plain-same b n₂ n₃ n₄)) ∙ e) f)))))
  where
    pair : (k c : ℕ) → eqb b k ≡ true → k < 128 → step text_byte Start k ≡ Some Start → step value_byte Start c ≡ Some Start → text_fault value_byte d (92 ∷ c ∷ s) ≡ None
    pair k c t l o p = let i = eqb-true b k t in pair_goes b c d next s (omega arith) (rw i o) p h e f

unfinished : (more low high : ℕ) → text_fault text_byte (Tail more low high) [] ≡ None → ⊥
unfolding text_fault
unfinished more low high e = no (cc)

escaped_all-goes : (t : List ℕ) (d : Due) → High d → text_fault text_byte d t ≡ None → text_fault value_byte d (escaped_all t) ≡ None
unfolding escaped_all
escaped_all-goes [] Start h e = unfold text_fault in refl
escaped_all-goes [] (Tail more low high) h e = absurd (unfinished more low high e)
escaped_all-goes (b ∷ t) d h e =
    let g = goes text_byte d b t e in
    escaped-goes b d g.next (escaped_all t) h g.one (escaped_all-goes t g.next (step-high text_byte d b g.next h g.one) g.rest)

fit-text : (t : List ℕ) → fit_text t ≡ true → text_fault text_byte Start t ≡ None
unfolding fit_text
fit-text t e = by (text_fault text_byte Start t) e
  where
    by : (o : Option ℕ) → not (there o) ≡ true → o ≡ None
    by None e = refl
    by (Some n) e = absurd (false≢true e)

-- a written text is a value
pub raw-text : (t : List ℕ) → fit_text t ≡ true → text_fault value_byte Start (raw_text t) ≡ None
unfolding raw_text
raw-text [] e = unfold text_fault in refl
raw-text (b ∷ t) e =
    let g = goes text_byte Start b t (fit-text (b ∷ t) e) in
    let f = escaped_all-goes t g.next (step-high text_byte Start b g.next tt g.one) g.rest in
    by-test (eqb b 32)
    (λ i. let j = eqb-true b 32 i in rw i (pair_goes b 115 Start g.next (escaped_all t) (omega arith) (rw j (unfold step text_byte value_byte in refl)) (unfold step value_byte in refl) tt g.one f))
    (λ n. rw n (escaped-goes b Start g.next (escaped_all t) tt g.one f))

-- it begins with no space
pub raw-front : (t : List ℕ) → span space_byte (raw_text t) ≡ 0
unfolding raw_text span escaped
raw-front [] = refl
raw-front (b ∷ t) = by (eqb b 32) (eqb b 92) (eqb b 10) (eqb b 9) (eqb b 13) refl
  where
    by : (t₀ t₁ t₂ t₃ t₄ : Bool) → eqb b 32 ≡ t₀
        → span space_byte (pick t₀ (ascii "\\s") (pick t₁ (ascii "\\\\") (pick t₂ (ascii "\\n") (pick t₃ (ascii "\\t") (pick t₄ (ascii "\\r") (b ∷ []))))) ++ escaped_all t) ≡ 0
    by true t₁ t₂ t₃ t₄ e = refl
    by false true t₂ t₃ t₄ e = refl
    by false false true t₃ t₄ e = refl
    by false false false true t₄ e = refl
    by false false false false true e = refl
    by false false false false false e = rw e
