-- The raw value of a text, a byte of the text at a time. Assumes nothing.
use Rattle.std.specs.Prelude.{Option, Some, None, Ok, Err, is_some}
use mathlib.Core.Path.{◌≡◌, refl, ap}
use Prim.Native.Nat.{ℕ, ◌+◌, ◌*◌, ◌≤◌, ◌<◌}
use native.Mathlib.Omega.{arith}
use mathlib.Core.Bool.{Bool, true, false}
use mathlib.Core.List.{List, [], ◌∷◌, ◌++◌}
use lib.ListN.{length, drop, get_or, set}
use lib.Dec.{eqb}
use borrow.Author.Tests.{ne_eqb}
use Rattle.base.specs.Choice.{pick}
use Rattle.base.specs.Lists.{ascii}
use Rattle.base.specs.Over.{at_front}
use Rattle.base.proofs.Scan.{here, done}
use Rattle.base.proofs.Tests.{no}
use Rattle.base.proofs.Fill.{Fill, fill-length, fill-as, fill-byte, fill_end}
use Rattle.fault.specs.declared.Fault.TheVariants.{UnfitText}
use Rattle.characters.specs.Class.{text_byte}
use Rattle.characters.specs.Utf8.{text_fault}
use Rattle.characters.specs.declared.Due.TheVariants.{Start}
use Rattle.text.specs.Escape.{escaped, escaped_all, raw_text, fit_text, write_text}
use Rattle.text.specs.Step.{letter, letter_of}

-- a byte by its letter: itself, or a backslash and the letter
abbrev spelled : Option ℕ → ℕ → List ℕ
spelled None b = b ∷ []
spelled (Some c) b = 92 ∷ c ∷ []

escaped-letter : (b : ℕ) → escaped b ≡ spelled (letter b) b
unfolding escaped letter
escaped-letter b = go (eqb b 92) (eqb b 10) (eqb b 9) (eqb b 13)
  where
    go : (t₁ t₂ t₃ t₄ : Bool)
        → pick t₁ (ascii "\\\\") (pick t₂ (ascii "\\n") (pick t₃ (ascii "\\t") (pick t₄ (ascii "\\r") (b ∷ []))))
        ≡ spelled (pick t₁ (Some 92) (pick t₂ (Some 110) (pick t₃ (Some 116) (pick t₄ (Some 114) None)))) b
    go true t₂ t₃ t₄ = refl
    go false true t₃ t₄ = refl
    go false false true t₄ = refl
    go false false false true = refl
    go false false false false = refl

-- the raw value of a text's rest; the flag: nothing of the text was passed
abbrev pub raw_from : Bool → List ℕ → List ℕ
raw_from true s = raw_text s
raw_from false s = escaped_all s

raw-cons : (first : Bool) (b : ℕ) (bs : List ℕ) → raw_from first (b ∷ bs) ≡ spelled (letter_of first b) b ++ escaped_all bs
unfolding raw_text escaped_all
raw-cons true b bs = go (eqb b 32)
  where
    go : (t : Bool) → pick t (ascii "\\s") (escaped b) ++ escaped_all bs ≡ spelled (pick t (Some 115) (letter b)) b ++ escaped_all bs
    go true = refl
    go false = rw (escaped-letter b)
raw-cons false b bs = rw (escaped-letter b)

raw-done : (first : Bool) → raw_from first [] ≡ []
unfolding raw_text escaped_all
raw-done true = refl
raw-done false = refl

module _ (s : List ℕ) (i : ℕ) where
  -- the raw value from a place on
  abbrev pub raw_at : List ℕ
  raw_at = raw_from (eqb i 0) (drop i s)

  pub raw-end : length s ≤ i → raw_at ≡ []
  raw-end h = rw (done s i h) (raw-done (eqb i 0))

  module _ (h : i < length s) where
    later : {o : Option ℕ} → o ≡ letter_of (eqb i 0) (get_or s i 0) → raw_at ≡ spelled o (get_or s i 0) ++ raw_from (eqb (i + 1) 0) (drop (i + 1) s)
    later e = rw (here s i h, raw-cons (eqb i 0) (get_or s i 0) (drop (i + 1) s), ← e, ne_eqb (i + 1) 0 (λ z. omega arith))

    pub raw-plain : None ≡ letter_of (eqb i 0) (get_or s i 0) → raw_at ≡ get_or s i 0 ∷ raw_from (eqb (i + 1) 0) (drop (i + 1) s)
    raw-plain e = later e

    pub raw-pair : {c : ℕ} → Some c ≡ letter_of (eqb i 0) (get_or s i 0) → raw_at ≡ 92 ∷ c ∷ raw_from (eqb (i + 1) 0) (drop (i + 1) s)
    raw-pair e = later e

-- ---- what is written and the raw value from the place on are the whole

pub record Spelling (text out₀ out : List ℕ) (i n : ℕ) : Type 0 where
  pub i-le : i ≤ length text
  pub room : length (raw_text text) ≤ length out₀
  pub fill : Fill out₀ (raw_text text) out n (raw_at text i)

module _ {text out₀ out : List ℕ} {i n : ℕ} (r : Spelling text out₀ out i n) (h : i < length text) where
  module _ (e : None ≡ letter_of (eqb i 0) (get_or text i 0)) where
    plain-fill : Fill out₀ (raw_text text) out n (get_or text i 0 ∷ raw_at text (i + 1))
    plain-fill = fill-as r.fill (raw-plain text i h e)

    pub plain-room : n < length out
    plain-room = let l = fill-length plain-fill in let f = r.fill.long in omega (arith, r.room)

    pub spell-plain : Spelling text out₀ (set out n (get_or text i 0)) (i + 1) (n + 1)
    spell-plain = record { i-le = omega arith; room = r.room; fill = fill-byte plain-fill r.room }

  module _ {c : ℕ} (e : Some c ≡ letter_of (eqb i 0) (get_or text i 0)) where
    pair-fill : Fill out₀ (raw_text text) out n (92 ∷ c ∷ raw_at text (i + 1))
    pair-fill = fill-as r.fill (raw-pair text i h e)

    pub pair-room : n + 1 < length out
    pair-room = let l = fill-length pair-fill in let f = r.fill.long in omega (arith, r.room)

    pub spell-pair : {m : ℕ} → m ≡ n + 2 → Spelling text out₀ (set (set out n 92) (n + 1) c) (i + 1) m
    spell-pair q =
        let k : n + 1 + 1 ≡ n + 2 = omega arith in
        record { i-le = omega arith; room = r.room; fill = rw (q, ← k) (fill-byte (fill-byte pair-fill r.room) r.room) }

pub spell-end : {text out₀ out : List ℕ} {i n : ℕ} → Spelling text out₀ out i n → length text ≤ i
    → (n ≡ length (raw_text text)) × (out ≡ at_front out₀ (raw_text text))
spell-end {text} {out₀} {out} {i} r h = fill_end (fill-as r.fill (raw-end text i h))

-- ---- what is counted and the length of the rest are the whole length

pub record RawMeasured (text : List ℕ) (i n : ℕ) : Type 0 where
  pub i-le : i ≤ length text
  pub n-le : n ≤ 2 * i
  pub goes : n + length (raw_at text i) ≡ length (raw_text text)

module _ {text : List ℕ} {i n : ℕ} (m : RawMeasured text i n) (h : i < length text) where
  pub count-plain : (o : Option ℕ) → o ≡ letter_of (eqb i 0) (get_or text i 0) → is_some o ≡ false → RawMeasured text (i + 1) (n + 1)
  count-plain None e t = record { i-le = omega arith; n-le = omega arith; goes = omega (arith, m.goes, ap length (raw-plain text i h e)) }
  count-plain (Some c) e t = no (cc)

  pub count-pair : (o : Option ℕ) → o ≡ letter_of (eqb i 0) (get_or text i 0) → is_some o ≡ true → RawMeasured text (i + 1) (n + 2)
  count-pair None e t = no (cc)
  count-pair (Some c) e t = record { i-le = omega arith; n-le = omega arith; goes = omega (arith, m.goes, ap length (raw-pair text i h e)) }

pub count-end : {text : List ℕ} {i n : ℕ} → RawMeasured text i n → length text ≤ i → n ≡ length (raw_text text)
count-end {text} {i} m h = omega (arith, m.goes, ap length (raw-end text i h))

-- ---- text that can be set, and text that cannot

pub fit_written : (t : List ℕ) → None ≡ text_fault text_byte Start t → write_text t ≡ Ok (raw_text t)
unfolding write_text fit_text
fit_written t e = rw (← e)

pub unfit-written : (t : List ℕ) {n : ℕ} → Some n ≡ text_fault text_byte Start t → write_text t ≡ Err UnfitText
unfolding write_text fit_text
unfit-written t e = rw (← e)
