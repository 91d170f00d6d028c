-- Text read from raw bytes, a byte of the text at a time. Assumes nothing.
use Rattle.std.specs.Prelude.{Option, Some, None, Ok, Err}
use mathlib.Core.Path.{◌≡◌, refl, sym, ap, ◌∙◌}
use Prim.Native.Nat.{ℕ, suc, ◌+◌, ◌≤◌, ◌<◌}
use native.Mathlib.Nat.{add-zero, add_assoc}
use native.Mathlib.Omega.{arith}
use mathlib.Core.Bool.{Bool, true, false, false≢true}
use mathlib.Core.List.{List, [], ◌∷◌}
use lib.ListN.{length, drop, set, length-drop}
use lib.Seq.{drop-drop}
use lib.Dec.{eqb}
use Rattle.base.specs.Choice.{pick, maybe}
use Rattle.base.specs.Over.{at_front}
use Rattle.base.proofs.Scan.{done}
use Rattle.base.proofs.Tests.{no}
use Rattle.base.proofs.Fill.{Fill, fill-length, fill-as, fill-byte, fill_end}
use Rattle.fault.specs.declared.Fault.TheVariants.{BadEscape}
use Rattle.fault.specs.Answer.{Answer, then, accepted}
use Rattle.text.specs.Escape.{escape, text_from}
use Rattle.text.specs.Step.{pair_of, decoded_after, decoded_of, text_of}
use Rattle.text.specs.declared.Escapes.{Escapes}
use Rattle.text.specs.declared.Decoded.{Decoded}

-- ---- one byte of the text

-- what the first piece says of the whole
goes_on : Escapes → List ℕ → ℕ → Option Decoded → Answer (List ℕ)
goes_on k s at (Some d) = then (λ t. d.byte ∷ t) (text_from k (drop d.width s) false (at + d.width))
goes_on k s at None = Err (BadEscape at)

after-step : (k : Escapes) (b : ℕ) (bs : List ℕ) (at : ℕ) → text_from k bs true at ≡ goes_on k (b ∷ bs) at (decoded_after k bs)
unfolding text_from decoded_after goes_on
after-step k b [] at = refl
after-step k b (c ∷ bs) at = go (escape k c)
  where
    go : (o : Option ℕ) → maybe o (Err (BadEscape at)) (λ x. then (λ t. x ∷ t) (text_from k bs false (at + 2))) ≡ goes_on k (b ∷ c ∷ bs) at (pair_of o)
    go None = refl
    go (Some x) = refl

text-step : (k : Escapes) (s : List ℕ) (at : ℕ) → 0 < length s → text_from k s false at ≡ goes_on k s at (decoded_of k s)
unfolding text_from decoded_of goes_on
text-step k [] at h = absurd (omega arith)
text-step k (b ∷ bs) at h = go (eqb b 92)
  where
    go : (t : Bool)
        → pick t (text_from k bs true at) (then (λ u. b ∷ u) (text_from k bs false (at + 1))) ≡ goes_on k (b ∷ bs) at (pick t (decoded_after k bs) (Some (record { byte = b; width = 1 })))
    go true = after-step k b bs at
    go false = refl

-- a piece takes a byte or two of those that are there
abbrev Within : ℕ → Option Decoded → Type 0
Within n (Some d) = (0 < d.width) × (d.width ≤ n)
Within n None = Unit

after-within : (k : Escapes) (bs : List ℕ) → Within (suc (length bs)) (decoded_after k bs)
unfolding decoded_after
after-within k [] = tt
after-within k (c ∷ bs) = go (escape k c)
  where
    go : (o : Option ℕ) → Within (suc (suc (length bs))) (pair_of o)
    go None = tt
    go (Some x) = (omega arith, omega arith)

piece-within : (k : Escapes) (s : List ℕ) → Within (length s) (decoded_of k s)
unfolding decoded_of
piece-within k [] = tt
piece-within k (b ∷ bs) = go (eqb b 92)
  where
    go : (t : Bool) → Within (suc (length bs)) (pick t (decoded_after k bs) (Some (record { byte = b; width = 1 })))
    go true = after-within k bs
    go false = (omega arith, omega arith)

-- ---- at a place of a raw value

module _ (k : Escapes) (raw : List ℕ) (place i : ℕ) where
  -- the text from byte i on; the first byte stands at the place
  abbrev pub text_at : Answer (List ℕ)
  text_at = text_from k (drop i raw) false (place + i)

  pub text-done : length raw ≤ i → text_at ≡ Ok []
  unfolding text_from
  text-done h = rw (done raw i h)

  module _ (h : i < length raw) where
    some_left : 0 < length (drop i raw)
    some_left = simp length-drop (omega arith)

    pub text-wrong : None ≡ decoded_of k (drop i raw) → text_at ≡ Err (BadEscape (place + i))
    unfolding goes_on
    text-wrong e = rw (text-step k (drop i raw) (place + i) some_left, ← e)

    module _ {d : Decoded} (e : Some d ≡ decoded_of k (drop i raw)) where
      pub text-byte : text_at ≡ then (λ t. d.byte ∷ t) (text_from k (drop (i + d.width) raw) false (place + (i + d.width)))
      unfolding goes_on
      text-byte = rw (text-step k (drop i raw) (place + i) some_left, ← e, drop-drop d.width i raw, ← add_assoc place i d.width)

      pub byte-within : (0 < d.width) × (i + d.width ≤ length raw)
      byte-within =
          let b = rw (← e) at (piece-within k (drop i raw)) in
          let l = length-drop i raw in
          (b.0, omega arith)

-- ---- measuring: n bytes of the text are counted

-- the length of a text, with n more
abbrev pub counted : ℕ → Answer (List ℕ) → Answer ℕ
counted n a = then (λ t. n + length t) a

counted-cons : (n x : ℕ) (a : Answer (List ℕ)) → counted n (then (λ t. x ∷ t) a) ≡ counted (n + 1) a
counted-cons n x (Ok t) = ap Ok (omega arith)
counted-cons n x (Err f) = refl

pub counted_start : (a : Answer (List ℕ)) → counted 0 a ≡ then length a
counted_start (Ok t) = ap Ok (omega arith)
counted_start (Err f) = refl

pub record Measured (k : Escapes) (raw : List ℕ) (place i n : ℕ) : Type 0 where
  pub i-le : i ≤ length raw
  pub n-le : n ≤ i
  pub goes : counted n (text_at k raw place i) ≡ then length (text_from k raw false place)

pub measured_start : (k : Escapes) (raw : List ℕ) (place : ℕ) → Measured k raw place 0 0
measured_start k raw place = record { i-le = omega arith; n-le = omega arith; goes = rw add-zero (counted_start (text_from k raw false place)) }

module _ {k : Escapes} {raw : List ℕ} {place i n : ℕ} (m : Measured k raw place i n) where
  pub measured-byte : i < length raw → {d : Decoded} → Some d ≡ decoded_of k (drop i raw) → Measured k raw place (i + d.width) (n + 1)
  measured-byte h {d} e =
      let b = byte-within k raw place i h e in
      record {
        i-le = b.1;
        n-le = omega arith;
        goes = sym (counted-cons n d.byte (text_at k raw place (i + d.width))) ∙ ap (counted n) (sym (text-byte k raw place i h e)) ∙ m.goes;
      }

  pub measured-wrong : i < length raw → None ≡ decoded_of k (drop i raw) → Err (BadEscape (place + i)) ≡ then length (text_from k raw false place)
  measured-wrong h e = rw (text-wrong k raw place i h e) at m.goes

  pub measured-end : length raw ≤ i → Ok n ≡ then length (text_from k raw false place)
  measured-end h = ap Ok (omega arith) ∙ rw (text-done k raw place i h) at m.goes

-- ---- writing: what is written and the text from the place on are the whole text

text-cons : (x : ℕ) (a : Answer (List ℕ)) → accepted (then (λ t. x ∷ t) a) ≡ true → (text_of (then (λ t. x ∷ t) a) ≡ x ∷ text_of a) × (accepted a ≡ true)
text-cons x (Ok t) e = (refl, refl)
text-cons x (Err f) e = no (cc)

pub record Reading (k : Escapes) (raw out₀ out : List ℕ) (i n : ℕ) : Type 0 where
  pub i-le : i ≤ length raw
  pub sound : accepted (text_at k raw 0 i) ≡ true
  pub room : length (text_of (text_from k raw false 0)) ≤ length out₀
  pub fill : Fill out₀ (text_of (text_from k raw false 0)) out n (text_of (text_at k raw 0 i))

module _ {k : Escapes} {raw out₀ out : List ℕ} {i n : ℕ} (r : Reading k raw out₀ out i n) (h : i < length raw) where
  pub reading-wrong {ℓ} : {X : Type ℓ} → None ≡ decoded_of k (drop i raw) → X
  reading-wrong e = absurd (false≢true (sym (ap accepted (text-wrong k raw 0 i h e)) ∙ r.sound))

  module _ {d : Decoded} (e : Some d ≡ decoded_of k (drop i raw)) where
    next : (text_of (text_at k raw 0 i) ≡ d.byte ∷ text_of (text_at k raw 0 (i + d.width))) × (accepted (text_at k raw 0 (i + d.width)) ≡ true)
    next =
        let t = text-byte k raw 0 i h e in
        let c = text-cons d.byte (text_at k raw 0 (i + d.width)) (rw t at r.sound) in
        (ap text_of t ∙ c.0, c.1)

    pub reading-room : n < length out
    reading-room = let l = fill-length (fill-as r.fill next.0) in let f = r.fill.long in omega (arith, r.room)

    pub reading-byte : Reading k raw out₀ (set out n d.byte) (i + d.width) (n + 1)
    reading-byte = record {
      i-le = (byte-within k raw 0 i h e).1;
      sound = next.1;
      room = r.room;
      fill = fill-byte (fill-as r.fill next.0) r.room;
    }

pub reading-end : {k : Escapes} {raw out₀ out : List ℕ} {i n : ℕ} → Reading k raw out₀ out i n → length raw ≤ i
    → (n ≡ length (text_of (text_from k raw false 0))) × (out ≡ at_front out₀ (text_of (text_from k raw false 0)))
reading-end {k} {raw} {out₀} {out} {i} r h = fill_end (fill-as r.fill (ap text_of (text-done k raw 0 i h)))
