-- A line's front with another ending: what was read in the front stays. Assumes nothing.
use Rattle.std.specs.Prelude.{Result, Ok, Err}
use mathlib.Core.Path.{◌≡◌, refl, sym, ap, ◌∙◌}
use Prim.Native.Nat.{ℕ, suc, ◌+◌, ◌≤◌, ◌<◌}
use native.Mathlib.Omega.{arith}
use mathlib.Core.Bool.{Bool, true, false}
use mathlib.Core.List.{List, [], ◌∷◌, ◌++◌}
use lib.ListN.{length, drop, get_or-append}
use lib.Seq.{get_or-append-add}
use lib.Dec.{eqb, ltb}
use borrow.Author.Tests.{eqb-true, ltb-true, ltb-false}
use Rattle.base.specs.Choice.{pick}
use Rattle.base.specs.Lists.{span}
use Rattle.base.proofs.Tests.{by-test}
use Rattle.base.proofs.Span.{Cut, cut-le, cut_inside, Sames, same_at, span_same, span-same-at}
use Rattle.characters.specs.Class.{key_byte, space_byte, value_byte}
use Rattle.characters.specs.Utf8.{text_fault}
use Rattle.characters.specs.declared.Due.TheVariants.{Start}
use Rattle.line.specs.Locale.{part_length, parts, empty_part, locale_at}
use Rattle.line.specs.Name.{byte_at, postfix_at, read_name, name_of}
use Rattle.line.specs.Line.{entry_after}
use Rattle.line.specs.declared.Name.{Name}
use Rattle.line.proofs.Locales.{postfix_of, postfix-by}
use Rattle.line.proofs.Cases.{lang_of, country_of, encoding_of, modifier_of, locale_by, sign_at, value_at, after_by}

pub byte-same : (p v w : List ℕ) (n : ℕ) → n < length p → byte_at (p ++ w) n ≡ byte_at (p ++ v) n
byte-same p v w n h = get_or-append p w 0 n h ∙ sym (get_or-append p v 0 n h)

-- ---- locales

marked-same : (mark : ℕ) (w : List ℕ) → Sames (λ n. n) (part_length mark) w ((span key_byte w ≡ 0) × (part_length mark w ≡ 0))
unfolding part_length
marked-same mark w [] v c = let e : part_length mark v ≡ 0 = omega (arith, c.0) in (c.1 e).1 ∙ sym e
marked-same mark w (b ∷ p) v c = go (eqb b mark) c
  where
    go : (t : Bool) → Cut ((span key_byte w ≡ 0) × (part_length mark w ≡ 0)) (b ∷ p) (pick t (suc (span key_byte (p ++ v))) 0)
        → pick t (suc (span key_byte (p ++ w))) 0 ≡ pick t (suc (span key_byte (p ++ v))) 0
    go true c = let h = c.0 in ap suc (span_same key_byte w p v (omega arith, λ e. (c.1 (ap suc e)).0))
    go false c = refl

-- no part of a locale goes on, and none begins
pub record NoPart (w : List ℕ) : Type 0 where
  pub key : span key_byte w ≡ 0
  pub country : part_length 95 w ≡ 0
  pub encoding : part_length 46 w ≡ 0
  pub modifier : part_length 64 w ≡ 0

module _ (w p v : List ℕ) where
  abbrev pub PartCut : ℕ → Type 0
  PartCut n = Cut (NoPart w) p n

  marked-at : (mark n : ℕ) → (NoPart w → part_length mark w ≡ 0) → PartCut (n + part_length mark (drop n (p ++ v))) → part_length mark (drop n (p ++ w)) ≡ part_length mark (drop n (p ++ v))
  marked-at mark n f c = same_at (λ k. k) (part_length mark) w ((span key_byte w ≡ 0) × (part_length mark w ≡ 0)) (marked-same mark w) p v n (c.0, λ e. ((c.1 e).key, f (c.1 e)))

  pub lang-same : PartCut (lang_of (p ++ v)) → lang_of (p ++ w) ≡ lang_of (p ++ v)
  lang-same c = span_same key_byte w p v (c.0, λ e. (c.1 e).key)

  pub country-same : PartCut (lang_of (p ++ v) + country_of (p ++ v)) → part_length 95 (drop (lang_of (p ++ v)) (p ++ w)) ≡ country_of (p ++ v)
  country-same c = marked-at 95 (lang_of (p ++ v)) (λ s. s.country) c

  pub encoding-same : PartCut (lang_of (p ++ v) + country_of (p ++ v) + encoding_of (p ++ v)) → part_length 46 (drop (lang_of (p ++ v) + country_of (p ++ v)) (p ++ w)) ≡ encoding_of (p ++ v)
  encoding-same c = marked-at 46 (lang_of (p ++ v) + country_of (p ++ v)) (λ s. s.encoding) c

  modifier-same : PartCut (lang_of (p ++ v) + country_of (p ++ v) + encoding_of (p ++ v) + modifier_of (p ++ v))
      → part_length 64 (drop (lang_of (p ++ v) + country_of (p ++ v) + encoding_of (p ++ v)) (p ++ w)) ≡ modifier_of (p ++ v)
  modifier-same c = marked-at 64 (lang_of (p ++ v) + country_of (p ++ v) + encoding_of (p ++ v)) (λ s. s.modifier) c

-- where a locale's reading stopped
abbrev pub locale_place : Result ℕ ℕ → ℕ
locale_place (Ok n) = n
locale_place (Err n) = n

pub locale-same : (w : List ℕ) → Sames locale_place locale_at w (NoPart w)
unfolding locale_at empty_part parts
locale-same w p v c = go (eqb l 0) (eqb n 1) (eqb e 1) (eqb m 1) refl refl refl refl c
  where
    l : ℕ
    l = lang_of (p ++ v)

    n : ℕ
    n = country_of (p ++ v)

    e : ℕ
    e = encoding_of (p ++ v)

    m : ℕ
    m = modifier_of (p ++ v)

    cut : (i j : ℕ) → PartCut w p v j → i ≤ j → PartCut w p v i
    cut i j c h = cut-le (NoPart w) p i j h c

    last : (t₄ : Bool) → eqb m 1 ≡ t₄ → PartCut w p v (locale_place (locale_by l n e m false false false t₄)) → PartCut w p v (l + n + e + m)
    last true i c = cut (l + n + e + m) (l + n + e + 1) c (omega (arith, eqb-true m 1 i))
    last false i c = c

    go : (t₁ t₂ t₃ t₄ : Bool) → eqb l 0 ≡ t₁ → eqb n 1 ≡ t₂ → eqb e 1 ≡ t₃ → eqb m 1 ≡ t₄ → PartCut w p v (locale_place (locale_by l n e m t₁ t₂ t₃ t₄))
        → locale_at (p ++ w) ≡ locale_by l n e m t₁ t₂ t₃ t₄
    go true t₂ t₃ t₄ i₁ i₂ i₃ i₄ c = rw (lang-same w p v (cut l 0 c (omega (arith, eqb-true l 0 i₁))), i₁)
    go false true t₃ t₄ i₁ i₂ i₃ i₄ c =
        let k = cut (l + n) (l + 1) c (omega (arith, eqb-true n 1 i₂)) in
        rw (lang-same w p v (cut l (l + n) k (omega arith)), i₁, country-same w p v k, i₂)
    go false false true t₄ i₁ i₂ i₃ i₄ c =
        let k = cut (l + n + e) (l + n + 1) c (omega (arith, eqb-true e 1 i₃)) in
        rw (lang-same w p v (cut l (l + n + e) k (omega arith)), i₁, country-same w p v (cut (l + n) (l + n + e) k (omega arith)), i₂, encoding-same w p v k, i₃)
    go false false false t₄ i₁ i₂ i₃ i₄ c =
        let k = last t₄ i₄ c in
        rw (
          lang-same w p v (cut l (l + n + e + m) k (omega arith)),
          i₁,
          country-same w p v (cut (l + n) (l + n + e + m) k (omega arith)),
          i₂,
          encoding-same w p v (cut (l + n + e) (l + n + e + m) k (omega arith)),
          i₃,
          modifier-same w p v k,
          i₄,
        )

-- ---- names

-- a name's reading stopped in the front, and at its end only where the ending stops a name
abbrev pub NameCut : Type 0 → List ℕ → Result Name ℕ → Type 0
NameCut stops p (Ok n) = Cut stops p n.name
NameCut stops p (Err n) = n < length p

postfix-same : (stops : Type 0) (w p v : List ℕ) (key : ℕ) → NameCut stops p (postfix_at (p ++ v) key) → (key < length p) × (postfix_at (p ++ w) key ≡ postfix_at (p ++ v) key)
postfix-same stops w p v key c = rw (postfix-by (p ++ v) key) (go (locale_at (drop (key + 1) (p ++ v))) refl (rw (postfix-by (p ++ v) key) at c))
  where
    locale : (n : ℕ) → locale_place (locale_at (drop (key + 1) (p ++ v))) ≡ n → key + 1 + n < length p
        → locale_at (drop (key + 1) (p ++ w)) ≡ locale_at (drop (key + 1) (p ++ v))
    locale n i h = same_at locale_place locale_at w (NoPart w) (locale-same w) p v (key + 1) (cut_inside (NoPart w) p _ (omega arith))

    bracket : (n : ℕ) (t : Bool) → NameCut stops p (pick t (Ok (name_of key (key + 1 + n + 1))) (Err (key + 1 + n))) → key + 1 + n < length p
    bracket n true c = omega (arith, c.0)
    bracket n false c = c

    go : (l : Result ℕ ℕ) → locale_at (drop (key + 1) (p ++ v)) ≡ l → NameCut stops p (postfix_of (p ++ v) key l) → (key < length p) × (postfix_at (p ++ w) key ≡ postfix_of (p ++ v) key l)
    go (Err n) i c = (omega arith, postfix-by (p ++ w) key ∙ rw (locale n (ap locale_place i) c ∙ i))
    go (Ok n) i c =
        let h = bracket n (eqb (byte_at (p ++ v) (key + 1 + n)) 93) c in
        (omega arith, postfix-by (p ++ w) key ∙ rw (locale n (ap locale_place i) h ∙ i, byte-same p v w (key + 1 + n) h))

-- neither a key goes on nor a postfix begins
pub record NoKey (w : List ℕ) : Type 0 where
  pub key : span key_byte w ≡ 0
  pub postfix : eqb (byte_at w 0) 91 ≡ false

pub name-same : (w p v : List ℕ) → NameCut (NoKey w) p (read_name (p ++ v)) → read_name (p ++ w) ≡ read_name (p ++ v)
unfolding read_name
name-same w p v c = go (eqb n 0) (eqb (byte_at (p ++ v) n) 91) refl refl c
  where
    n : ℕ
    n = span key_byte (p ++ v)

    key : Cut (NoKey w) p n → span key_byte (p ++ w) ≡ n
    key c = span_same key_byte w p v (c.0, λ e. (c.1 e).key)

    after : Cut (NoKey w) p n → eqb (byte_at (p ++ v) n) 91 ≡ false → eqb (byte_at (p ++ w) n) 91 ≡ false
    after c i =
        by-test (ltb n (length p)) (λ t. rw (byte-same p v w n (ltb-true n (length p) t)) i)
        (λ t.
        let l = c.0 in
        let e : n ≡ length p + 0 = omega (arith, ltb-false n (length p) t) in
        rw (e, get_or-append-add p w 0 0) (c.1 (omega arith)).postfix)

    go : (t u : Bool) → eqb n 0 ≡ t → eqb (byte_at (p ++ v) n) 91 ≡ u → NameCut (NoKey w) p (pick t (Err 0) (pick u (postfix_at (p ++ v) n) (Ok (name_of n n))))
        → read_name (p ++ w) ≡ pick t (Err 0) (pick u (postfix_at (p ++ v) n) (Ok (name_of n n)))
    go true u i j c = rw (key (cut_inside (NoKey w) p n (omega (arith, eqb-true n 0 i))), i)
    go false true i j c =
        let r = postfix-same (NoKey w) w p v n c in
        rw (key (cut_inside (NoKey w) p n r.0), i, byte-same p v w n r.0, j) r.1
    go false false i j c = rw (key c, i, after c j)

-- ---- after a name

-- what follows a name, where `=` and the start of the value stand in the front
pub after_same : (w p v : List ℕ) (key name : ℕ) → Cut (span space_byte w ≡ 0) p (value_at (p ++ v) name) → eqb (byte_at (p ++ v) (sign_at (p ++ v) name)) 61 ≡ true
    → entry_after (p ++ w) key name
    ≡ after_by key name (sign_at (p ++ v) name) (value_at (p ++ v) name) true (text_fault value_byte Start (drop (value_at (p ++ v) name) (p ++ w)))
unfolding entry_after
after_same w p v key name c i =
    let n : ℕ = sign_at (p ++ v) name in
    let h : n < length p = omega (arith, c.0) in
    rw (span-same-at space_byte w p v name (cut_inside (span space_byte w ≡ 0) p n h), byte-same p v w n h, i, span-same-at space_byte w p v (n + 1) c)
