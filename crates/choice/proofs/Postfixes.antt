-- Postfixes by the parts of their locales, and the rank of one among those that a locale asks for. Assumes nothing.
use Rattle.std.specs.Prelude.{Option, Some, None}
use mathlib.Core.Path.{◌≡◌, refl, sym, ap, ◌∙◌}
use Prim.Native.Nat.{ℕ, suc, ◌+◌, ◌-◌, ◌*◌, ◌≤◌, ◌<◌}
use native.Mathlib.Omega.{arith}
use mathlib.Core.Bool.{Bool, true, false, ◌&&◌, ◌||◌, false≢true}
use mathlib.Core.List.{List, [], ◌∷◌, ◌++◌, append_assoc}
use lib.Seq.{take_all, drop-drop}
use lib.ListN.{length, take, drop, length-drop, take-append-drop}
use lib.Dec.{eqb, ltb}
use borrow.Author.Tests.{eqb-true}
use Rattle.base.specs.Choice.{pick, maybe}
use Rattle.base.specs.Lists.{same, part, span}
use Rattle.base.proofs.Scan.{here, done}
use Rattle.base.proofs.Tail.{lent, tail-lent}
use Rattle.base.proofs.Tests.{same-sym}
use Rattle.characters.specs.Class.{key_byte}
use Rattle.line.specs.Locale.{part_length, parts, locale_end, empty_part, is_locale}
use Rattle.line.specs.Form.{locale_form}
use Rattle.line.specs.declared.Parts.{Parts}
use Rattle.line.proofs.Locales.{parts_within}
use Rattle.rows.proofs.Seek.{same_none}
use Rattle.choice.specs.Locale.{lang_of, country_of, modifier_of, stripped}
use Rattle.choice.specs.Step.{all_keys, rank_in, rank_part, Closed}
use Rattle.choice.proofs.Cut.{front-keys, Part, part-is, Parted, bracket, parted-same}

-- ---- the parts of a locale

-- the modifier that follows the encoding
abbrev modifier_in : List ℕ → List ℕ
modifier_in s = take (parts s).modifier (modifier_of s)

parted : (s : List ℕ) → Parted (lang_of s) (country_of s) (modifier_in s)
unfolding parts
parted s =
    let l : ℕ = span key_byte s in
    let c : ℕ = part_length 95 (drop l s) in
    let z : l + c - l ≡ c = omega arith in
    record { lang = front-keys s; country = rw z (part-is 95 (drop l s)); modifier = part-is 64 _ }

-- a locale argument ends with its modifier
pub form-ends : (s : List ℕ) → locale_form s ≡ true → locale_end (parts s) ≡ length s
unfolding locale_form is_locale
form-ends s e = go (eqb (length s) 0) refl (empty_part (parts s)) e
  where
    go : (t : Bool) → eqb (length s) 0 ≡ t → (o : Option ℕ) → (t || maybe o (eqb (locale_end (parts s)) (length s)) (λ n. false)) ≡ true → locale_end (parts s) ≡ length s
    go true i o e = omega (arith, parts_within s, eqb-true (length s) 0 i)
    go false i None e = eqb-true _ _ e
    go false i (Some n) e = absurd (false≢true e)

-- its three parts
pub form-parted : (s : List ℕ) → locale_form s ≡ true → Parted (lang_of s) (country_of s) (modifier_of s)
form-parted s e =
    let n = length-drop ((parts s).lang + (parts s).country + (parts s).encoding) s in
    let a : modifier_in s ≡ modifier_of s = take_all (parts s).modifier (modifier_of s) (omega (arith, form-ends s e)) in
    rw a at (parted s)

-- those of a postfix behind its `[`, up to the `]`
abbrev modifier_to : List ℕ → List ℕ
modifier_to s = part ((parts s).lang + (parts s).country + (parts s).encoding) (length s - 1) s

module _ (s : List ℕ) (w : Closed s) where
  upto : modifier_to s ≡ modifier_in s
  upto =
      let z : length s - 1 - ((parts s).lang + (parts s).country + (parts s).encoding) ≡ (parts s).modifier = omega (arith, w.ends) in
      ap (λ (n : ℕ). take n (modifier_of s)) z

  closed-parted : Parted (lang_of s) (country_of s) (modifier_to s)
  closed-parted = rw upto (parted s)

  -- the bracket follows the modifier
  closed-ends : modifier_of s ≡ modifier_to s ++ bracket
  closed-ends =
      let m : ℕ = (parts s).modifier in
      let i : locale_end (parts s) < length s = omega (arith, w.ends) in
      let d : drop m (modifier_of s) ≡ drop (locale_end (parts s)) s = drop-drop m ((parts s).lang + (parts s).country + (parts s).encoding) s in
      let b : drop (locale_end (parts s)) s ≡ bracket = here s (locale_end (parts s)) i ∙ rw (w.bracket, done s (locale_end (parts s) + 1) (omega (arith, w.ends))) in
      sym (take-append-drop m (modifier_of s)) ∙ rw (d, b, upto)

  stripped-closed : stripped s ≡ lang_of s ++ (country_of s ++ (modifier_to s ++ bracket))
  unfolding stripped
  stripped-closed = append_assoc (lang_of s) (country_of s) (modifier_of s) ∙ ap (λ (t : List ℕ). lang_of s ++ (country_of s ++ t)) closed-ends

-- ---- the rank of a postfix

none-same : (s : List ℕ) → same [] s ≡ eqb (length s) 0
none-same s = same-sym [] s ∙ sym (same_none s)

-- the place in the list, and what the parts' ranks make of it
places : (a c c₀ m m₀ : Bool)
    → pick (a && (c && m)) 0 (suc (pick (a && (c && m₀)) 0 (suc (pick (a && (c₀ && m)) 0 (suc (pick (a && (c₀ && m₀)) 0 (suc 1)))))))
    ≡ pick a (let r : ℕ = 2 * pick c 0 (pick c₀ 1 4) + pick m 0 (pick m₀ 1 4) in pick (ltb r 4) r 5) 5
places false c c₀ m m₀ = refl
places true true c₀ true m₀ = refl
places true true c₀ false true = refl
places true true true false false = refl
places true true false false false = refl
places true false true true m₀ = refl
places true false true false true = refl
places true false true false false = refl
places true false false true m₀ = refl
places true false false false true = refl
places true false false false false = refl

module _ (s locale : List ℕ) (w : Closed s) (f : locale_form locale ≡ true) where
  -- a postfix of some of the asked parts is the one behind the `[` if its parts are
  asked-same : (c m : List ℕ) → Part 95 c → Part 64 m
      → same (lang_of locale ++ (c ++ (m ++ bracket))) (stripped s) ≡ (same (lang_of locale) (lang_of s) && (same c (country_of s) && same m (modifier_to s)))
  asked-same c m i j =
      rw (stripped-closed s w)
      (parted-same (record { lang = (form-parted locale f).lang; country = i; modifier = j }) (closed-parted s w))

  rank-parts : rank_in (all_keys [] locale) (91 ∷ stripped s)
      ≡ pick (same (lang_of locale) (lang_of s))
      (let r : ℕ = 2 * rank_part (country_of locale) (country_of s) + rank_part (modifier_of locale) (modifier_to s) in pick (ltb r 4) r 5) 5
  unfolding rank_in rank_part same
  rank-parts =
      let l : List ℕ = lang_of locale in
      let c : List ℕ = country_of locale in
      let m : List ℕ = modifier_of locale in
      let p = form-parted locale f in
      let a : Bool = same l (lang_of s) in
      let x : Bool = same c (country_of s) in
      let y : Bool = same m (modifier_to s) in
      let x₀ : Bool = eqb (length (country_of s)) 0 in
      let y₀ : Bool = eqb (length (modifier_to s)) 0 in
      let e₁ : same (l ++ c ++ m ++ bracket) (stripped s) ≡ (a && (x && y)) = rw (append_assoc (l ++ c) m bracket, append_assoc l c (m ++ bracket)) (asked-same c m p.country p.modifier) in
      let e₂ : same (l ++ c ++ bracket) (stripped s) ≡ (a && (x && y₀)) = rw (append_assoc l c bracket, ← none-same (modifier_to s)) (asked-same c [] p.country tt) in
      let e₃ : same (l ++ m ++ bracket) (stripped s) ≡ (a && (x₀ && y)) = rw (append_assoc l m bracket, ← none-same (country_of s)) (asked-same [] m tt p.modifier) in
      let e₄ : same (l ++ bracket) (stripped s) ≡ (a && (x₀ && y₀)) = rw (← none-same (country_of s), ← none-same (modifier_to s)) (asked-same [] [] tt tt) in
      rw (e₁, e₂, e₃, e₄) (places a x x₀ y y₀)

-- the same by the parts as they were read, and the slices that were lent
pub parts-inside : (s : List ℕ) {p : Parts} → p ≡ parts s → locale_end p ≤ length s
parts-inside s e = rw e (parts_within s)

pub closed-inside : (s : List ℕ) {q : Parts} → q ≡ parts s → Closed s → locale_end q < length s
closed-inside s e w = rw e (omega (arith, w.ends))

pub rank-by : (s locale : List ℕ) {p q : Parts} → p ≡ parts locale → q ≡ parts s → Closed s → locale_form locale ≡ true
    → rank_in (all_keys [] locale) (91 ∷ stripped s)
    ≡ pick (same (take p.lang locale) (take q.lang s))
    (let r : ℕ = 2 * rank_part (part p.lang (p.lang + p.country) locale) (part q.lang (q.lang + q.country) s)
    + rank_part (lent (p.lang + p.country + p.encoding) locale) (part (q.lang + q.country + q.encoding) (length s - 1) s) in
    pick (ltb r 4) r 5) 5
rank-by s locale e i w f = rw (e, i, tail-lent ((parts locale).lang + (parts locale).country + (parts locale).encoding) locale) (rank-parts s locale w f)

pub rank-small : (asked has : List ℕ) {r : ℕ} → r ≡ rank_part asked has → r ≤ 4
unfolding rank_part
rank-small asked has e = rw e (go (same asked has) (eqb (length has) 0))
  where
    go : (t u : Bool) → pick t 0 (pick u 1 4) ≤ 4
    go true u = omega arith
    go false true = omega arith
    go false false = omega arith
