-- What stands before a bad line's byte: some ending makes a good line of it. Assumes nothing.
use Rattle.std.specs.Prelude.{Option, Some, None, Result, Ok, Err}
use mathlib.Core.Path.{◌≡◌, refl, sym, ap, ◌∙◌}
use Prim.Native.Nat.{ℕ, suc, ◌+◌, ◌≤◌, ◌<◌}
use native.Mathlib.Omega.{arith}
use mathlib.Core.Bool.{Bool, true, false}
use mathlib.Core.List.{List, [], ◌∷◌, ◌++◌}
use lib.ListN.{length, drop, length-append, length-drop, drop_of_length-le}
use lib.Seq.{drop-append-le, drop-append_seam, drop-append-add, get_or-append_seam, get_or-append-add}
use lib.Dec.{eqb, leb}
use borrow.Author.Tests.{eqb-true, leb-true, lt-ltb}
use Rattle.base.specs.Choice.{pick}
use Rattle.base.specs.Lists.{span, all}
use Rattle.base.proofs.Tests.{no, and_both, class-other, all_weaker}
use Rattle.base.proofs.Span.{cut_inside, span_same, span-same-at, span_none}
use Rattle.characters.specs.Class.{key_byte, space_byte, value_byte}
use Rattle.characters.specs.Utf8.{text_fault}
use Rattle.characters.specs.declared.Due.TheVariants.{Start}
use Rattle.characters.proofs.Endings.{tail_byte, TextEnding, text-ending}
use Rattle.line.specs.Locale.{part_length, parts, empty_part, locale_at}
use Rattle.line.specs.Name.{byte_at, postfix_at, read_name, name_of}
use Rattle.line.specs.Line.{entry_after, read_line, is_bad}
use Rattle.line.specs.Place.{line_byte, Mended}
use Rattle.line.specs.declared.Line.TheVariants.{Bad}
use Rattle.line.specs.declared.Name.{Name}
use Rattle.line.proofs.Locales.{postfix_of, postfix-by}
use Rattle.line.proofs.Fronts.{byte-same, NoPart, lang-same, country-same, encoding-same, locale-same, NoKey, name-same, after_same}
use Rattle.line.proofs.Cases.{lang_of, country_of, encoding_of, modifier_of, locale_by, sign_at, value_at, after_by}

-- ---- locales: 97 is `a`, 93 `]`, 61 `=`

-- a locale that ends with the front, before `]`
locale-ended : (w p v : List ℕ) → locale_at (p ++ v) ≡ Ok (length p) → locale_at (p ++ (93 ∷ w)) ≡ Ok (length p)
unfolding span part_length key_byte
locale-ended w p v e =
    locale-same (93 ∷ w) p v (rw e (omega arith, λ _. record { key = refl; country = refl; encoding = refl; modifier = refl })) ∙ e

-- a locale of one byte
locale-one : (w p : List ℕ) → length p ≡ 0 → locale_at (p ++ (97 ∷ 93 ∷ w)) ≡ Ok (length p + 1)
unfolding locale_at empty_part parts span part_length key_byte
locale-one w [] h = refl
locale-one w (b ∷ p) h = absurd (omega arith)

-- a mark at the end of some bytes, with one byte after it
mark-one : (mark : ℕ) (w p v : List ℕ) → length p ≡ 1 → part_length mark (p ++ v) ≡ 1 → part_length mark (p ++ (97 ∷ 93 ∷ w)) ≡ 2
unfolding part_length span key_byte
mark-one mark w [] v h e = absurd (omega arith)
mark-one mark w (b ∷ c ∷ p) v h e = absurd (omega arith)
mark-one mark w (b ∷ []) v h e = go (eqb b mark) e
  where
    go : (t : Bool) → pick t (suc (span key_byte v)) 0 ≡ 1 → ◌≡◌ {A = ℕ} (pick t 2 0) 2
    go true e = refl
    go false e = absurd (omega arith)

module _ (w p v : List ℕ) where
  -- the front, a byte of a key and `]`
  abbrev closed : List ℕ
  closed = p ++ (97 ∷ 93 ∷ w)

  mark-at : (mark n : ℕ) → n + 1 ≡ length p → part_length mark (drop n (p ++ v)) ≡ 1 → part_length mark (drop n closed) ≡ 2
  mark-at mark n h e =
      let l : n ≤ length p = omega arith in
      rw (drop-append-le n p (97 ∷ 93 ∷ w) l) (mark-one mark w (drop n p) v (omega (arith, length-drop n p)) (rw (drop-append-le n p v l) at e))

  mark-past : (mark n : ℕ) → n ≡ length p + 1 → eqb 93 mark ≡ false → part_length mark (drop n closed) ≡ 0
  unfolding part_length
  mark-past mark n h e = rw (h, drop-append-add p (97 ∷ 93 ∷ w) 1, e)

  -- one byte of a key is what the locale lacks
  locale-closed : locale_at (p ++ v) ≡ Err (length p) → locale_at closed ≡ Ok (length p + 1)
  unfolding locale_at empty_part parts
  locale-closed i = go (eqb l 0) (eqb n 1) (eqb e 1) (eqb m 1) refl refl refl refl i
    where
      l : ℕ
      l = lang_of (p ++ v)

      n : ℕ
      n = country_of (p ++ v)

      e : ℕ
      e = encoding_of (p ++ v)

      m : ℕ
      m = modifier_of (p ++ v)

      lang : l < length p → lang_of closed ≡ l
      lang h = lang-same (97 ∷ 93 ∷ w) p v (cut_inside (NoPart (97 ∷ 93 ∷ w)) p l h)

      country : l + n < length p → part_length 95 (drop l closed) ≡ n
      country h = country-same (97 ∷ 93 ∷ w) p v (cut_inside (NoPart (97 ∷ 93 ∷ w)) p (l + n) h)

      encoding : l + n + e < length p → part_length 46 (drop (l + n) closed) ≡ e
      encoding h = encoding-same (97 ∷ 93 ∷ w) p v (cut_inside (NoPart (97 ∷ 93 ∷ w)) p (l + n + e) h)

      go : (t₁ t₂ t₃ t₄ : Bool) → eqb l 0 ≡ t₁ → eqb n 1 ≡ t₂ → eqb e 1 ≡ t₃ → eqb m 1 ≡ t₄ → locale_by l n e m t₁ t₂ t₃ t₄ ≡ Err (length p) → locale_at closed ≡ Ok (length p + 1)
      go true t₂ t₃ t₄ i₁ i₂ i₃ i₄ i =
          let k : ◌≡◌ {A = ℕ} 0 (length p) = cc in
          locale-one w p (sym k)
      go false true t₃ t₄ i₁ i₂ i₃ i₄ i =
          let k : l + 1 ≡ length p = cc in
          rw (lang (omega arith), i₁, mark-at 95 l k (eqb-true n 1 i₂), mark-past 46 (l + 2) (omega arith) refl, mark-past 64 (l + 2 + 0) (omega arith) refl) (ap Ok (omega arith))
      go false false true t₄ i₁ i₂ i₃ i₄ i =
          let k : l + n + 1 ≡ length p = cc in
          rw (lang (omega arith), i₁, country (omega arith), i₂, mark-at 46 (l + n) k (eqb-true e 1 i₃), mark-past 64 (l + n + 2) (omega arith) refl) (ap Ok (omega arith))
      go false false false true i₁ i₂ i₃ i₄ i =
          let k : l + n + e + 1 ≡ length p = cc in
          rw (lang (omega arith), i₁, country (omega arith), i₂, encoding (omega arith), i₃, mark-at 64 (l + n + e) k (eqb-true m 1 i₄)) (ap Ok (omega arith))
      go false false false false i₁ i₂ i₃ i₄ i = no (cc)

-- ---- names

-- bytes that close the postfix which a front began
pub record Closing (read : List ℕ → Result Name ℕ) (p : List ℕ) : Type 0 where
  pub close : List ℕ
  pub bytes : all line_byte (close ++ (61 ∷ [])) ≡ true
  pub key : ℕ
  pub named : read (p ++ (close ++ (61 ∷ []))) ≡ Ok (name_of key (length p + length close))

-- a postfix whose `]` stands at a place of the ending
postfix-named : (p x : List ℕ) (key m : ℕ) → key < length p → locale_at (drop (key + 1) p ++ x) ≡ Ok (length (drop (key + 1) p) + m) → eqb (byte_at x m) 93 ≡ true
    → postfix_at (p ++ x) key ≡ Ok (name_of key (length p + m + 1))
postfix-named p x key m h e b =
    let z : key + 1 + (length (drop (key + 1) p) + m) ≡ length p + m = omega (arith, length-drop (key + 1) p) in
    postfix-by (p ++ x) key ∙ rw (drop-append-le (key + 1) p x (omega arith), e, z, get_or-append-add p x m 0, b)

postfix-closed : (p v : List ℕ) (key : ℕ) → postfix_at (p ++ v) key ≡ Err (length p) → (key < length p) × Closing (λ s. postfix_at s key) p
unfolding all
postfix-closed p v key e = go (locale_at (drop (key + 1) (p ++ v))) refl (sym (postfix-by (p ++ v) key) ∙ e)
  where
    q : List ℕ
    q = drop (key + 1) p

    front : (n : ℕ) (f : ℕ → Result ℕ ℕ) → key + 1 + n ≡ length p → locale_at (drop (key + 1) (p ++ v)) ≡ f n → locale_at (q ++ v) ≡ f (length q)
    front n f k i = let z : n ≡ length q = omega (arith, length-drop (key + 1) p) in rw (← drop-append-le (key + 1) p v (omega arith)) (i ∙ ap f z)

    ended : (n : ℕ) (t : Bool) → locale_at (drop (key + 1) (p ++ v)) ≡ Ok n → pick t (Ok (name_of key (key + 1 + n + 1))) (Err (key + 1 + n)) ≡ Err (length p)
        → (key < length p) × Closing (λ s. postfix_at s key) p
    ended n true i e = no (cc)
    ended n false i e =
        let k : key + 1 + n ≡ length p = cc in
        let h : key < length p = omega arith in
        let l : locale_at (q ++ (93 ∷ 61 ∷ [])) ≡ Ok (length q + 0) = locale-ended (61 ∷ []) q v (front n Ok k i) ∙ ap Ok (omega arith) in
        (h, record { close = 93 ∷ []; bytes = refl; key = key; named = postfix-named p (93 ∷ 61 ∷ []) key 0 h l refl ∙ ap (λ (n : ℕ). Ok (name_of key n)) (omega arith) })

    go : (l : Result ℕ ℕ) → locale_at (drop (key + 1) (p ++ v)) ≡ l → postfix_of (p ++ v) key l ≡ Err (length p) → (key < length p) × Closing (λ s. postfix_at s key) p
    go (Ok n) i e = ended n (eqb (byte_at (p ++ v) (key + 1 + n)) 93) i e
    go (Err n) i e =
        let k : key + 1 + n ≡ length p = cc in
        let h : key < length p = omega arith in
        let l = locale-closed (61 ∷ []) q v (front n Err k i) in
        (h, record { close = 97 ∷ 93 ∷ []; bytes = refl; key = key; named = postfix-named p (97 ∷ 93 ∷ 61 ∷ []) key 1 h l refl ∙ ap (λ (n : ℕ). Ok (name_of key n)) (omega arith) })

pub name-closed : (p v : List ℕ) → 0 < length p → read_name (p ++ v) ≡ Err (length p) → Closing read_name p
unfolding read_name
name-closed p v h e = go (eqb n 0) (eqb (byte_at (p ++ v) n) 91) refl refl e
  where
    n : ℕ
    n = span key_byte (p ++ v)

    go : (t u : Bool) → eqb n 0 ≡ t → eqb (byte_at (p ++ v) n) 91 ≡ u → pick t (Err 0) (pick u (postfix_at (p ++ v) n) (Ok (name_of n n))) ≡ Err (length p) → Closing read_name p
    go true u i j e = let k : ◌≡◌ {A = ℕ} 0 (length p) = cc in absurd (omega arith)
    go false true i j e =
        let r = postfix-closed p v n e in
        let x : List ℕ = r.1.close ++ (61 ∷ []) in
        record {
          close = r.1.close;
          bytes = r.1.bytes;
          key = r.1.key;
          named = rw (span_same key_byte x p v (cut_inside (span key_byte x ≡ 0) p n r.0), i, byte-same p v x n r.0, j) r.1.named;
        }
    go false false i j e = no (cc)

-- ---- entries

-- a tail byte may stand in a line
tail-line : (b : ℕ) → tail_byte b ≡ true → line_byte b ≡ true
tail-line b h = let l = leb-true b 0xbf (and_both (leb 0x80 b) (leb b 0xbf) h).1 in rw (lt-ltb b 256 (omega arith), class-other tail_byte b 10 refl h)

-- `=` at the end makes an entry of a name and spaces
pub after-sign : (p : List ℕ) (key name : ℕ) → sign_at (p ++ (61 ∷ [])) name ≡ length p → is_bad (entry_after (p ++ (61 ∷ [])) key name) ≡ false
unfolding entry_after text_fault
after-sign p key name e =
    let n : ℕ = length p + 1 + span space_byte (drop (length p + 1) (p ++ (61 ∷ []))) in
    let d : drop n (p ++ (61 ∷ [])) ≡ [] = drop_of_length-le (p ++ (61 ∷ [])) {i = n} (omega (arith, length-append p (61 ∷ []))) in
    rw (e, get_or-append_seam p 61 [] 0, d)

pub sign-next : (p : List ℕ) → sign_at (p ++ (61 ∷ [])) (length p) ≡ length p
unfolding span
sign-next p = rw (drop-append_seam p (61 ∷ [])) (omega arith)

pub after-mended : (p v : List ℕ) (key name : ℕ) → read_name (p ++ v) ≡ Ok (name_of key name)
    → ((t : List ℕ) → read_name (p ++ t) ≡ Ok (name_of key name) → is_bad (read_line (p ++ t)) ≡ is_bad (entry_after (p ++ t) key name))
    → entry_after (p ++ v) key name ≡ Bad (length p) → Mended p
unfolding entry_after span key_byte all
after-mended p v key name a f e = go (eqb (byte_at (p ++ v) sign) 61) (text_fault value_byte Start (drop value (p ++ v))) refl refl e
  where
    sign : ℕ
    sign = sign_at (p ++ v) name

    value : ℕ
    value = value_at (p ++ v) name

    text : (m : ℕ) → value + m ≡ length p → text_fault value_byte Start (drop value (p ++ v)) ≡ Some m → TextEnding value_byte Start (drop value p)
    text m k j =
        let z : m ≡ length (drop value p) = omega (arith, length-drop value p) in
        text-ending value_byte Start (drop value p) v tt (rw (← drop-append-le value p v (omega arith)) (j ∙ ap Some z))

    go : (t : Bool) (o : Option ℕ) → eqb (byte_at (p ++ v) sign) 61 ≡ t → text_fault value_byte Start (drop value (p ++ v)) ≡ o
        → after_by key name sign value t o ≡ Bad (length p) → Mended p
    go false o i j e =
        let k : sign ≡ length p = cc in
        let w : List ℕ = 61 ∷ [] in
        let b : read_name (p ++ w) ≡ Ok (name_of key name) = name-same w p v (rw a (omega arith, λ _. record { key = refl; postfix = refl })) ∙ a in
        record {
          ending = w;
          bytes = refl;
          good = f w b ∙ after-sign p key name (ap (λ (n : ℕ). name + n) (span-same-at space_byte w p v name (omega arith, λ _. refl)) ∙ k);
        }
    go true None i j e = no (cc)
    go true (Some m) i j e =
        let k : value + m ≡ length p = cc in
        let t = text m k j in
        let w = t.ending in
        let z : span space_byte w ≡ 0 = span_none tail_byte space_byte (λ b. class-other tail_byte b 32 refl) w t.bytes in
        let b : read_name (p ++ w) ≡ Ok (name_of key name) = name-same w p v (rw a (cut_inside (NoKey w) p name (omega arith))) ∙ a in
        record {
          ending = w;
          bytes = all_weaker tail_byte line_byte tail-line w t.bytes;
          good = f w b ∙ rw (after_same w p v key name (omega arith, λ _. z) i, drop-append-le value p w (omega arith), t.sound);
        }
