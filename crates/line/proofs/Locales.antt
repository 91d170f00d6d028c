-- A locale at the front of a list: its parts stay inside, and what asks for one asks `locale_at`. Assumes nothing.
use Rattle.std.specs.Prelude.{Option, Some, None, Result, Ok, Err}
use mathlib.Core.Path.{◌≡◌, refl, sym, ap, ◌∙◌}
use Prim.Native.Nat.{ℕ, zero, suc, ◌+◌, ◌-◌, ◌≤◌, ◌<◌}
use native.Mathlib.Omega.{arith}
use mathlib.Core.Bool.{Bool, true, false}
use mathlib.Core.List.{List, [], ◌∷◌}
use lib.ListN.{length, take, drop, length-drop}
use lib.Dec.{eqb}
use lib.Seq.{get_or-drop}
use borrow.Author.Tests.{eqb-true, ne_eqb}
use Rattle.base.specs.Choice.{pick, maybe}
use Rattle.base.specs.Lists.{span}
use Rattle.base.proofs.Span.{span-le}
use Rattle.base.proofs.Tail.{tail-lent}
use Rattle.characters.specs.Class.{key_byte}
use Rattle.line.specs.Locale.{part_length, parts, locale_end, empty_part, locale_at, is_locale}
use Rattle.line.specs.Name.{byte_at, postfix_at, name_of}
use Rattle.line.specs.declared.Parts.{Parts}
use Rattle.line.specs.declared.Name.{Name}

-- ---- bounds

marked-le : (mark : ℕ) (s : List ℕ) → part_length mark s ≤ length s
unfolding part_length
marked-le mark [] = omega arith
marked-le mark (b ∷ s) = go (eqb b mark) (span-le key_byte s)
  where
    go : (t : Bool) → span key_byte s ≤ length s → pick t (suc (span key_byte s)) 0 ≤ suc (length s)
    go true h = omega arith
    go false h = omega arith

pub marked_from : (mark : ℕ) (s : List ℕ) (from : ℕ) → from ≤ length s → from + part_length mark (drop from s) ≤ length s
marked_from mark s from h = omega (arith, marked-le mark (drop from s), length-drop from s)

-- a locale ends inside
pub parts_within : (s : List ℕ) → locale_end (parts s) ≤ length s
unfolding parts
parts_within s =
    let l = span-le key_byte s in
    let c = marked_from 95 s (span key_byte s) l in
    let e = marked_from 46 s (span key_byte s + part_length 95 (drop (span key_byte s) s)) c in
    marked_from 64 s _ e

-- a byte that is missing stands in a part or at its end
abbrev PartWithin : ℕ → Option ℕ → Type 0
PartWithin n None = Unit
PartWithin n (Some m) = m ≤ n

empty-within : (p : Parts) → PartWithin (locale_end p) (empty_part p)
unfolding empty_part
empty-within p = go (eqb p.lang 0) (eqb p.country 1) (eqb p.encoding 1) (eqb p.modifier 1) refl refl refl
  where
    go : (a b c d : Bool) → eqb p.country 1 ≡ b → eqb p.encoding 1 ≡ c → eqb p.modifier 1 ≡ d
        → PartWithin (locale_end p)
        (pick a (Some 0) (pick b (Some (p.lang + 1)) (pick c (Some (p.lang + p.country + 1)) (pick d (Some (p.lang + p.country + p.encoding + 1)) None))))
    go true b c d i j k = omega arith
    go false true c d i j k = omega (arith, eqb-true p.country 1 i)
    go false false true d i j k = omega (arith, eqb-true p.encoding 1 j)
    go false false false true i j k = omega (arith, eqb-true p.modifier 1 k)
    go false false false false i j k = tt

-- a reading of a locale ends inside
abbrev pub LocaleWithin : ℕ → Result ℕ ℕ → Type 0
LocaleWithin n (Ok m) = m ≤ n
LocaleWithin n (Err m) = m ≤ n

pub locale-within : (s : List ℕ) → LocaleWithin (length s) (locale_at s)
unfolding locale_at
locale-within s = go (empty_part (parts s)) (parts_within s) (empty-within (parts s))
  where
    go : (o : Option ℕ) → locale_end (parts s) ≤ length s → PartWithin (locale_end (parts s)) o
        → LocaleWithin (length s) (maybe o (Ok (locale_end (parts s))) Err)
    go None h k = h
    go (Some n) h k = omega arith

-- the same of a tail that was lent
pub locale-lent : (s : List ℕ) (from : ℕ) → LocaleWithin (length s - from) (locale_at (take (length s - from) (drop from s)))
locale-lent s from = rw (tail-lent from s, ← length-drop from s) (locale-within (drop from s))

-- ---- a language alone

-- no part begins with another byte than its mark
marked_other : (mark : ℕ) (s : List ℕ) (n : ℕ) → (byte_at s n ≡ mark → ⊥) → part_length mark (drop n s) ≡ 0
unfolding part_length
marked_other mark [] zero h = refl
marked_other mark [] (suc n) h = refl
marked_other mark (b ∷ s) zero h = rw (ne_eqb b mark h)
marked_other mark (b ∷ s) (suc n) h = marked_other mark s n h

locale-short : (s : List ℕ) (l : ℕ) → l ≡ span key_byte s → 0 < l → byte_at s l ≡ 93 → locale_at s ≡ Ok l
unfolding locale_at empty_part parts
locale-short s l e h b =
    let z : l + 0 ≡ l = omega arith in
    let c : part_length 95 (drop l s) ≡ 0 = marked_other 95 s l (λ q. omega arith) in
    let d : part_length 46 (drop l s) ≡ 0 = marked_other 46 s l (λ q. omega arith) in
    let f : part_length 64 (drop l s) ≡ 0 = marked_other 64 s l (λ q. omega arith) in
    rw (← e, c, z, d, z, f, z, ne_eqb l 0 (λ q. omega arith))

-- ---- what asks for a locale

-- a postfix from the reading of its locale
abbrev pub postfix_of : List ℕ → ℕ → Result ℕ ℕ → Result Name ℕ
postfix_of s key (Ok n) = pick (eqb (byte_at s (key + 1 + n)) 93) (Ok (name_of key (key + 1 + n + 1))) (Err (key + 1 + n))
postfix_of s key (Err n) = Err (key + 1 + n)

pub postfix-by : (s : List ℕ) (key : ℕ) → postfix_at s key ≡ postfix_of s key (locale_at (drop (key + 1) s))
unfolding postfix_at locale_at
postfix-by s key = go (empty_part p)
  where
    p : Parts
    p = parts (drop (key + 1) s)

    e : ℕ
    e = key + 1 + locale_end p

    go : (o : Option ℕ)
        → maybe o (pick (eqb (byte_at s e) 93) (Ok (name_of key (e + 1))) (Err e)) (λ n. Err (key + 1 + n)) ≡ postfix_of s key (maybe o (Ok (locale_end p)) Err)
    go None = refl
    go (Some n) = refl

-- the same of a tail that was lent
pub postfix-lent : (s : List ℕ) (key : ℕ) {l : Result ℕ ℕ} → l ≡ locale_at (take (length s - (key + 1)) (drop (key + 1) s)) → postfix_at s key ≡ postfix_of s key l
postfix-lent s key e = postfix-by s key ∙ rw (e, tail-lent (key + 1) s)

-- a locale that is all of so many bytes
abbrev pub ends_at : ℕ → Result ℕ ℕ → Bool
ends_at m (Ok n) = eqb n m
ends_at m (Err n) = false

pub locale-by : (s : List ℕ) → is_locale s ≡ ends_at (length s) (locale_at s)
unfolding is_locale locale_at
locale-by s = go (empty_part (parts s))
  where
    go : (o : Option ℕ)
        → maybe o (eqb (locale_end (parts s)) (length s)) (λ n. false) ≡ ends_at (length s) (maybe o (Ok (locale_end (parts s))) Err)
    go None = refl
    go (Some n) = refl

-- a postfix that is a language alone
pub postfix-short : (s : List ℕ) (key n : ℕ) → n ≡ key + 1 + span key_byte (drop (key + 1) s) → key + 1 < n → byte_at s n ≡ 93 → Ok (name_of key (n + 1)) ≡ postfix_at s key
postfix-short s key n e h b =
    let l : ℕ = span key_byte (drop (key + 1) s) in
    let f : byte_at (drop (key + 1) s) l ≡ 93 = get_or-drop (key + 1) s l 0 ∙ sym (ap (byte_at s) e) ∙ b in
    let q : locale_at (drop (key + 1) s) ≡ Ok l = locale-short (drop (key + 1) s) l refl (omega arith) f in
    rw (postfix-by s key, q, ← e, b)
