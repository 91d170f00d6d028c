-- The locales that mean the plain key, by their parts. Assumes nothing.
use mathlib.Core.Path.{◌≡◌, refl, sym}
use Prim.Native.Nat.{ℕ, ◌+◌, ◌-◌, ◌<◌}
use native.Mathlib.Omega.{arith}
use mathlib.Core.Bool.{true, false, and-false}
use mathlib.Core.List.{List, [], ◌∷◌, ◌++◌, append_assoc, append-nil}
use lib.Seq.{length-take-le}
use lib.ListN.{length, take, drop, length-append, length-drop}
use Rattle.base.specs.Lists.{ascii, same, all, any}
use Rattle.base.proofs.Scan.{done}
use Rattle.characters.specs.Class.{key_byte}
use Rattle.line.specs.Locale.{parts}
use Rattle.line.specs.Form.{locale_form}
use Rattle.line.specs.declared.Parts.{Parts}
use Rattle.choice.specs.Locale.{lang_of, country_of, modifier_of, stripped, plain_locales, plain_locale}
use Rattle.choice.proofs.Cut.{Stops, cut-same, stops-part, Parted}
use Rattle.choice.proofs.Postfixes.{form-ends, form-parted}

-- a language alone
lang-alone : (s : List ℕ) → locale_form s ≡ true → (parts s).country ≡ 0 → (parts s).modifier ≡ 0 → any (same (lang_of s)) plain_locales ≡ plain_locale s
unfolding plain_locale stripped
lang-alone s f c m =
    let l : ℕ = (parts s).lang in
    let z : l + (parts s).country - l ≡ 0 = omega arith in
    let d : modifier_of s ≡ [] = done s (l + (parts s).country + (parts s).encoding) (omega (arith, form-ends s f)) in
    rw (d, z, append-nil (lang_of s), append-nil (lang_of s))

pub plain-lang : (s : List ℕ) {p : Parts} → locale_form s ≡ true → p ≡ parts s → p.country ≡ 0 → p.modifier ≡ 0 → any (same (take p.lang s)) plain_locales ≡ plain_locale s
plain-lang s f e c m = rw e (lang-alone s f (rw e at c) (rw e at m))

-- more than a language is none of them
some-other : (x : List ℕ) → 0 < length x → same x [] ≡ false
unfolding same
some-other [] h = absurd (omega arith)
some-other (b ∷ x) h = refl

longer : {l c m : List ℕ} → Parted l c m → 0 < length (c ++ m) → (w : List ℕ) → all key_byte w ≡ true → same (l ++ c ++ m) w ≡ false
unfolding key_byte
longer {l} {c} {m} p h w k =
    let a : Stops m = rw (append-nil m) at (stops-part 64 m [] refl p.modifier tt) in
    let b = cut-same l w (c ++ m) [] p.lang k (stops-part 95 c m refl p.country a) tt in
    rw (append_assoc l c m) (rw (append-nil w, some-other (c ++ m) h, and-false (same l w)) at b)

not-alone : (s : List ℕ) → locale_form s ≡ true → 0 < (parts s).country + (parts s).modifier → plain_locale s ≡ false
unfolding plain_locale stripped any key_byte all
not-alone s f h =
    let p = form-parted s f in
    let n : ℕ = (parts s).lang + (parts s).country + (parts s).encoding in
    let i : 0 < length (country_of s ++ modifier_of s) = simp length-append (omega (arith, form-ends s f, length-drop n s, length-drop (parts s).lang s, length-take-le ((parts s).lang + (parts s).country - (parts s).lang) (drop (parts s).lang s) (omega (arith, form-ends s f, length-drop (parts s).lang s)))) in
    rw (longer p i [] refl, longer p i (ascii "C") refl, longer p i (ascii "POSIX") refl)

pub plain-longer : (s : List ℕ) {p : Parts} → locale_form s ≡ true → p ≡ parts s → 0 < p.country + p.modifier → false ≡ plain_locale s
plain-longer s f e h = sym (not-alone s f (rw e at h))
