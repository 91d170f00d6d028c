-- What the first byte of a line says of its reading. Assumes nothing.
use Rattle.std.specs.Prelude.{Option, Some, None, Result, Ok, Err}
use mathlib.Core.Path.{◌≡◌, refl, sym, ◌∙◌}
use Prim.Native.Nat.{ℕ, suc, ◌+◌, ◌<◌}
use native.Mathlib.Omega.{arith}
use mathlib.Core.Bool.{Bool, true, false, ◌||◌, false≢true}
use mathlib.Core.List.{List, [], ◌∷◌}
use lib.ListN.{length, drop}
use lib.Dec.{eqb, eqb-zero-suc}
use borrow.Author.Tests.{eqb-true, ne_eqb}
use Rattle.base.specs.Choice.{pick, maybe}
use Rattle.base.specs.Lists.{span}
use Rattle.base.proofs.Span.{span-zero, span-some}
use Rattle.characters.specs.Class.{key_byte, group_byte, space_byte, blank_byte, value_byte}
use Rattle.characters.specs.Utf8.{text_fault}
use Rattle.characters.specs.declared.Due.TheVariants.{Start}
use Rattle.line.specs.Name.{byte_at, read_name, name_of}
use Rattle.line.specs.Line.{entry_after, entry_of, read_entry, read_header, read_line}
use Rattle.line.specs.declared.Name.{Name}
use Rattle.line.specs.declared.Line.{Line}
use Rattle.line.specs.declared.Line.TheVariants.{Blank, Comment, Header, Entry, Bad}

-- ---- a line that starts with `[`

-- it is a header or bad
abbrev pub Headed : Line → Type 0
Headed Blank = ⊥
Headed Comment = ⊥
Headed (Header e) = Unit
Headed (Entry key name value) = ⊥
Headed (Bad n) = Unit

header-headed : (s : List ℕ) → Headed (read_header s)
unfolding read_header
header-headed s = go (eqb e 1) (eqb (byte_at s e) 93) (eqb (e + 1) (length s))
  where
    e : ℕ
    e = 1 + span group_byte (drop 1 s)

    go : (t u v : Bool) → Headed (pick t (Bad 1) (pick u (pick v (Header e) (Bad (e + 1))) (Bad e)))
    go true u v = tt
    go false true true = tt
    go false true false = tt
    go false false v = tt

pub header-line : (s : List ℕ) → eqb (byte_at s 0) 91 ≡ true → read_line s ≡ read_header s
unfolding read_line span blank_byte
header-line [] e = absurd (false≢true e)
header-line (b ∷ s) e = let z : b ≡ 91 = eqb-true b 91 e in rw (z, eqb-zero-suc (length s))

pub headed-line : (s : List ℕ) → eqb (byte_at s 0) 91 ≡ true → Headed (read_line s)
headed-line s e = rw (header-line s e) (header-headed s)

-- ---- another line

-- it is no header, and an entry has the name that stands at its front
abbrev pub Unheaded : List ℕ → Line → Type 0
Unheaded s Blank = read_name s ≡ Err 0
Unheaded s Comment = read_name s ≡ Err 0
Unheaded s (Header e) = ⊥
Unheaded s (Entry key name value) = read_name s ≡ Ok (name_of key name)
Unheaded s (Bad n) = Unit

pub no_name : (b : ℕ) (s : List ℕ) → key_byte b ≡ false → read_name (b ∷ s) ≡ Err 0
unfolding read_name span
no_name b s e = rw e

blank-unnamed : (b : ℕ) → blank_byte b ≡ true → key_byte b ≡ false
unfolding blank_byte key_byte
blank-unnamed b = go (eqb b 32) refl
  where
    go : (t : Bool) → eqb b 32 ≡ t → (t || eqb b 9) ≡ true → key_byte b ≡ false
    go true e i = let z : b ≡ 32 = eqb-true b 32 e in rw z
    go false e i = let z : b ≡ 9 = eqb-true b 9 i in rw z

blank-name : (s : List ℕ) → eqb (span blank_byte s) (length s) ≡ true → read_name s ≡ Err 0
unfolding span
blank-name [] e = unfold read_name in refl
blank-name (b ∷ s) e = go (blank_byte b) refl e
  where
    go : (t : Bool) → blank_byte b ≡ t → eqb (pick t (suc (span blank_byte s)) 0) (suc (length s)) ≡ true → read_name (b ∷ s) ≡ Err 0
    go true i e = no_name b s (blank-unnamed b i)
    go false i e = absurd (false≢true (sym (eqb-zero-suc (length s)) ∙ e))

comment-name : (s : List ℕ) → eqb (byte_at s 0) 35 ≡ true → read_name s ≡ Err 0
unfolding key_byte
comment-name [] e = absurd (false≢true e)
comment-name (b ∷ s) e = let z : b ≡ 35 = eqb-true b 35 e in no_name b s (rw z)

after-unheaded : (s : List ℕ) (key name : ℕ) → read_name s ≡ Ok (name_of key name) → Unheaded s (entry_after s key name)
unfolding entry_after
after-unheaded s key name e = go (eqb (byte_at s sign) 61) (text_fault value_byte Start (drop value s))
  where
    sign : ℕ
    sign = name + span space_byte (drop name s)

    value : ℕ
    value = sign + 1 + span space_byte (drop (sign + 1) s)

    go : (t : Bool) (o : Option ℕ) → Unheaded s (pick t (maybe o (Entry key name value) (λ n. Bad (value + n))) (Bad sign))
    go false o = tt
    go true None = e
    go true (Some n) = tt

entry-unheaded : (s : List ℕ) → Unheaded s (read_entry s)
unfolding read_entry
entry-unheaded s = go (read_name s) refl
  where
    go : (m : Result Name ℕ) → read_name s ≡ m → Unheaded s (entry_of s m)
    go (Ok n) e = after-unheaded s n.key n.name e
    go (Err n) e = tt

pub unheaded-line : (s : List ℕ) → eqb (byte_at s 0) 91 ≡ false → Unheaded s (read_line s)
unfolding read_line
unheaded-line s h = rw h (go (eqb blank (length s)) (eqb (byte_at s 0) 35) (eqb blank 0) refl refl)
  where
    blank : ℕ
    blank = span blank_byte s

    go : (t u w : Bool) → eqb blank (length s) ≡ t → eqb (byte_at s 0) 35 ≡ u
        → Unheaded s (pick t Blank (pick u Comment (pick w (read_entry s) (Bad blank))))
    go true u w i j = blank-name s i
    go false true w i j = comment-name s j
    go false false true i j = entry-unheaded s
    go false false false i j = tt

-- ---- the reading of a line, by its first byte

pub line-empty : (s : List ℕ) → length s ≡ 0 → Blank ≡ read_line s
unfolding read_line span
line-empty [] e = refl
line-empty (b ∷ s) e = absurd (omega arith)

pub line-comment : (s : List ℕ) → 0 < length s → byte_at s 0 ≡ 35 → Comment ≡ read_line s
unfolding read_line span blank_byte
line-comment [] h e = absurd (omega arith)
line-comment (b ∷ s) h e = rw (e, eqb-zero-suc (length s))

module _ (s : List ℕ) (h : 0 < length s) (n : byte_at s 0 ≡ 35 → ⊥) (m : byte_at s 0 ≡ 91 → ⊥) where
  pub line-blank : blank_byte (byte_at s 0) ≡ true → read_line s ≡ pick (eqb (span blank_byte s) (length s)) Blank (Bad (span blank_byte s))
  unfolding read_line
  line-blank e = by s h n m e
    where
      by : (s : List ℕ) → 0 < length s → (byte_at s 0 ≡ 35 → ⊥) → (byte_at s 0 ≡ 91 → ⊥) → blank_byte (byte_at s 0) ≡ true
          → read_line s ≡ pick (eqb (span blank_byte s) (length s)) Blank (Bad (span blank_byte s))
      by [] h n m e = absurd (omega arith)
      by (b ∷ s) h n m e =
          let z : eqb (span blank_byte (b ∷ s)) 0 ≡ false = span-some blank_byte b s e in
          rw (ne_eqb b 35 n, ne_eqb b 91 m, z)

  pub line-entry : blank_byte (byte_at s 0) ≡ false → read_line s ≡ read_entry s
  unfolding read_line
  line-entry e = by s h n m e
    where
      by : (s : List ℕ) → 0 < length s → (byte_at s 0 ≡ 35 → ⊥) → (byte_at s 0 ≡ 91 → ⊥) → blank_byte (byte_at s 0) ≡ false → read_line s ≡ read_entry s
      by [] h n m e = absurd (omega arith)
      by (b ∷ s) h n m e = rw (span-zero blank_byte b s e, ne_eqb b 35 n, ne_eqb b 91 m, eqb-zero-suc (length s))
