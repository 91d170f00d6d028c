-- The bounds that a line's reading tells lie in the line, in their order. Assumes nothing.
use Rattle.std.specs.Prelude.{Option, Some, None, Result, Ok, Err}
use mathlib.Core.Path.{◌≡◌, refl, sym}
use Prim.Native.Nat.{ℕ, ◌+◌, ◌≤◌, ◌<◌}
use native.Mathlib.Omega.{arith}
use mathlib.Core.Bool.{Bool, true, false}
use mathlib.Core.List.{List}
use lib.ListN.{length, drop, length-drop}
use lib.Dec.{eqb}
use borrow.Author.Tests.{eqb-true, eqb-false}
use Rattle.base.specs.Choice.{pick}
use Rattle.base.specs.Lists.{span}
use Rattle.base.proofs.Scan.{inside}
use Rattle.base.proofs.Span.{span-le, span-from}
use Rattle.characters.specs.Class.{key_byte, group_byte, space_byte, blank_byte, value_byte}
use Rattle.characters.specs.Utf8.{text_fault}
use Rattle.characters.specs.declared.Due.TheVariants.{Start}
use Rattle.characters.proofs.Utf8Laws.{FaultWithin, fault-within}
use Rattle.line.specs.Locale.{locale_at}
use Rattle.line.specs.Name.{byte_at, postfix_at, read_name, name_of}
use Rattle.line.specs.Line.{entry_after, entry_of, read_entry, read_header, read_line}
use Rattle.line.specs.declared.Name.{Name}
use Rattle.line.specs.declared.Line.{Line}
use Rattle.line.specs.declared.Line.TheVariants.{Blank, Comment, Header, Entry, Bad}
use Rattle.line.proofs.Cases.{sign_at, value_at, after_by, header_by}
use Rattle.line.proofs.Locales.{LocaleWithin, locale-within, postfix_of, postfix-by}

-- a byte that is not 0 stands inside
pub byte-within : (s : List ℕ) (n b : ℕ) → 0 < b → eqb (byte_at s n) b ≡ true → n < length s
byte-within s n b h e = inside s n b (sym (eqb-true (byte_at s n) b e)) h

-- ---- names

abbrev pub NamedWithin : ℕ → Result Name ℕ → Type 0
NamedWithin n (Ok m) = (0 < m.key) × (m.key ≤ m.name) × (m.name ≤ n)
NamedWithin n (Err m) = m ≤ n

postfix-within : (s : List ℕ) (key : ℕ) → 0 < key → key < length s → NamedWithin (length s) (postfix_at s key)
postfix-within s key h k = rw (postfix-by s key) (go (locale_at (drop (key + 1) s)) (locale-within (drop (key + 1) s)))
  where
    at : (n : ℕ) (t : Bool) → key + 1 + n ≤ length s → eqb (byte_at s (key + 1 + n)) 93 ≡ t
        → NamedWithin (length s) (pick t (Ok (name_of key (key + 1 + n + 1))) (Err (key + 1 + n)))
    at n true i e = let j = byte-within s (key + 1 + n) 93 (omega arith) e in (h, omega arith, omega arith)
    at n false i e = i

    go : (l : Result ℕ ℕ) → LocaleWithin (length (drop (key + 1) s)) l → NamedWithin (length s) (postfix_of s key l)
    go (Ok n) i = at n (eqb (byte_at s (key + 1 + n)) 93) (omega (arith, length-drop (key + 1) s)) refl
    go (Err n) i = omega (arith, length-drop (key + 1) s)

pub name-within : (s : List ℕ) → NamedWithin (length s) (read_name s)
unfolding read_name
name-within s = go (eqb key 0) (eqb (byte_at s key) 91) refl refl
  where
    key : ℕ
    key = span key_byte s

    go : (t u : Bool) → eqb key 0 ≡ t → eqb (byte_at s key) 91 ≡ u → NamedWithin (length s) (pick t (Err 0) (pick u (postfix_at s key) (Ok (name_of key key))))
    go true u i j = omega arith
    go false true i j = let z = eqb-false key 0 i in postfix-within s key (omega arith) (byte-within s key 91 (omega arith) j)
    go false false i j = let z = eqb-false key 0 i in (omega arith, omega arith, span-le key_byte s)

-- ---- lines

-- bounds of a line of n bytes
abbrev pub LineWithin : ℕ → Line → Type 0
LineWithin n Blank = Unit
LineWithin n Comment = Unit
LineWithin n (Header end) = (1 < end) × (end + 1 ≡ n)
LineWithin n (Entry key name value) = (0 < key) × (key ≤ name) × (name < value) × (value ≤ n)
LineWithin n (Bad m) = m ≤ n

after-within : (s : List ℕ) (key name : ℕ) → 0 < key → key ≤ name → name ≤ length s → LineWithin (length s) (entry_after s key name)
unfolding entry_after
after-within s key name h i j = go (eqb (byte_at s sign) 61) (text_fault value_byte Start (drop value s)) refl (fault-within value_byte Start (drop value s))
  where
    sign : ℕ
    sign = sign_at s name

    value : ℕ
    value = value_at s name

    go : (t : Bool) (o : Option ℕ) → eqb (byte_at s sign) 61 ≡ t → FaultWithin (length (drop value s)) o
        → LineWithin (length s) (after_by key name sign value t o)
    go false o e k = span-from space_byte s name j
    go true None e k = (h, i, omega arith, span-from space_byte s (sign + 1) (omega (arith, byte-within s sign 61 (omega arith) e)))
    go true (Some n) e k =
        omega (arith, length-drop value s, span-from space_byte s (sign + 1) (omega (arith, byte-within s sign 61 (omega arith) e)))

entry-within : (s : List ℕ) → LineWithin (length s) (read_entry s)
unfolding read_entry
entry-within s = go (read_name s) (name-within s)
  where
    go : (m : Result Name ℕ) → NamedWithin (length s) m → LineWithin (length s) (entry_of s m)
    go (Ok n) h = after-within s n.key n.name h.0 h.1 h.2
    go (Err n) h = h

header-within : (s : List ℕ) → 0 < length s → LineWithin (length s) (read_header s)
unfolding read_header
header-within s h = go (eqb e 1) (eqb (byte_at s e) 93) (eqb (e + 1) (length s)) refl refl refl
  where
    e : ℕ
    e = 1 + span group_byte (drop 1 s)

    go : (t u v : Bool) → eqb e 1 ≡ t → eqb (byte_at s e) 93 ≡ u → eqb (e + 1) (length s) ≡ v
        → LineWithin (length s) (header_by e t u v)
    go true u v i j k = h
    go false false v i j k = span-from group_byte s 1 h
    go false true true i j k = let z = eqb-false e 1 i in (omega arith, eqb-true (e + 1) (length s) k)
    go false true false i j k = omega (arith, byte-within s e 93 (omega arith) j)

pub line-within : (s : List ℕ) → LineWithin (length s) (read_line s)
unfolding read_line
line-within s = go (eqb blank (length s)) (eqb (byte_at s 0) 35) (eqb (byte_at s 0) 91) (eqb blank 0) refl
  where
    blank : ℕ
    blank = span blank_byte s

    go : (t u v w : Bool) → eqb (byte_at s 0) 91 ≡ v
        → LineWithin (length s) (pick t Blank (pick u Comment (pick v (read_header s) (pick w (read_entry s) (Bad blank)))))
    go true u v w i = tt
    go false true v w i = tt
    go false false true w i = header-within s (byte-within s 0 91 (omega arith) i)
    go false false false true i = entry-within s
    go false false false false i = span-le blank_byte s
