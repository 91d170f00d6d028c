-- What the reading of an entry and of a name says, fact by fact, and back. Assumes nothing.
use Rattle.std.specs.Prelude.{Option, Some, None, Result, Ok, Err}
use mathlib.Core.Path.{◌≡◌, refl, sym, ap, ◌∙◌}
use Prim.Native.Nat.{ℕ, ◌+◌}
use native.Mathlib.Omega.{arith}
use mathlib.Core.Bool.{Bool, true, false}
use mathlib.Core.List.{List}
use lib.ListN.{length, take, drop}
use lib.Dec.{eqb}
use Rattle.base.specs.Choice.{pick, maybe}
use Rattle.base.specs.Lists.{span}
use Rattle.base.proofs.Span.{span-take}
use Rattle.base.proofs.Tests.{no}
use Rattle.characters.specs.Class.{key_byte, group_byte, blank_byte, value_byte}
use Rattle.characters.specs.Utf8.{text_fault}
use Rattle.characters.specs.declared.Due.TheVariants.{Start}
use Rattle.line.specs.Locale.{parts, locale_end, empty_part}
use Rattle.line.specs.Name.{byte_at, postfix_at, read_name, name_of}
use Rattle.line.specs.Line.{entry_after, entry_of, read_entry, read_header, read_line}
use Rattle.line.specs.declared.Name.{Name}
use Rattle.line.specs.declared.Line.TheVariants.{Blank, Comment, Header, Entry, Bad}
use Rattle.line.proofs.Bounds.{name-within}
use Rattle.line.proofs.Cases.{sign_at, value_at}

-- ---- what an entry's reading says

pub record IsEntry (s : List ℕ) (key name value : ℕ) : Type 0 where
  pub some_byte : eqb (span blank_byte s) (length s) ≡ false
  pub no-blank : eqb (span blank_byte s) 0 ≡ true
  pub no-comment : eqb (byte_at s 0) 35 ≡ false
  pub no_header : eqb (byte_at s 0) 91 ≡ false
  pub named : read_name s ≡ Ok (name_of key name)
  pub sign : eqb (byte_at s (sign_at s name)) 61 ≡ true
  pub starts : value ≡ value_at s name
  pub text : text_fault value_byte Start (drop value s) ≡ None

header-no-entry : (s : List ℕ) (key name value : ℕ) → read_header s ≡ Entry key name value → ⊥
unfolding read_header
header-no-entry s key name value e =
    by (eqb (1 + span group_byte (drop 1 s)) 1) (eqb (byte_at s (1 + span group_byte (drop 1 s))) 93) (eqb (1 + span group_byte (drop 1 s) + 1) (length s)) (1 + span group_byte (drop 1 s)) e
  where
    by : (t u w : Bool) (n : ℕ) → pick t (Bad 1) (pick u (pick w (Header n) (Bad (n + 1))) (Bad n)) ≡ Entry key name value → ⊥
    by true u w n e = no (cc)
    by false true true n e = no (cc)
    by false true false n e = no (cc)
    by false false w n e = no (cc)

-- after the name
record IsAfter (s : List ℕ) (key name key₁ name₁ value : ℕ) : Type 0 where
  pub key-is : key ≡ key₁
  pub name-is : name ≡ name₁
  pub after-sign : eqb (byte_at s (sign_at s name)) 61 ≡ true
  pub after-starts : value ≡ value_at s name
  pub after_text : text_fault value_byte Start (drop (value_at s name) s) ≡ None

is-after : (s : List ℕ) (key name key₁ name₁ value : ℕ) → entry_after s key name ≡ Entry key₁ name₁ value → IsAfter s key name key₁ name₁ value
unfolding entry_after
is-after s key name key₁ name₁ value e = by (eqb (byte_at s (sign_at s name)) 61) (text_fault value_byte Start (drop (value_at s name) s)) refl refl e
  where
    by : (t : Bool) (o : Option ℕ) → eqb (byte_at s (sign_at s name)) 61 ≡ t → text_fault value_byte Start (drop (value_at s name) s) ≡ o
        → pick t (maybe o (Entry key name (value_at s name)) (λ n. Bad (value_at s name + n))) (Bad (sign_at s name)) ≡ Entry key₁ name₁ value
        → IsAfter s key name key₁ name₁ value
    by true None t o e = record { key-is = cc; name-is = cc; after-sign = t; after-starts = cc; after_text = o }
    by true (Some n) t o e = no (cc)
    by false o t p e = no (cc)

pub is-entry : (s : List ℕ) (key name value : ℕ) → read_line s ≡ Entry key name value → IsEntry s key name value
unfolding read_line read_entry
is-entry s key name value e =
    by (eqb (span blank_byte s) (length s)) (eqb (byte_at s 0) 35) (eqb (byte_at s 0) 91) (eqb (span blank_byte s) 0) refl refl refl refl e
  where
    made : (m : Result Name ℕ) → read_name s ≡ m → entry_of s m ≡ Entry key name value → eqb (span blank_byte s) (length s) ≡ false → eqb (byte_at s 0) 35 ≡ false
        → eqb (byte_at s 0) 91 ≡ false → eqb (span blank_byte s) 0 ≡ true → IsEntry s key name value
    made (Ok n) m e t₁ t₂ t₃ t₄ =
        let a = is-after s n.key n.name key name value e in
        record {
          some_byte = t₁;
          no-blank = t₄;
          no-comment = t₂;
          no_header = t₃;
          named = m ∙ rw (a.key-is, a.name-is);
          sign = rw (← a.name-is) a.after-sign;
          starts = rw (← a.name-is) a.after-starts;
          text = rw a.after-starts a.after_text;
        }
    made (Err n) m e t₁ t₂ t₃ t₄ = no (cc)

    by : (a b c d : Bool) → eqb (span blank_byte s) (length s) ≡ a → eqb (byte_at s 0) 35 ≡ b → eqb (byte_at s 0) 91 ≡ c → eqb (span blank_byte s) 0 ≡ d
        → pick a Blank (pick b Comment (pick c (read_header s) (pick d (entry_of s (read_name s)) (Bad (span blank_byte s))))) ≡ Entry key name value → IsEntry s key name value
    by true b c d t₁ t₂ t₃ t₄ e = no (cc)
    by false true c d t₁ t₂ t₃ t₄ e = no (cc)
    by false false true d t₁ t₂ t₃ t₄ e = absurd (header-no-entry s key name value e)
    by false false false true t₁ t₂ t₃ t₄ e = made (read_name s) refl e t₁ t₂ t₃ t₄
    by false false false false t₁ t₂ t₃ t₄ e = no (cc)

-- an entry from its parts
pub entry-is : (s : List ℕ) (key name value : ℕ) → IsEntry s key name value → read_line s ≡ Entry key name value
unfolding read_line read_entry entry_after
entry-is s key name value h =
    let t : text_fault value_byte Start (drop (value_at s name) s) ≡ None = rw (← h.starts) h.text in
    rw (h.some_byte, h.no-comment, h.no_header, h.no-blank, h.named, h.sign, t) (ap (Entry key name) (sym h.starts))

-- ---- what a name's reading says

-- where a postfix's `]` stands
abbrev pub bracket : List ℕ → ℕ → ℕ
bracket s key = key + 1 + locale_end (parts (drop (key + 1) s))

pub data IsName (s : List ℕ) (key name : ℕ) : Type 0 where
  plain-name : key ≡ span key_byte s → eqb key 0 ≡ false → eqb (byte_at s key) 91 ≡ false → name ≡ key → IsName s key name
  postfixed : key ≡ span key_byte s → eqb key 0 ≡ false → eqb (byte_at s key) 91 ≡ true → empty_part (parts (drop (key + 1) s)) ≡ None
      → eqb (byte_at s (bracket s key)) 93 ≡ true → name ≡ bracket s key + 1 → IsName s key name

pub is_name_lem : (s : List ℕ) (key name : ℕ) → read_name s ≡ Ok (name_of key name) → IsName s key name
unfolding read_name postfix_at
is_name_lem s key name e =
    by (eqb (span key_byte s) 0) (eqb (byte_at s (span key_byte s)) 91) (empty_part (parts (drop (span key_byte s + 1) s))) (eqb (byte_at s (bracket s (span key_byte s))) 93) refl refl refl refl e
  where
    k : ℕ
    k = span key_byte s

    by : (a b : Bool) (o : Option ℕ) (c : Bool) → eqb k 0 ≡ a → eqb (byte_at s k) 91 ≡ b → empty_part (parts (drop (k + 1) s)) ≡ o → eqb (byte_at s (bracket s k)) 93 ≡ c
        → pick a (Err 0) (pick b (maybe o (pick c (Ok (name_of k (bracket s k + 1))) (Err (bracket s k))) (λ n. Err (k + 1 + n))) (Ok (name_of k k))) ≡ Ok (name_of key name) → IsName s key name
    by true b o c t₁ t₂ t₃ t₄ e = no (cc)
    by false true None true t₁ t₂ t₃ t₄ e =
        let n : name_of k (bracket s k + 1) ≡ name_of key name = cc in
        let i : k ≡ key = ap (λ (n : Name). n.key) n in
        let j : name ≡ bracket s k + 1 = sym (ap (λ (n : Name). n.name) n) in
        postfixed (sym i) (rw (← i) t₁) (rw (← i) t₂) (rw (← i) t₃) (rw (← i) t₄) (rw (← i) j)
    by false true None false t₁ t₂ t₃ t₄ e = no (cc)
    by false true (Some n) c t₁ t₂ t₃ t₄ e = no (cc)
    by false false o c t₁ t₂ t₃ t₄ e =
        let n : name_of k k ≡ name_of key name = cc in
        let i : k ≡ key = ap (λ (n : Name). n.key) n in
        let j : k ≡ name = ap (λ (n : Name). n.name) n in
        plain-name (sym i) (rw (← i) t₁) (rw (← i) t₂) (sym j ∙ i)

pub name-is : (s : List ℕ) (key name : ℕ) → IsName s key name → read_name s ≡ Ok (name_of key name)
unfolding read_name postfix_at
name-is s key name (plain-name i t₁ t₂ j) = rw (← i, t₁, t₂, j)
name-is s key name (postfixed i t₁ t₂ t₃ t₄ j) = rw (← i, t₁, t₂, t₃, t₄, j)

-- ---- the plain key is the front of the name

pub name-key : (s : List ℕ) (key name : ℕ) → IsName s key name → key ≡ span key_byte s
name-key s key name (plain-name i t₁ t₂ j) = i
name-key s key name (postfixed i t₁ t₂ t₃ t₄ j) = i

pub entry_key : (s : List ℕ) (key name value : ℕ) → read_line s ≡ Entry key name value → span key_byte (take name s) ≡ key
entry_key s key name value e =
    let n = (is-entry s key name value e).named in
    let k = name-key s key name (is_name_lem s key name n) in
    let w = rw n at (name-within s) in
    span-take key_byte name s (omega (arith, w.1)) ∙ sym k
