-- Entries that are written read as entries: another value after the same name, and a new name with its value. Assumes nothing.
use Rattle.std.specs.Prelude.{None, Result, Ok, Err}
use mathlib.Core.Path.{◌≡◌, refl, ap, ◌∙◌}
use Prim.Native.Nat.{ℕ, suc, ◌+◌, ◌<◌}
use native.Mathlib.Omega.{arith}
use mathlib.Core.Bool.{Bool, true, false, false≢true}
use mathlib.Core.List.{List, [], ◌∷◌, ◌++◌, append-nil}
use lib.ListN.{length, take, drop}
use lib.Seq.{drop-append_seam, drop-append-add, get_or-append-add, take-length}
use lib.Dec.{eqb}
use borrow.Author.Tests.{eqb-true}
use Rattle.base.specs.Choice.{pick}
use Rattle.base.specs.Lists.{span}
use Rattle.base.proofs.Clean.{Clean, clean-append, clean-add, clean-span, clean-byte}
use Rattle.base.proofs.Span.{cut_inside}
use Rattle.base.proofs.Tests.{no, by-test, class-other}
use Rattle.characters.specs.Class.{key_byte, space_byte, blank_byte, value_byte}
use Rattle.characters.specs.Utf8.{text_fault}
use Rattle.characters.specs.declared.Due.TheVariants.{Start}
use Rattle.characters.proofs.Steps.{value-clean}
use Rattle.line.specs.Locale.{part_length, parts, locale_end}
use Rattle.line.specs.Name.{read_name, name_of}
use Rattle.line.specs.Line.{entry_after, read_entry, read_line}
use Rattle.line.specs.Form.{key_form, names_all}
use Rattle.line.specs.declared.Name.{Name}
use Rattle.line.specs.declared.Line.TheVariants.{Entry}
use Rattle.line.proofs.Bounds.{line-within}
use Rattle.line.proofs.Cases.{sign_at, line_first}
use Rattle.line.proofs.Entries.{is-entry, IsName, is_name_lem, plain-name, postfixed, bracket}
use Rattle.line.proofs.FirstByte.{no_name}
use Rattle.line.proofs.Fronts.{NoKey, name-same, after_same}

-- a value that may be written: a text that begins with no space
pub record Value (v : List ℕ) : Type 0 where
  pub front : span space_byte v ≡ 0
  pub text : text_fault value_byte Start v ≡ None

-- ---- a line that begins with a name is an entry or bad

key-first : (b : ℕ) (s : List ℕ) (key name : ℕ) → read_name (b ∷ s) ≡ Ok (name_of key name) → key_byte b ≡ true
key-first b s key name e = by-test (key_byte b) (λ t. t) (λ n. no (cc (no_name b s n)))

no-blank : (b : ℕ) → key_byte b ≡ true → blank_byte b ≡ false
unfolding blank_byte
no-blank b k = rw (class-other key_byte b 32 (unfold key_byte in refl) k, class-other key_byte b 9 (unfold key_byte in refl) k)

no-name-none : read_name [] ≡ Err 0
unfolding read_name span
no-name-none = refl

named-line : (s : List ℕ) (key name : ℕ) → read_name s ≡ Ok (name_of key name) → read_line s ≡ entry_after s key name
unfolding read_entry
named-line [] key name e = no (cc no-name-none)
named-line (b ∷ s) key name e =
    let k = key-first b s key name e in
    line_first b s
    ∙ rw (no-blank b k, class-other key_byte b 35 (unfold key_byte in refl) k, class-other key_byte b 91 (unfold key_byte in refl) k, e)

-- ---- another value

pub other-value : (p v w : List ℕ) (key name : ℕ) → read_line (p ++ v) ≡ Entry key name (length p) → Value w → read_line (p ++ w) ≡ Entry key name (length p)
other-value p v w key name e k =
    let h = is-entry (p ++ v) key name (length p) e in
    let b : name < length p = (rw e at (line-within (p ++ v))).2 in
    let n = name-same w p v (rw h.named (cut_inside (NoKey w) p name b)) ∙ h.named in
    let a = after_same w p v key name (omega (arith, h.starts), λ z. k.front) h.sign in
    named-line (p ++ w) key name n ∙ a ∙ rw (← h.starts, drop-append_seam p w, k.text)

-- ---- a new entry: 61 is `=`

-- a key argument is a whole name
pub key-form : (k : List ℕ) → key_form k ≡ true → (key : ℕ) × (read_name k ≡ Ok (name_of key (length k)))
unfolding key_form
key-form k e = by (read_name k) refl e
  where
    by : (m : Result Name ℕ) → read_name k ≡ m → names_all k m ≡ true → (key : ℕ) × (read_name k ≡ Ok (name_of key (length k)))
    by (Ok m) i e = (m.key, i ∙ ap (λ (n : ℕ). Ok (name_of m.key n)) (eqb-true m.name (length k) e))
    by (Err n) i e = absurd (false≢true e)

module _ (k v : List ℕ) (key : ℕ) (h : read_name k ≡ Ok (name_of key (length k))) (l : Value v) where
  name-before : read_name (k ++ (61 ∷ v)) ≡ Ok (name_of key (length k))
  unfolding span key_byte
  name-before =
      let e : read_name (k ++ []) ≡ Ok (name_of key (length k)) = rw (append-nil k) h in
      name-same (61 ∷ v) k [] (rw e (omega arith, λ z. record { key = refl; postfix = refl })) ∙ e

  pub new-entry : read_line (k ++ (61 ∷ v)) ≡ Entry key (length k) (length k + 1)
  unfolding entry_after span
  new-entry =
      let s : sign_at (k ++ (61 ∷ v)) (length k) ≡ length k + 0 = rw (drop-append_seam k (61 ∷ v)) in
      let a : drop (length k + 0 + 1) (k ++ (61 ∷ v)) ≡ v = let z : length k + 0 + 1 ≡ length k + 1 = omega arith in rw z (drop-append-add k (61 ∷ v) 1) in
      let n : length k + 0 + 1 + 0 ≡ length k + 1 = omega arith in
      let d : drop (length k + 1) (k ++ (61 ∷ v)) ≡ v = drop-append-add k (61 ∷ v) 1 in
      named-line (k ++ (61 ∷ v)) key (length k) name-before ∙ rw (s, get_or-append-add k (61 ∷ v) 0 0, a, l.front, n, d, l.text)

-- ---- neither has an LF

clean-marked : (mark : ℕ) → eqb mark 10 ≡ false → (s : List ℕ) → Clean (take (part_length mark s) s)
unfolding part_length
clean-marked mark h [] = tt
clean-marked mark h (b ∷ s) = by (eqb b mark) refl
  where
    by : (t : Bool) → eqb b mark ≡ t → Clean (take (pick t (suc (span key_byte s)) 0) (b ∷ s))
    by true e = (rw (eqb-true b mark e) h, clean-span key_byte (unfold key_byte in refl) s)
    by false e = tt

clean-parts : (s : List ℕ) → Clean (take (locale_end (parts s)) s)
unfolding parts
clean-parts s =
    let l : ℕ = span key_byte s in
    let c : ℕ = part_length 95 (drop l s) in
    let e : ℕ = part_length 46 (drop (l + c) s) in
    clean-add (l + c + e) _ s
    (clean-add (l + c) e s (clean-add l c s (clean-span key_byte (unfold key_byte in refl) s) (clean-marked 95 refl (drop l s))) (clean-marked 46 refl (drop (l + c) s)))
    (clean-marked 64 refl (drop (l + c + e) s))

clean-name : (s : List ℕ) (key name : ℕ) → IsName s key name → Clean (take name s)
clean-name s key name (plain-name i t₁ t₂ j) = rw (j, i) (clean-span key_byte (unfold key_byte in refl) s)
clean-name s key name (postfixed i t₁ t₂ t₃ t₄ j) =
    let c : Clean (take key s) = rw i (clean-span key_byte (unfold key_byte in refl) s) in
    rw j
    (clean-add (bracket s key) 1 s
    (clean-add (key + 1) _ s (clean-add key 1 s c (clean-byte 91 key s refl t₂)) (clean-parts (drop (key + 1) s)))
    (clean-byte 93 (bracket s key) s refl t₄))

pub new-clean : (k v : List ℕ) (key : ℕ) → read_name k ≡ Ok (name_of key (length k)) → Value v → Clean (k ++ (61 ∷ v))
new-clean k v key h l =
    clean-append k (61 ∷ v) (rw (take-length k) at (clean-name k key (length k) (is_name_lem k key (length k) h))) (refl, value-clean v l.text)
