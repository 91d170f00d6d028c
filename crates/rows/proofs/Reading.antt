-- One line of a file: its group, its title and its name, from its first byte and its reading. Assumes nothing.
use Rattle.std.specs.Prelude.{Result, Ok, Err}
use mathlib.Core.Path.{◌≡◌, refl, sym, ap, ◌∙◌}
use Prim.Native.Nat.{ℕ, ◌-◌, ◌≤◌, ◌<◌}
use native.Mathlib.Omega.{arith}
use mathlib.Core.Bool.{Bool, true, false, ◌&&◌, and-false, and_assoc, false≢true}
use mathlib.Core.List.{List, [], ◌∷◌, ◌++◌}
use lib.ListN.{length, take, drop, length-take}
use lib.Seq.{length-take-le}
use lib.Dec.{eqb}
use borrow.Author.Tests.{eqb-true, eqb-false}
use Rattle.base.specs.Lists.{same}
use Rattle.base.proofs.Tests.{no, by-test, same_true}
use Rattle.characters.specs.Class.{key_byte}
use Rattle.line.specs.Name.{byte_at, read_name}
use Rattle.line.specs.Line.{read_line, is_bad}
use Rattle.line.specs.Form.{names_all}
use Rattle.line.specs.declared.Line.{Line}
use Rattle.line.specs.declared.Line.TheVariants.{Blank, Comment, Header, Entry, Bad}
use Rattle.line.specs.declared.Name.{Name}
use Rattle.line.proofs.Bounds.{NamedWithin, name-within, LineWithin, line-within}
use Rattle.line.proofs.FirstByte.{Headed, headed-line, no_name, Unheaded, unheaded-line}
use Rattle.rows.specs.Rows.{group_after, value_start}
use Rattle.rows.specs.Title.{Title, Nameless, Group, Key, title_of, same_title}
use Rattle.rows.specs.Find.{named_as, inside_after}

-- a value starts in its line
pub value-le : (l : List ℕ) → value_start (read_line l) ≤ length l
value-le l = go (read_line l) (line-within l)
  where
    go : (r : Line) → LineWithin (length l) r → value_start r ≤ length l
    go Blank h = omega arith
    go Comment h = omega arith
    go (Header e) h = omega arith
    go (Entry key name value) h = h.3
    go (Bad n) h = omega arith

-- what is no entry has none
pub value-none : (r : Line) → ((key name value : ℕ) → r ≡ Entry key name value → ⊥) → 0 ≡ value_start r
value-none Blank h = refl
value-none Comment h = refl
value-none (Header e) h = refl
value-none (Entry key name value) h = absurd (h key name value refl)
value-none (Bad n) h = refl

-- ---- a good line that starts with `[`

-- it is a header, and its last byte ends the name
pub header-good : (l : List ℕ) → eqb (byte_at l 0) 91 ≡ true → is_bad (read_line l) ≡ false → (read_line l ≡ Header (length l - 1)) × (2 < length l)
header-good l e h = go (read_line l) (headed-line l e) (line-within l) h
  where
    go : (r : Line) → Headed r → LineWithin (length l) r → is_bad r ≡ false → (r ≡ Header (length l - 1)) × (2 < length l)
    go Blank a b h = absurd a
    go Comment a b h = absurd a
    go (Header e) a b h = let z : e ≡ length l - 1 = omega arith in (ap Header z, omega arith)
    go (Entry key name value) a b h = absurd a
    go (Bad n) a b h = no (cc)

-- it names no key
headed-name : (l : List ℕ) → eqb (byte_at l 0) 91 ≡ true → read_name l ≡ Err 0
unfolding key_byte
headed-name [] e = absurd (false≢true e)
headed-name (b ∷ l) e = let z : b ≡ 91 = eqb-true b 91 e in no_name b l (rw z)

-- ---- a line that does not

-- it leaves the group
pub group-stays : (g l : List ℕ) → eqb (byte_at l 0) 91 ≡ false → group_after g l (read_line l) ≡ g
group-stays g l e = go (read_line l) (unheaded-line l e)
  where
    go : (r : Line) → Unheaded l r → group_after g l r ≡ g
    go Blank a = refl
    go Comment a = refl
    go (Header e) a = absurd a
    go (Entry key name value) a = refl
    go (Bad n) a = refl

-- what stands in a group stays in it
pub inside-stays : (group l : List ℕ) (inside : Bool) → eqb (byte_at l 0) 91 ≡ false → inside ≡ inside_after group l inside (read_line l)
inside-stays group l inside e = go (read_line l) (unheaded-line l e)
  where
    go : (r : Line) → Unheaded l r → inside ≡ inside_after group l inside r
    go Blank a = refl
    go Comment a = refl
    go (Header e) a = absurd a
    go (Entry key name value) a = refl
    go (Bad n) a = refl

-- it has no group's title
pub no-group : (g h l : List ℕ) → eqb (byte_at l 0) 91 ≡ false → same_title (Group h) (title_of g l (read_line l)) ≡ false
unfolding same_title
no-group g h l e = go (read_line l) (unheaded-line l e)
  where
    go : (r : Line) → Unheaded l r → same_title (Group h) (title_of g l r) ≡ false
    go Blank a = refl
    go Comment a = refl
    go (Header e) a = absurd a
    go (Entry key name value) a = refl
    go (Bad n) a = refl

-- ---- a good line

-- whether it stands in a group, by the group that it stands in
pub inside-after : (group g l : List ℕ) → inside_after group l (same group g) (read_line l) ≡ same group (group_after g l (read_line l))
inside-after group g l = go (read_line l)
  where
    go : (r : Line) → inside_after group l (same group g) r ≡ same group (group_after g l r)
    go Blank = refl
    go Comment = refl
    go (Header e) = refl
    go (Entry key name value) = refl
    go (Bad n) = refl

-- the title of a key, if the line names one
abbrev pub key_title : List ℕ → List ℕ → Result Name ℕ → Title
key_title g l (Ok n) = Key g (take n.name l)
key_title g l (Err n) = Nameless

-- a test of titles that only a key's passes asks for the key that the line names
pub title-named : (p : Title → Bool) → p Nameless ≡ false → ((g : List ℕ) → p (Group g) ≡ false) → (g l : List ℕ) → is_bad (read_line l) ≡ false
    → p (title_of g l (read_line l)) ≡ p (key_title g l (read_name l))
title-named p i j g l h =
    by-test (eqb (byte_at l 0) 91)
    (λ e. rw ((header-good l e h).0, headed-name l e, i) (j g))
    (λ e. go (read_line l) (unheaded-line l e) h)
  where
    go : (r : Line) → Unheaded l r → is_bad r ≡ false → p (title_of g l r) ≡ p (key_title g l (read_name l))
    go Blank a b = rw a
    go Comment a b = rw a
    go (Header e) a b = absurd a
    go (Entry key name value) a b = rw a
    go (Bad n) a b = no (cc)

-- it has a key's title if its name is the key
pub key-title : (g h k l : List ℕ) → is_bad (read_line l) ≡ false → same_title (Key h k) (title_of g l (read_line l)) ≡ (same h g && named_as k l (read_name l))
unfolding same_title
key-title g h k l b = title-named (same_title (Key h k)) refl (λ g. refl) g l b ∙ go (read_name l)
  where
    go : (m : Result Name ℕ) → same_title (Key h k) (key_title g l m) ≡ (same h g && named_as k l m)
    go (Ok n) = refl
    go (Err n) = sym (and-false (same h g))

-- ---- a name at the front

-- bytes that are n of a line are as long
same_length : (k l : List ℕ) (n : ℕ) → n ≤ length l → same k (take n l) ≡ true → length k ≡ n
same_length k l n h e = ap length (same_true k (take n l) e) ∙ length-take-le n l h

-- a key that is not at the front is not the name
pub not-front : (k l : List ℕ) → same k (take (length k) l) ≡ false → named_as k l (read_name l) ≡ false
not-front k l f = go (read_name l) (name-within l)
  where
    go : (m : Result Name ℕ) → NamedWithin (length l) m → named_as k l m ≡ false
    go (Ok n) h = by-test (same k (take n.name l)) (λ t. absurd (false≢true (sym f ∙ rw (same_length k l n.name h.2 t) t))) (λ e. e)
    go (Err n) h = refl

-- a line that is shorter does not begin with the key
pub too_short : (k l : List ℕ) → length l < length k → same k (take (length k) l) ≡ false
too_short k l h =
    by-test (same k (take (length k) l)) (λ t. absurd (omega (arith, ap length (same_true k (take (length k) l) t), length-take (length k) l))) (λ e. e)

-- two parts, one after the other, are compared part by part
pub joined_same : (f r s : List ℕ) → same (f ++ r) s ≡ (same f (take (length f) s) && same r (drop (length f) s))
unfolding same
joined_same [] r s = refl
joined_same (x ∷ f) r [] = refl
joined_same (x ∷ f) r (y ∷ s) = rw (joined_same f r s) (sym (and_assoc (eqb x y) (same f (take (length f) s)) (same r (drop (length f) s))))

-- one that is at the front is the first n bytes if it is as long
pub front : (k l : List ℕ) (n : ℕ) → same k (take (length k) l) ≡ true → n ≤ length l → same k (take n l) ≡ eqb n (length k)
front k l n t h =
    by-test (eqb n (length k))
    (λ e. let z : n ≡ length k = eqb-true n (length k) e in rw (e, z) t)
    (λ f. rw f (by-test (same k (take n l)) (λ e. absurd (eqb-false n (length k) f (sym (same_length k l n h e)))) (λ e. e)))

-- a key that is at the front is the name if it is as long
pub at-front : (k l : List ℕ) → same k (take (length k) l) ≡ true → named_as k l (read_name l) ≡ names_all k (read_name l)
at-front k l t = go (read_name l) (name-within l)
  where
    go : (m : Result Name ℕ) → NamedWithin (length l) m → named_as k l m ≡ names_all k m
    go (Ok n) h = front k l n.name t h.2
    go (Err n) h = refl
