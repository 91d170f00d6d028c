-- Titles: when two are the same, and what is asked of rows asked of their titles. Assumes nothing.
use mathlib.Core.Path.{◌≡◌, refl, sym, ap, ap₂, ◌∙◌}
use Prim.Native.Nat.{ℕ}
use mathlib.Core.Bool.{Bool, true, false, ◌&&◌, ◌||◌, false≢true}
use mathlib.Core.List.{List, [], ◌∷◌, ◌++◌}
use Rattle.base.specs.Lists.{same, any}
use Rattle.base.proofs.Tests.{and_both, same_refl, same_true, same-sym}
use Rattle.base.proofs.Search.{there-first}
use Rattle.rows.specs.Rows.{Row}
use Rattle.rows.specs.Title.{Title, Nameless, Group, Key, title, same_title, seeing, titles, find_row, has}

-- ---- the same title

pub same_title-sym : (t u : Title) → same_title t u ≡ same_title u t
unfolding same_title
same_title-sym Nameless Nameless = refl
same_title-sym Nameless (Group h) = refl
same_title-sym Nameless (Key h l) = refl
same_title-sym (Group g) Nameless = refl
same_title-sym (Group g) (Group h) = same-sym g h
same_title-sym (Group g) (Key h l) = refl
same_title-sym (Key g k) Nameless = refl
same_title-sym (Key g k) (Group h) = refl
same_title-sym (Key g k) (Key h l) = ap₂ ◌&&◌ (same-sym g h) (same-sym k l)

pub same_key : (g k : List ℕ) → same_title (Key g k) (Key g k) ≡ true
unfolding same_title
same_key g k = rw (same_refl g, same_refl k)

-- what has no title is the same as nothing
pub nameless : (t : Title) → same_title t Nameless ≡ false
unfolding same_title
nameless Nameless = refl
nameless (Group g) = refl
nameless (Key g k) = refl

pub same_title-true : (t u : Title) → same_title t u ≡ true → t ≡ u
unfolding same_title
same_title-true Nameless u e = absurd (false≢true e)
same_title-true (Group g) Nameless e = absurd (false≢true e)
same_title-true (Group g) (Group h) e = ap Group (same_true g h e)
same_title-true (Group g) (Key h l) e = absurd (false≢true e)
same_title-true (Key g k) Nameless e = absurd (false≢true e)
same_title-true (Key g k) (Group h) e = absurd (false≢true e)
same_title-true (Key g k) (Key h l) e = let p = and_both (same g h) (same k l) e in ap₂ Key (same_true g h p.0) (same_true k l p.1)

-- ---- lists of titles

pub seeing-append : (t : Title) (ts us : List Title) → seeing t ts ++ us ≡ seeing t (ts ++ us)
seeing-append Nameless ts us = refl
seeing-append (Group g) ts us = refl
seeing-append (Key g k) ts us = refl

pub titles-append : (rs ss : List Row) → titles (rs ++ ss) ≡ titles rs ++ titles ss
unfolding titles
titles-append [] ss = refl
titles-append (r ∷ rs) ss = ap (seeing (title r)) (titles-append rs ss) ∙ sym (seeing-append (title r) (titles rs) (titles ss))

pub any-seeing : (p : Title → Bool) → p Nameless ≡ false → (t : Title) (ts : List Title) → any p (seeing t ts) ≡ (p t || any p ts)
unfolding any
any-seeing p h Nameless ts = rw h
any-seeing p h (Group g) ts = refl
any-seeing p h (Key g k) ts = refl

-- ---- what is asked of rows

pub any-titles : (p : Title → Bool) → p Nameless ≡ false → (rs : List Row) → any (λ r. p (title r)) rs ≡ any p (titles rs)
unfolding any titles
any-titles p h [] = refl
any-titles p h (r ∷ rs) = ap (λ (b : Bool). p (title r) || b) (any-titles p h rs) ∙ sym (any-seeing p h (title r) (titles rs))

-- a title is among those of rows
pub any-title : (t : Title) (rs : List Row) → any (λ r. same_title t (title r)) rs ≡ any (same_title t) (titles rs)
any-title t rs = any-titles (same_title t) (nameless t) rs

pub has-titles : (rs : List Row) (t : Title) → has rs t ≡ any (same_title t) (titles rs)
unfolding find_row
has-titles rs t = there-first (λ r. same_title t (title r)) rs ∙ any-title t rs
