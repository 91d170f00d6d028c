-- A well-formed file by its lines alone, whatever ends its rows. Assumes nothing.
use mathlib.Core.Path.{◌≡◌, refl, sym, ap, ap₂, ◌∙◌}
use Prim.Native.Nat.{ℕ}
use mathlib.Core.Bool.{Bool, true, false, not, ◌&&◌, ◌||◌}
use mathlib.Core.List.{List, [], ◌∷◌, ◌++◌}
use lib.ListN.{length}
use lib.Dec.{leb}
use borrow.Author.Tests.{not-true}
use Rattle.base.specs.Bounds.{file_most}
use Rattle.base.specs.Lists.{any}
use Rattle.base.proofs.Search.{any-middle, any-as}
use Rattle.base.proofs.Tests.{and_both}
use Rattle.rows.specs.Rows.{Row, read_rows}
use Rattle.rows.specs.Title.{Title, Nameless, Group, Key, title, same_title, titles}
use Rattle.rows.proofs.Titles.{same_title-sym, any-titles, has-titles}
use Rattle.rows.proofs.Sight.{titles_in, bad_line, lines_of, titles-file, bad-file}
use Rattle.wellformed.specs.Check.{plain_of, plain_title, wanted, no_plain}
use Rattle.wellformed.specs.WellFormed.{leads, distinct, well_formed_as}

-- ---- titles

-- a key whose plain key is not among the titles
abbrev pub lacking : List Title → Title → Bool
lacking ts Nameless = false
lacking ts (Group g) = false
lacking ts (Key g k) = not (any (same_title (Key g (plain_of k))) ts)

-- the titles of a well-formed file
pub record WellTitled (leading : List ℕ) (ts : List Title) : Type 0 where
  pub leader : leads leading ts ≡ true
  pub apart : distinct ts ≡ true
  pub plains : any (lacking ts) ts ≡ false

shuffle : (m x y d : Bool) → (not (m || x) && (not y && d)) ≡ (not (m || y) && (not x && d))
shuffle true x y d = refl
shuffle false true true d = refl
shuffle false true false d = refl
shuffle false false true d = refl
shuffle false false false d = refl

-- one title more is another, and the rest are apart
pub distinct-middle : (ts : List Title) (t : Title) (us : List Title) → distinct (ts ++ (t ∷ us)) ≡ (not (any (same_title t) (ts ++ us)) && distinct (ts ++ us))
unfolding distinct any
distinct-middle [] t us = refl
distinct-middle (x ∷ ts) t us =
    ap₂ (λ (u : Bool) (w : Bool). not u && w) (any-middle (same_title x) ts t us ∙ ap (λ (m : Bool). m || any (same_title x) (ts ++ us)) (same_title-sym x t)) (distinct-middle ts t us)
    ∙ shuffle (same_title t x) (any (same_title x) (ts ++ us)) (any (same_title t) (ts ++ us)) (distinct (ts ++ us))

-- ---- lines

pub record WellLines (leading : List ℕ) (ls : List (List ℕ)) : Type 0 where
  pub good : any bad_line ls ≡ false
  pub titled : WellTitled leading (titles_in [] ls)

-- a row lacks its plain key as its title does
plain_row : (rs : List Row) (r : Row) → no_plain rs r ≡ lacking (titles rs) (title r)
unfolding no_plain
plain_row rs r = by (title r)
  where
    by : (t : Title) → wanted rs (plain_title t) ≡ lacking (titles rs) t
    by Nameless = refl
    by (Group g) = refl
    by (Key g k) = ap not (has-titles rs (Key g (plain_of k)))

plain_rows : (rs : List Row) → any (no_plain rs) rs ≡ any (lacking (titles rs)) (titles rs)
plain_rows rs = any-as (no_plain rs) (λ r. lacking (titles rs) (title r)) (plain_row rs) rs ∙ any-titles (lacking (titles rs)) refl rs

-- ---- the whole file

well-formed-by : (leading f : List ℕ) → well_formed_as leading f
    ≡ (leb (length f) file_most && not (any bad_line (lines_of f)) && leads leading (titles_in [] (lines_of f)) && distinct (titles_in [] (lines_of f)) && not (any (lacking (titles_in [] (lines_of f))) (titles_in [] (lines_of f))))
unfolding well_formed_as
well-formed-by leading f = rw (plain_rows (read_rows f), titles-file f, bad-file f)

five : (a b c d e : Bool) → (a && b && c && d && e) ≡ true → (a ≡ true) × (b ≡ true) × (c ≡ true) × (d ≡ true) × (e ≡ true)
five a b c d e h =
    let p = and_both (a && b && c && d) e h in
    let q = and_both (a && b && c) d p.0 in
    let r = and_both (a && b) c q.0 in
    let s = and_both a b r.0 in
    (s.0, s.1, r.1, q.1, p.1)

-- a well-formed file is not too long, and its lines are well formed
pub well-lines : (leading f : List ℕ) → well_formed_as leading f ≡ true → (leb (length f) file_most ≡ true) × WellLines leading (lines_of f)
well-lines leading f h =
    let ts : List Title = titles_in [] (lines_of f) in
    let a = five (leb (length f) file_most) (not (any bad_line (lines_of f))) (leads leading ts) (distinct ts) (not (any (lacking ts) ts)) (sym (well-formed-by leading f) ∙ h) in (
      a.0,
      record { good = not-true (any bad_line (lines_of f)) a.1; titled = record { leader = a.2; apart = a.3; plains = not-true (any (lacking ts) ts) a.4 } },
    )

pub lines-well : (leading f : List ℕ) → leb (length f) file_most ≡ true → WellLines leading (lines_of f) → well_formed_as leading f ≡ true
lines-well leading f m h = well-formed-by leading f ∙ rw (m, h.good, h.titled.leader, h.titled.apart, h.titled.plains)
