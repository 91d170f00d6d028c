-- The titles, groups and bad lines of a file by its lines alone, whatever ends its rows. Assumes nothing.
use mathlib.Core.Path.{◌≡◌, refl, ap, ap₂}
use Prim.Native.Nat.{ℕ, suc, ◌+◌}
use mathlib.Core.Bool.{Bool, not, ◌||◌}
use mathlib.Core.List.{List, [], ◌∷◌, ◌++◌, map}
use lib.ListN.{length}
use Rattle.base.specs.Lists.{any}
use Rattle.line.specs.Line.{read_line, is_bad}
use Rattle.rows.specs.Rows.{rows, line_of, group_after, rows_from, read_rows}
use Rattle.rows.specs.Title.{Title, title_of, title, seeing, titles}
use Rattle.rows.specs.Find.{none_bad}
use Rattle.rows.proofs.Rows.{row_of, group_end}
use Rattle.rows.proofs.Titles.{seeing-append}

-- ---- what a line names

abbrev pub group_in : List ℕ → List ℕ → List ℕ
group_in g l = group_after g l (read_line l)

abbrev pub title_in : List ℕ → List ℕ → Title
title_in g l = title_of (group_in g l) l (read_line l)

-- the group after lines
abbrev pub groups_in : List ℕ → List (List ℕ) → List ℕ
groups_in g [] = g
groups_in g (l ∷ ls) = groups_in (group_in g l) ls

-- the titles of lines
abbrev pub titles_in : List ℕ → List (List ℕ) → List Title
titles_in g [] = []
titles_in g (l ∷ ls) = seeing (title_in g l) (titles_in (group_in g l) ls)

abbrev pub bad_line : List ℕ → Bool
bad_line l = is_bad (read_line l)

pub groups-append : (g : List ℕ) (ls ms : List (List ℕ)) → groups_in g (ls ++ ms) ≡ groups_in (groups_in g ls) ms
groups-append g [] ms = refl
groups-append g (l ∷ ls) ms = groups-append (group_in g l) ls ms

pub titles-in-append : (g : List ℕ) (ls ms : List (List ℕ)) → titles_in g (ls ++ ms) ≡ titles_in g ls ++ titles_in (groups_in g ls) ms
titles-in-append g [] ms = refl
titles-in-append g (l ∷ ls) ms =
    rw (seeing-append (title_in g l) (titles_in (group_in g l) ls) (titles_in (groups_in (group_in g l) ls) ms), ← titles-in-append (group_in g l) ls ms)

-- ---- a row names what its line names

pub group-end : (g : List ℕ) (rs : List (List ℕ)) → group_end g rs ≡ groups_in g (map line_of rs)
group-end g [] = refl
group-end g (r ∷ rs) = group-end (group_in g (line_of r)) rs

pub title-row : (n at : ℕ) (g r : List ℕ) → title (row_of n at g r) ≡ title_in g (line_of r)
unfolding title
title-row n at g r = refl

pub titles-rows : (n at : ℕ) (g : List ℕ) (rs : List (List ℕ)) → titles (rows_from n at g rs) ≡ titles_in g (map line_of rs)
unfolding titles rows_from
titles-rows n at g [] = refl
titles-rows n at g (r ∷ rs) = ap₂ seeing (title-row n at g r) (titles-rows (suc n) (at + length r) (group_in g (line_of r)) rs)

pub bad-rows : (n at : ℕ) (g : List ℕ) (rs : List (List ℕ)) → any (λ r. is_bad r.reading) (rows_from n at g rs) ≡ any bad_line (map line_of rs)
unfolding any rows_from
bad-rows n at g [] = refl
bad-rows n at g (r ∷ rs) = ap (λ (b : Bool). bad_line (line_of r) || b) (bad-rows (suc n) (at + length r) (group_in g (line_of r)) rs)

-- ---- the whole file

-- its lines
abbrev pub lines_of : List ℕ → List (List ℕ)
lines_of f = map line_of (rows f)

pub titles-file : (f : List ℕ) → titles (read_rows f) ≡ titles_in [] (lines_of f)
unfolding read_rows
titles-file f = titles-rows 1 0 [] (rows f)

pub bad-file : (f : List ℕ) → any (λ r. is_bad r.reading) (read_rows f) ≡ any bad_line (lines_of f)
unfolding read_rows
bad-file f = bad-rows 1 0 [] (rows f)

pub none-bad : (f : List ℕ) → none_bad f ≡ not (any bad_line (lines_of f))
unfolding none_bad
none-bad f = ap not (bad-file f)
