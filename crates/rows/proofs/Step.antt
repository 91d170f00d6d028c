-- Going through a file by its rows: the row that starts at a place, and the rows before it. Assumes nothing.
use mathlib.Core.Path.{◌≡◌, refl, sym, ap, ◌∙◌}
use Prim.Native.Nat.{ℕ, suc, ◌+◌, ◌-◌, ◌≤◌, ◌<◌, zero-le, suc-le-suc}
use native.Mathlib.Numerals.{add-one}
use native.Mathlib.Omega.{arith}
use mathlib.Core.Bool.{Bool, true, false, not}
use mathlib.Core.List.{List, [], ◌∷◌, ◌++◌, append_assoc, append-nil}
use lib.ListN.{length, get_or, take, drop, length-append, length-drop, take-append-drop}
use lib.Seq.{take_all, take-add, drop-drop, length-take-le}
use lib.Dec.{eqb, ltb}
use borrow.Author.Tests.{eq-eqb, ne_eqb, eqb-true, ltb-true, ltb-false}
use Rattle.base.specs.Choice.{pick}
use Rattle.base.specs.Lists.{part, before, joined, span, all}
use Rattle.base.proofs.Span.{span-skip, span-short}
use Rattle.base.proofs.Scan.{here, done}
use Rattle.base.proofs.Lists.{length_part}
use Rattle.base.proofs.Tests.{by-test}
use Rattle.base.proofs.Clean.{Clean}
use Rattle.line.specs.Line.{read_line}
use Rattle.rows.specs.Rows.{Row, rows, line_of, group_after, rows_from, read_rows}
use Rattle.rows.specs.Title.{Title, title_of, title, seeing, titles}
use Rattle.rows.specs.Find.{no_lf, line_length}
use Rattle.rows.proofs.Rows.{joined-rows, rows-full, group_end, group-append, rows-from}
use Rattle.rows.proofs.Titles.{titles-append}

-- ---- the first line of a list

pub line-le : (s : List ℕ) → line_length s ≤ length s
unfolding line_length
line-le [] = zero-le
line-le (b ∷ s) = go (eqb b 10) (line-le s)
  where
    go : (t : Bool) → line_length s ≤ length s → pick t 0 (suc (line_length s)) ≤ suc (length s)
    go true h = zero-le
    go false h = suc-le-suc h

-- at the end, at an LF, and at another byte
pub line-none : (s : List ℕ) (i : ℕ) → length s ≤ i → line_length (drop i s) ≡ 0
unfolding line_length
line-none s i h = rw (done s i h)

pub line-ends : (s : List ℕ) (i : ℕ) → i < length s → get_or s i 0 ≡ 10 → line_length (drop i s) ≡ 0
unfolding line_length
line-ends s i h e = rw (here s i h, eq-eqb _ _ e)

pub line-goes : (s : List ℕ) (i : ℕ) → i < length s → (get_or s i 0 ≡ 10 → ⊥) → line_length (drop i s) ≡ suc (line_length (drop (i + 1) s))
unfolding line_length
line-goes s i h e = rw (here s i h, ne_eqb _ _ e)

-- as a span, and past bytes that are no LF
line-span : (s : List ℕ) → line_length s ≡ span no_lf s
unfolding line_length span
line-span [] = refl
line-span (b ∷ s) = go (eqb b 10) (line-span s)
  where
    go : (t : Bool) → line_length s ≡ span no_lf s → pick t 0 (suc (line_length s)) ≡ pick (not t) (suc (span no_lf s)) 0
    go true e = refl
    go false e = ap suc e

pub line-skip : (n i : ℕ) (s : List ℕ) → i + n ≤ length s → all no_lf (take n (drop i s)) ≡ true → line_length (drop i s) ≡ n + line_length (drop (i + n) s)
line-skip n i s h e =
    line-span (drop i s) ∙ span-skip no_lf n (drop i s) (simp length-drop (omega arith)) e
    ∙ ap (λ (m : ℕ). n + m) (ap (span no_lf) (drop-drop n i s) ∙ sym (line-span (drop (i + n) s)))

-- it has no LF
-- an LF among n bytes ends the line there
pub line-near : (n i : ℕ) (s : List ℕ) → all no_lf (take n (drop i s)) ≡ false → line_length (drop i s) < n
line-near n i s e = rw (line-span (drop i s)) (span-short no_lf n (drop i s) e)

first-clean : (s : List ℕ) → Clean (take (line_length s) s)
unfolding line_length
first-clean [] = tt
first-clean (b ∷ s) = go (eqb b 10) refl (first-clean s)
  where
    go : (t : Bool) → eqb b 10 ≡ t → Clean (take (line_length s) s) → Clean (take (pick t 0 (suc (line_length s))) (b ∷ s))
    go true e c = tt
    go false e c = (e, c)

-- where it does not reach to the end, its LF follows
first_ended : (s : List ℕ) → line_length s < length s → take (suc (line_length s)) s ≡ take (line_length s) s ++ (10 ∷ [])
unfolding line_length
first_ended [] h = absurd (omega arith)
first_ended (b ∷ s) h = go (eqb b 10) refl (first_ended s) h
  where
    go : (t : Bool) → eqb b 10 ≡ t → (line_length s < length s → take (suc (line_length s)) s ≡ take (line_length s) s ++ (10 ∷ [])) → pick t 0 (suc (line_length s)) < suc (length s)
        → take (suc (pick t 0 (suc (line_length s)))) (b ∷ s) ≡ take (pick t 0 (suc (line_length s))) (b ∷ s) ++ (10 ∷ [])
    go true e k i = ap (λ (n : ℕ). n ∷ []) (eqb-true b 10 e)
    go false e k i = ap (λ (r : List ℕ). b ∷ r) (k (omega arith))

-- the line of the first row
first-line : (s : List ℕ) → line_of (take (suc (line_length s)) s) ≡ take (line_length s) s
unfolding line_length line_of
first-line [] = refl
first-line (b ∷ s) = go (eqb b 10) refl (first-line s)
  where
    go : (t : Bool) → eqb b 10 ≡ t → line_of (take (suc (line_length s)) s) ≡ take (line_length s) s
        → pick (eqb b 10) [] (b ∷ line_of (take (pick t 0 (suc (line_length s))) s)) ≡ take (pick t 0 (suc (line_length s))) (b ∷ s)
    go true e i = rw e
    go false e i = rw (e, i)

-- the first row, and the rows of the rest
first-row : (b : ℕ) (s : List ℕ) → rows (b ∷ s) ≡ take (suc (line_length (b ∷ s))) (b ∷ s) ∷ rows (drop (suc (line_length (b ∷ s))) (b ∷ s))
unfolding rows line_length
first-row b [] = go (eqb b 10)
  where
    go : (t : Bool) → pick t ((b ∷ []) ∷ []) ((b ∷ []) ∷ []) ≡ take (suc (pick t 0 1)) (b ∷ []) ∷ rows (drop (suc (pick t 0 1)) (b ∷ []))
    go true = refl
    go false = refl
first-row b (c ∷ s) = go (eqb b 10) (first-row c s)
  where
    n : ℕ
    n = line_length (c ∷ s)

    go : (t : Bool) → rows (c ∷ s) ≡ take (suc n) (c ∷ s) ∷ rows (drop (suc n) (c ∷ s))
        → pick t ((b ∷ []) ∷ rows (c ∷ s)) (before b (rows (c ∷ s))) ≡ take (suc (pick t 0 (suc n))) (b ∷ c ∷ s) ∷ rows (drop (suc (pick t 0 (suc n))) (b ∷ c ∷ s))
    go true e = refl
    go false e = ap (before b) e

some-row : (s : List ℕ) → 0 < length s → rows s ≡ take (suc (line_length s)) s ∷ rows (drop (suc (line_length s)) s)
some-row [] h = absurd (omega arith)
some-row (b ∷ s) h = first-row b s

-- ---- the row that starts at p and whose line ends at e

-- it as it is read
abbrev pub row_at : List ℕ → ℕ → ℕ → ℕ → List ℕ → Row
row_at s n p e g = record { line = n; start = p; bytes = part p (e + 1) s; reading = read_line (part p e s); group = group_after g (part p e s) (read_line (part p e s)) }

-- the group after it
abbrev pub group_next : List ℕ → ℕ → ℕ → List ℕ → List ℕ
group_next s p e g = group_after g (part p e s) (read_line (part p e s))

-- its title
abbrev pub title_at : List ℕ → ℕ → ℕ → List ℕ → Title
title_at s p e g = title_of (group_next s p e g) (part p e s) (read_line (part p e s))

-- behind the last there is none
pub no_row : (s : List ℕ) (p : ℕ) → length s ≤ p → rows (drop p s) ≡ []
unfolding rows
no_row s p h = rw (done s p h)

module _ (s : List ℕ) {p e : ℕ} (h : p < length s) (q : e ≡ p + line_length (drop p s)) where
  pub start-le : p ≤ e
  start-le = omega arith

  pub end-le : e ≤ length s
  end-le = omega (arith, line-le (drop p s), length-drop p s)

  to-line : e - p ≡ line_length (drop p s)
  to-line = omega arith

  to-next : e + 1 - p ≡ suc (line_length (drop p s))
  to-next = omega arith

  pub length-line : length (part p e s) ≡ e - p
  length-line = length_part p e s end-le

  -- its line is what `&s[p..e]` is
  pub line_at : line_of (part p (e + 1) s) ≡ part p e s
  line_at = rw (to-line, to-next) (first-line (drop p s))

  pub title-at : (n : ℕ) (g : List ℕ) → title (row_at s n p e g) ≡ title_at s p e g
  unfolding title
  title-at n g = rw line_at

  pub row-at : rows (drop p s) ≡ part p (e + 1) s ∷ rows (drop (e + 1) s)
  row-at =
      let m : e + 1 ≡ p + suc (line_length (drop p s)) = omega arith in
      rw (to-next, m, ← drop-drop (suc (line_length (drop p s))) p s) (some-row (drop p s) (simp length-drop (omega arith)))

  pub length-row : e < length s → p + length (part p (e + 1) s) ≡ e + 1
  length-row k = omega (arith, length_part p (e + 1) s (omega arith))

  -- where the row ends there may be others
  read-row : (n : ℕ) (g : List ℕ) (rs : List (List ℕ)) → e < length s
      → rows_from n p g (part p (e + 1) s ∷ rs) ≡ row_at s n p e g ∷ rows_from (n + 1) (e + 1) (group_next s p e g) rs
  unfolding rows_from
  read-row n g rs k = rw (length-row k, line_at, add-one n)

  -- the last row
  read-last : (n : ℕ) (g : List ℕ) → rows_from n p g (part p (e + 1) s ∷ []) ≡ row_at s n p e g ∷ []
  unfolding rows_from
  read-last n g = rw line_at

  -- the rows from here on, as they are read; behind the last none follows, wherever it may start
  pub row_step : (n : ℕ) (g : List ℕ) → rows_from n p g (rows (drop p s)) ≡ row_at s n p e g ∷ rows_from (n + 1) (e + 1) (group_next s p e g) (rows (drop (e + 1) s))
  row_step n g =
      rw row-at
      (by-test (ltb e (length s))
      (λ t. read-row n g (rows (drop (e + 1) s)) (ltb-true e (length s) t))
      (λ f. unfold rows_from in rw (no_row s (e + 1) (omega (arith, ltb-false e (length s) f))) (read-last n g)))

  -- the row with more behind its LF
  row-then : (t : List ℕ) → e < length s → rows (part p (e + 1) s ++ t) ≡ part p (e + 1) s ∷ rows t
  row-then t k =
      let c = first-clean (drop p s) in
      let l = line_length (drop p s) in
      let r = first_ended (drop p s) (simp length-drop (omega arith)) in
      rw (to-next, r, append_assoc (take l (drop p s)) (10 ∷ []) t) (rows-full (take l (drop p s)) c t)

  row-alone : rows (part p (e + 1) s) ≡ part p (e + 1) s ∷ []
  unfolding rows
  row-alone =
      by-test (ltb e (length s))
      (λ t. sym (ap rows (append-nil (part p (e + 1) s))) ∙ row-then [] (ltb-true e (length s) t))
      (λ f. let i = ltb-false e (length s) f in
      let z : part p (e + 1) s ≡ drop p s = take_all (e + 1 - p) (drop p s) (simp length-drop (omega arith)) in
      ap rows z ∙ row-at ∙ rw (no_row s (e + 1) (omega arith)))

-- ---- the rows before a place

-- a row starts at p, as the n-th and in group g
pub record Prefix (s : List ℕ) (p n : ℕ) (g : List ℕ) : Type 0 where
  -- rows may follow; behind an end without LF nothing
  pub splits : (t : List ℕ) → (length s < p → t ≡ []) → rows (take p s ++ t) ≡ rows (take p s) ++ rows t
  pub number : n ≡ length (rows (take p s)) + 1
  pub group : g ≡ group_end [] (rows (take p s))
  pub few : n ≤ p + 1

pub prefix-start : (s : List ℕ) → Prefix s 0 1 []
unfolding rows
prefix-start s = record { splits = λ t k. refl; number = refl; group = refl; few = omega arith }

-- the rows from p on, and those before
pub prefix-rows : {s : List ℕ} {p n : ℕ} {g : List ℕ} → Prefix s p n g → rows s ≡ rows (take p s) ++ rows (drop p s)
prefix-rows {s} {p} w = rw (take-append-drop p s) at (w.splits (drop p s) (λ i. done s p (omega arith)))

module _ {s : List ℕ} {p n : ℕ} {g : List ℕ} (w : Prefix s p n g) where
  -- rows with these before them, as they are read
  read-on : (t : List ℕ) → p ≤ length s → rows_from 1 0 [] (rows (take p s) ++ rows t) ≡ read_rows (take p s) ++ rows_from n p g (rows t)
  unfolding read_rows
  read-on t h =
      let a : 1 + length (rows (take p s)) ≡ n = omega (arith, w.number) in
      let b : 0 + length (joined (rows (take p s))) ≡ p = rw (joined-rows (take p s)) (omega (arith, length-take-le p s h)) in
      rows-from (rows (take p s)) (rows t) 1 0 [] ∙ rw (a, b, ← w.group)

  -- at the end these are all
  pub prefix-end : length s ≤ p → read_rows s ≡ read_rows (take p s)
  prefix-end h = rw (take_all p s h)

  -- the rows from p on, as they are read, and those before
  pub prefix-rest : read_rows s ≡ read_rows (take p s) ++ rows_from n p g (rows (drop p s))
  unfolding read_rows rows_from
  prefix-rest =
      by-test (ltb (length s) p)
      (λ t. let i = ltb-true (length s) p t in rw (no_row s p (omega arith), append-nil) (prefix-end (omega arith)))
      (λ f. rw (prefix-rows w) (read-on (drop p s) (ltb-false (length s) p f)))

  module _ {e : ℕ} (h : p < length s) (q : e ≡ p + line_length (drop p s)) where
    before-next : take (e + 1) s ≡ take p s ++ part p (e + 1) s
    before-next = let m : p + (e + 1 - p) ≡ e + 1 = omega arith in rw m at (take-add p (e + 1 - p) s)

    -- one row more
    pub prefix-row : rows (take (e + 1) s) ≡ rows (take p s) ++ (part p (e + 1) s ∷ [])
    prefix-row = ap rows before-next ∙ w.splits (part p (e + 1) s) (λ i. absurd (omega arith)) ∙ rw (row-alone s h q)

    pub prefix-read : read_rows (take (e + 1) s) ≡ read_rows (take p s) ++ (row_at s n p e g ∷ [])
    unfolding read_rows
    prefix-read =
        rw (before-next, w.splits (part p (e + 1) s) (λ i. absurd (omega arith)))
        (read-on (part p (e + 1) s) (omega arith) ∙ rw (row-alone s h q, read-last s h q n g))

    pub prefix-titles : titles (read_rows (take (e + 1) s)) ≡ titles (read_rows (take p s)) ++ seeing (title_at s p e g) []
    unfolding titles
    prefix-titles = rw (prefix-read, titles-append) (ap (λ (t : Title). titles (read_rows (take p s)) ++ seeing t []) (title-at s h q n g))

    pub prefix-next : Prefix s (e + 1) (n + 1) (group_next s p e g)
    unfolding rows
    prefix-next =
        let r : List ℕ = part p (e + 1) s in
        record {
          splits =
              λ t k.
              by-test (ltb e (length s))
              (λ y. rw (prefix-row, before-next, append_assoc (take p s) r t, append_assoc (rows (take p s)) (r ∷ []) (rows t), ← row-then s h q t (ltb-true e (length s) y))
              (w.splits (r ++ t) (λ i. absurd (omega arith))))
              (λ f. let i = ltb-false e (length s) f in rw (k (omega arith), append-nil (take (e + 1) s), append-nil (rows (take (e + 1) s))));
          number = rw prefix-row (omega (arith, w.number, length-append (rows (take p s)) (part p (e + 1) s ∷ [])));
          group = rw (prefix-row, group-append, line_at s h q, ← w.group);
          few = omega (arith, w.few);
        }
