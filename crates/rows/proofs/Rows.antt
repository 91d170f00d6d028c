-- Rows of a file: what they are, that they read back, and the row that a question finds. Assumes nothing.
use Rattle.std.specs.Prelude.{Option, Some, None}
use mathlib.Core.Path.{◌≡◌, refl, sym, ap, ◌∙◌}
use Prim.Native.Nat.{ℕ, suc, ◌+◌, ◌<◌}
use native.Mathlib.Omega.{arith}
use mathlib.Core.Bool.{Bool, true, false}
use mathlib.Core.List.{List, [], ◌∷◌, ◌++◌, append_assoc, append-nil}
use lib.ListN.{length, drop, length-append}
use lib.Dec.{eqb}
use borrow.Author.Tests.{eqb-true}
use Rattle.base.specs.Choice.{pick, maybe}
use Rattle.base.specs.Lists.{before, joined, first, last}
use Rattle.base.proofs.Clean.{Clean}
use Rattle.base.proofs.Tests.{no}
use Rattle.line.specs.Line.{read_line}
use Rattle.rows.specs.Rows.{Row, rows, RowsJoined, line_of, group_after, rows_from}

-- ---- what rows are

-- a clean line with its LF
pub record Full (r : List ℕ) : Type 0 where
  pub line : List ℕ
  pub clean : Clean line
  pub is : r ≡ line ++ (10 ∷ [])

-- a row before others: it has its LF, or is the last and not empty
pub data RowBefore (r : List ℕ) (rs : List (List ℕ)) : Type 0 where
  full : Full r → RowBefore r rs
  open-end : Clean r → 0 < length r → rs ≡ [] → RowBefore r rs

abbrev pub IsRows : List (List ℕ) → Type 0
IsRows [] = Unit
IsRows (r ∷ rs) = RowBefore r rs × IsRows rs

longer : (b : ℕ) (r : List ℕ) (rs : List (List ℕ)) → eqb b 10 ≡ false → RowBefore r rs → RowBefore (b ∷ r) rs
longer b r rs e (full h) = full (record { line = b ∷ h.line; clean = (e, h.clean); is = ap (λ (s : List ℕ). b ∷ s) h.is })
longer b r rs e (open-end c l n) = open-end (e, c) (omega arith) n

before-rows : (b : ℕ) (rs : List (List ℕ)) → eqb b 10 ≡ false → IsRows rs → IsRows (before b rs)
before-rows b [] e h = (open-end (e, tt) (omega arith) refl, tt)
before-rows b (r ∷ rs) e h = (longer b r rs e h.0, h.1)

step-rows : (t : Bool) (b : ℕ) (rs : List (List ℕ)) → eqb b 10 ≡ t → IsRows rs → IsRows (pick t ((b ∷ []) ∷ rs) (before b rs))
step-rows true b rs e h = (full (record { line = []; clean = tt; is = ap (λ (n : ℕ). n ∷ []) (eqb-true b 10 e) }), h)
step-rows false b rs e h = before-rows b rs e h

-- the rows of a file are rows
pub rows_are : (f : List ℕ) → IsRows (rows f)
unfolding rows
rows_are [] = tt
rows_are (b ∷ bs) = step-rows (eqb b 10) b (rows bs) refl (rows_are bs)

-- ---- the rows joined are the file

joined_step : (t : Bool) (b : ℕ) (rs : List (List ℕ)) → joined (pick t ((b ∷ []) ∷ rs) (before b rs)) ≡ b ∷ joined rs
unfolding joined
joined_step true b rs = refl
joined_step false b [] = refl
joined_step false b (r ∷ rs) = refl

pub joined-rows : RowsJoined
unfolding rows joined
joined-rows [] = refl
joined-rows (b ∷ bs) = joined_step (eqb b 10) b (rows bs) ∙ ap (λ (s : List ℕ). b ∷ s) (joined-rows bs)

-- ---- rows joined read back

pub rows-full : (l : List ℕ) → Clean l → (t : List ℕ) → rows (l ++ (10 ∷ t)) ≡ (l ++ (10 ∷ [])) ∷ rows t
unfolding rows
rows-full [] c t = refl
rows-full (b ∷ l) c t = rw (c.0, rows-full l c.1 t)

pub rows-open : (b : ℕ) (l : List ℕ) → Clean (b ∷ l) → rows (b ∷ l) ≡ (b ∷ l) ∷ []
unfolding rows
rows-open b [] c = rw c.0
rows-open b (d ∷ l) c = rw c.0 (ap (before b) (rows-open d l c.1))

rows_last : (r : List ℕ) → Clean r → 0 < length r → rows r ≡ r ∷ []
rows_last [] c h = absurd (omega arith)
rows_last (b ∷ l) c h = rows-open b l c

-- the rows joined have these rows
pub rows-joined : (rs : List (List ℕ)) → IsRows rs → rows (joined rs) ≡ rs
unfolding joined
rows-joined [] h = unfold rows in refl
rows-joined (r ∷ rs) h = by h.0 (rows-joined rs h.1)
  where
    by : RowBefore r rs → rows (joined rs) ≡ rs → rows (r ++ joined rs) ≡ r ∷ rs
    by (full w) ih = rw (w.is, append_assoc w.line (10 ∷ []) (joined rs)) (rows-full w.line w.clean (joined rs) ∙ ap (λ (ss : List (List ℕ)). (w.line ++ (10 ∷ [])) ∷ ss) ih)
    by (open-end c l n) ih = rw (n, append-nil r) (rows_last r c l)

-- ---- rows one after another

not-nil : (xs : List (List ℕ)) (y : List ℕ) (ys : List (List ℕ)) → xs ++ (y ∷ ys) ≡ [] → ⊥
not-nil xs y ys e = let n : length (xs ++ (y ∷ ys)) ≡ 0 = ap length e in omega (arith, length-append xs (y ∷ ys))

-- every row has its LF
abbrev pub AllFull : List (List ℕ) → Type 0
AllFull [] = Unit
AllFull (r ∷ rs) = Full r × AllFull rs

-- rows before another are full
pub full-before : (xs : List (List ℕ)) (r : List ℕ) (ys : List (List ℕ)) → IsRows (xs ++ (r ∷ ys)) → AllFull xs
full-before [] r ys h = tt
full-before (x ∷ xs) r ys h = (by h.0, full-before xs r ys h.1)
  where
    by : RowBefore x (xs ++ (r ∷ ys)) → Full x
    by (full w) = w
    by (open-end c l n) = absurd (not-nil xs r ys n)

pub rows-after : (xs ys : List (List ℕ)) → IsRows (xs ++ ys) → IsRows ys
rows-after [] ys h = h
rows-after (x ∷ xs) ys h = rows-after xs ys h.1

pub full-rows : (xs ys : List (List ℕ)) → AllFull xs → IsRows ys → IsRows (xs ++ ys)
full-rows [] ys h k = k
full-rows (x ∷ xs) ys h k = (full h.0, full-rows xs ys h.1 k)

-- rows of a concatenation at a row boundary
pub rows-boundary : (xs : List (List ℕ)) (t : List ℕ) → AllFull xs → rows (joined xs ++ t) ≡ xs ++ rows t
unfolding joined
rows-boundary [] t h = refl
rows-boundary (x ∷ xs) t h =
    let w = h.0 in
    rw (w.is, append_assoc w.line (10 ∷ []) (joined xs), append_assoc w.line (10 ∷ joined xs) t)
    (rows-full w.line w.clean (joined xs ++ t) ∙ ap (λ (rs : List (List ℕ)). (w.line ++ (10 ∷ [])) ∷ rs) (rows-boundary xs t h.1))

-- ---- lines

pub line_clean : (l : List ℕ) → Clean l → line_of l ≡ l
unfolding line_of
line_clean [] c = refl
line_clean (b ∷ l) c = rw (c.0, line_clean l c.1)

pub line-full : (l t : List ℕ) → Clean l → line_of (l ++ (10 ∷ t)) ≡ l
unfolding line_of
line-full [] t c = refl
line-full (b ∷ l) t c = rw (c.0, line-full l t c.1)

pub clean_line : (r : List ℕ) → Clean (line_of r)
unfolding line_of
clean_line [] = tt
clean_line (b ∷ r) = by (eqb b 10) refl (clean_line r)
  where
    by : (t : Bool) → eqb b 10 ≡ t → Clean (line_of r) → Clean (pick t [] (b ∷ line_of r))
    by true e c = tt
    by false e c = (e, c)

-- a row is its line and what ends it
pub row-split : (r : List ℕ) → line_of r ++ drop (length (line_of r)) r ≡ r
unfolding line_of
row-split [] = refl
row-split (b ∷ r) = by (eqb b 10) (row-split r)
  where
    by : (t : Bool) → line_of r ++ drop (length (line_of r)) r ≡ r → pick t [] (b ∷ line_of r) ++ drop (length (pick t [] (b ∷ line_of r))) (b ∷ r) ≡ b ∷ r
    by true ih = refl
    by false ih = ap (λ (s : List ℕ). b ∷ s) ih

-- ---- the row that a question finds

-- a row as it is read in a group
abbrev pub row_of : ℕ → ℕ → List ℕ → List ℕ → Row
row_of n at g r = record { line = n; start = at; bytes = r; reading = read_line (line_of r); group = group_after g (line_of r) (read_line (line_of r)) }

-- the group after rows
abbrev pub group_end : List ℕ → List (List ℕ) → List ℕ
group_end g [] = g
group_end g (r ∷ rs) = group_end (group_after g (line_of r) (read_line (line_of r))) rs

pub group-append : (xs ys : List (List ℕ)) (g : List ℕ) → group_end g (xs ++ ys) ≡ group_end (group_end g xs) ys
group-append [] ys g = refl
group-append (x ∷ xs) ys g = group-append xs ys (group_after g (line_of x) (read_line (line_of x)))

-- rows after others: numbered and placed by how many and how long these are, in the group that they leave
pub rows-from : (xs ys : List (List ℕ)) (n at : ℕ) (g : List ℕ) → rows_from n at g (xs ++ ys) ≡ rows_from n at g xs ++ rows_from (n + length xs) (at + length (joined xs)) (group_end g xs) ys
unfolding rows_from joined
rows-from [] ys n at g = let a : n + 0 ≡ n = omega arith in let b : at + 0 ≡ at = omega arith in rw (a, b)
rows-from (x ∷ xs) ys n at g =
    let a : n + suc (length xs) ≡ suc n + length xs = omega arith in
    let b : at + length (x ++ joined xs) ≡ at + length x + length (joined xs) = simp length-append (omega arith) in
    rw (a, b) (ap (λ (rs : List Row). row_of n at g x ∷ rs) (rows-from xs ys (suc n) (at + length x) (group_after g (line_of x) (read_line (line_of x)))))

-- the row stands between others
pub record Found (p : Row → Bool) (at : ℕ) (g : List ℕ) (rs : List (List ℕ)) (r : Row) : Type 0 where
  pub xs : List (List ℕ)
  pub bytes : List ℕ
  pub ys : List (List ℕ)
  pub number : ℕ
  pub is : rs ≡ xs ++ (bytes ∷ ys)
  pub row : r ≡ row_of number (at + length (joined xs)) (group_end g xs) bytes
  pub passes : p r ≡ true

module _ (p : Row → Bool) where
  here : (n at : ℕ) (g x : List ℕ) (rs : List (List ℕ)) (r : Row) → p (row_of n at g x) ≡ true → row_of n at g x ≡ r → Found p at g (x ∷ rs) r
  unfolding joined
  here n at g x rs r e i =
      record { xs = []; bytes = x; ys = rs; number = n; is = refl; row = let z : at + 0 ≡ at = omega arith in rw z (sym i); passes = rw (← i) e }

  there-after : (at : ℕ) (g x : List ℕ) (rs : List (List ℕ)) (r : Row)
      → Found p (at + length x) (group_after g (line_of x) (read_line (line_of x))) rs r → Found p at g (x ∷ rs) r
  unfolding joined
  there-after at g x rs r f =
      record {
        xs = x ∷ f.xs;
        bytes = f.bytes;
        ys = f.ys;
        number = f.number;
        is = ap (λ (s : List (List ℕ)). x ∷ s) f.is;
        row = let z : at + length (x ++ joined f.xs) ≡ at + length x + length (joined f.xs) = simp length-append (omega arith) in rw z f.row;
        passes = f.passes;
      }

  pub found_first : (rs : List (List ℕ)) (n at : ℕ) (g : List ℕ) (r : Row) → first p (rows_from n at g rs) ≡ Some r → Found p at g rs r
  unfolding first rows_from
  found_first [] n at g r e = no (cc)
  found_first (x ∷ rs) n at g r e = by (p (row_of n at g x)) refl e (found_first rs (suc n) (at + length x) (group_after g (line_of x) (read_line (line_of x))) r)
    where
      rest : Option Row
      rest = first p (rows_from (suc n) (at + length x) (group_after g (line_of x) (read_line (line_of x))) rs)

      by : (t : Bool) → p (row_of n at g x) ≡ t → pick t (Some (row_of n at g x)) rest ≡ Some r
          → (rest ≡ Some r → Found p (at + length x) (group_after g (line_of x) (read_line (line_of x))) rs r) → Found p at g (x ∷ rs) r
      by true t e k = here n at g x rs r t (cc)
      by false t e k = there-after at g x rs r (k e)

  pub found-last : (rs : List (List ℕ)) (n at : ℕ) (g : List ℕ) (r : Row) → last p (rows_from n at g rs) ≡ Some r → Found p at g rs r
  unfolding last rows_from
  found-last [] n at g r e = no (cc)
  found-last (x ∷ rs) n at g r e =
      by (last p (rows_from (suc n) (at + length x) (group_after g (line_of x) (read_line (line_of x))) rs)) (p (row_of n at g x)) refl e (found-last rs (suc n) (at + length x) (group_after g (line_of x) (read_line (line_of x))))
    where
      by : (o : Option Row) (t : Bool) → p (row_of n at g x) ≡ t → maybe o (pick t (Some (row_of n at g x)) None) Some ≡ Some r
          → ((s : Row) → o ≡ Some s → Found p (at + length x) (group_after g (line_of x) (read_line (line_of x))) rs s) → Found p at g (x ∷ rs) r
      by None true t e k = here n at g x rs r t (cc)
      by None false t e k = no (cc)
      by (Some s) t u e k = there-after at g x rs r (k r e)
