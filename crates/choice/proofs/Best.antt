-- The walk through the rows that keeps the best row so far. Assumes nothing.
use Rattle.std.specs.Prelude.{Option, Some, None, Result, Ok, Err}
use mathlib.Core.Path.{◌≡◌, refl, sym, ◌∙◌}
use Prim.Native.Nat.{ℕ, suc, ◌+◌, ◌≤◌, ◌<◌}
use native.Mathlib.Omega.{arith}
use mathlib.Core.Bool.{Bool, true, false, ◌&&◌}
use mathlib.Core.List.{List, [], ◌∷◌}
use lib.ListN.{length, take, drop}
use lib.Dec.{eqb}
use Rattle.base.specs.Choice.{pick, maybe}
use Rattle.base.specs.Lists.{same, part}
use Rattle.line.specs.Name.{read_name}
use Rattle.line.specs.Line.{read_line}
use Rattle.line.specs.declared.Name.{Name}
use Rattle.rows.specs.Rows.{Row, read_rows, value_start}
use Rattle.rows.specs.Title.{Key, title, same_title}
use Rattle.rows.specs.Find.{line_length, none_bad, found_of, inside_after}
use Rattle.rows.specs.declared.Row as told
use Rattle.rows.proofs.Step.{row_at, group_next, title-at}
use Rattle.rows.proofs.Reading.{key_title, title-named}
use Rattle.rows.proofs.Seek.{seek-end, seek-good, seek-told, told_at, SeekIn, in_start, in_row, in-next}
use Rattle.choice.specs.Locale.{stripped_key, stripped_title, first_key}
use Rattle.choice.specs.Step.{all_keys, rank_in, rank_of}
use Rattle.choice.proofs.Choices.{first-nowhere, place_of, better, no-better}

-- ---- the rank of a row

-- the title's key has its rank, if the title is of the group
place-title : (group h : List ℕ) (r : Row) (line : List ℕ) (m : Result Name ℕ) (ks : List (List ℕ))
    → ((k : List ℕ) → same_title (Key group k) (stripped_title (title r)) ≡ same_title (Key group k) (stripped_title (key_title h line m)))
    → place_of group r ks ≡ pick (same group h) (rank_of ks line m) (length ks)
unfolding place_of rank_in same_title
place-title group h r line (Ok n) [] i = by (same group h)
  where
    by : (t : Bool) → ◌≡◌ {A = ℕ} 0 (pick t 0 0)
    by true = refl
    by false = refl
place-title group h r line (Ok n) (k ∷ ks) i = rw (i k, place-title group h r line (Ok n) ks i) (by (same group h))
  where
    x : List ℕ
    x = stripped_key (take n.name line)

    by : (t : Bool) → pick (t && same k x) 0 (suc (pick t (rank_in ks x) (length ks))) ≡ pick t (pick (same k x) 0 (suc (rank_in ks x))) (suc (length ks))
    by true = refl
    by false = refl
place-title group h r line (Err n) ks i = None ks ∙ by (same group h)
  where
    None : (ks : List (List ℕ)) → place_of group r ks ≡ length ks
    None [] = refl
    None (k ∷ ks) = rw (i k, None ks)

    by : (t : Bool) → length ks ≡ pick t (length ks) (length ks)
    by true = refl
    by false = refl

-- ---- the best row so far

-- what is told at the end: a better row of those that are left, else the best so far
abbrev pub best_of : List ℕ → List (List ℕ) → ℕ → Option told.Row → List Row → Option told.Row
best_of group ks best kept rs = maybe (first_key rs group (take best ks)) kept (λ r. found_of (Some r))

-- the rows from p on, and the best row before them, have the answer
pub record Best (s group : List ℕ) (ks : List (List ℕ)) (p n : ℕ) (inside : Bool) (best : ℕ) (kept : Option told.Row) : Type 0 where
  pub walk : SeekIn s group (best_of group ks best kept) (found_of (first_key (read_rows s) group ks)) p n inside
  pub most : best ≤ length ks

-- where no row was kept, what is told at the end is what is told of the rows
none-kept : (o : Option Row) → maybe o None (λ r. found_of (Some r)) ≡ found_of o
none-kept None = refl
none-kept (Some r) = refl

pub best-start : (s group key locale : List ℕ) → none_bad s ≡ true → Best s group (all_keys key locale) 0 1 (eqb (length group) 0) 5 None
best-start s group key locale h =
    record {
      walk = rw (← none-kept (first_key (read_rows s) group (all_keys key locale))) (in_start s group (best_of group (all_keys key locale) 5 None) h);
      most = omega arith;
    }

-- no row is left
pub best-end : (s group : List ℕ) (ks : List (List ℕ)) {p n : ℕ} {inside : Bool} {best : ℕ} {kept : Option told.Row} → Best s group ks p n inside best kept → length s ≤ p
    → kept ≡ found_of (first_key (read_rows s) group ks)
best-end s group ks {best = best} w h = rw (first-nowhere group (take best ks)) at (seek-end w.walk.seek h)

-- no row can be better
pub best-found : (s group : List ℕ) (ks : List (List ℕ)) {p n : ℕ} {inside : Bool} {best : ℕ} {kept : Option told.Row} → Best s group ks p n inside best kept → best ≡ 0
    → kept ≡ found_of (first_key (read_rows s) group ks)
unfolding first_key
best-found s group ks w e = rw e at w.walk.seek.goes

-- the best row and its rank under other names
pub best-as : {s group : List ℕ} {ks : List (List ℕ)} {p n : ℕ} {inside : Bool} {best other : ℕ} {kept other_kept : Option told.Row} → Best s group ks p n inside best kept → other ≡ best → other_kept ≡ kept
    → Best s group ks p n inside other other_kept
best-as w i j = rw (i, j) w

module _ (s group : List ℕ) (ks : List (List ℕ)) {p n : ℕ} {inside : Bool} {best : ℕ} {kept : Option told.Row} (w : Best s group ks p n inside best kept) {e : ℕ} (h : p < length s) (q : e ≡ p + line_length (drop p s)) where
  abbrev line : List ℕ
  line = part p e s

  abbrev row : Row
  row = row_at s n p e w.walk.seek.group

  abbrev within : Bool
  within = inside_after group line inside (read_line line)

  place-row : place_of group row ks ≡ pick within (rank_of ks line (read_name line)) (length ks)
  unfolding same_title
  place-row =
      let g : List ℕ = group_next s p e w.walk.seek.group in
      rw (in_row w.walk h q)
      (place-title group g row line (read_name line) ks
      (λ k. rw (title-at s h q n w.walk.seek.group) (title-named (λ t. same_title (Key group k) (stripped_title t)) refl (λ _. refl) g line (seek-good w.walk.seek h q))))

  kept_on : best ≤ place_of group row ks → Best s group ks (e + 1) (n + 1) within best kept
  kept_on i = record { walk = in-next w.walk h q (best_of group ks best kept) (λ rs. rw (no-better group row rs ks best i)); most = w.most }

  module _ {t : Bool} (i : t ≡ within) where
    -- the row stands in another group
    pub best-outside : t ≡ false → Best s group ks (e + 1) (n + 1) t best kept
    best-outside j = rw i (kept_on (rw (place-row, sym i ∙ j) w.most))

    -- the row is no better
    pub best-stays : t ≡ true → {r : ℕ} → r ≡ rank_of ks line (read_name line) → best ≤ r → Best s group ks (e + 1) (n + 1) t best kept
    best-stays j u k = rw i (kept_on (rw (place-row, sym i ∙ j, ← u) k))

    -- the row is better
    pub best-better : t ≡ true → {r : ℕ} → r ≡ rank_of ks line (read_name line) → r < best → {v : ℕ} → v ≡ value_start (read_line line)
        → Best s group ks (e + 1) (n + 1) t r (told_at n p e (p + v))
    best-better j {r} u k {v} x =
        let z : place_of group row ks ≡ r = place-row ∙ rw (sym i ∙ j, u) in
        let o : found_of (Some row) ≡ told_at n p e (p + v) = seek-told w.walk.seek h q ∙ rw x in
        rw i (record {
          walk =
              in-next w.walk h q (best_of group ks r (told_at n p e (p + v)))
              (λ rs. rw (better group row rs ks best (rw z k) w.most, z, ← o) (told (first_key rs group (take r ks))));
          most = omega (arith, w.most);
        })
      where
        told : (o : Option Row) → maybe (maybe o (Some row) Some) kept (λ x. found_of (Some x)) ≡ maybe o (found_of (Some row)) (λ x. found_of (Some x))
        told None = refl
        told (Some x) = refl
