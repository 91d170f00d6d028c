-- The first present of some keys, row by row, and the keys that a locale chooses among. Assumes nothing.
use Rattle.std.specs.Prelude.{Option, Some, None}
use mathlib.Core.Path.{◌≡◌, refl, sym, ◌∙◌}
use Prim.Native.Nat.{ℕ, zero, suc, ◌≤◌, ◌<◌}
use native.Mathlib.Omega.{arith}
use mathlib.Core.Bool.{Bool, true, false}
use mathlib.Core.List.{List, [], ◌∷◌, ◌++◌, append-nil, map}
use lib.ListN.{length, take}
use lib.Dec.{eqb, eqb-suc-zero}
use Rattle.base.specs.Choice.{pick, maybe}
use Rattle.base.specs.Lists.{first}
use Rattle.rows.specs.Rows.{Row}
use Rattle.rows.specs.Title.{Key, title, same_title}
use Rattle.choice.specs.Locale.{lang_of, country_of, modifier_of, plain_locale, only_with, candidates, postfixed, stripped_title, find_stripped, first_key, chosen}
use Rattle.choice.specs.Step.{all_keys}

-- ---- the first of some options

or-none : {A : Type 0} (o : Option A) → maybe o None Some ≡ o
or-none None = refl
or-none (Some a) = refl

or_later : {A : Type 0} (o p q : Option A) → maybe o (maybe p q Some) Some ≡ maybe (maybe o p Some) q Some
or_later None p q = refl
or_later (Some a) p q = refl

-- of two that are asked twice
twice : {A : Type 0} (o p q : Option A) → maybe o (maybe p (maybe o (maybe p q Some) Some) Some) Some ≡ maybe o (maybe p q Some) Some
twice (Some a) p q = refl
twice None (Some a) q = refl
twice None None q = refl

each_twice : {A : Type 0} (o p q : Option A) → maybe o (maybe o (maybe p (maybe p q Some) Some) Some) Some ≡ maybe o (maybe p q Some) Some
each_twice (Some a) p q = refl
each_twice None (Some a) q = refl
each_twice None None q = refl

-- ---- the first present key

module _ (rs : List Row) (group : List ℕ) where
  first_one : (k : List ℕ) → first_key rs group (k ∷ []) ≡ find_stripped rs (Key group k)
  unfolding first_key
  first_one k = or-none (find_stripped rs (Key group k))

  -- of keys before others: the first of these, else the first of the others
  pub first-append : (ks ls : List (List ℕ)) → first_key rs group (ks ++ ls) ≡ maybe (first_key rs group ks) (first_key rs group ls) Some
  unfolding first_key
  first-append [] ls = refl
  first-append (k ∷ ks) ls = rw (first-append ks ls) (or_later (find_stripped rs (Key group k)) (first_key rs group ks) (first_key rs group ls))

-- ---- one row more

-- among no rows there is none
pub first-nowhere : (group : List ℕ) (ks : List (List ℕ)) → first_key [] group ks ≡ None
unfolding first_key find_stripped first
first-nowhere group [] = refl
first-nowhere group (k ∷ ks) = first-nowhere group ks

module _ (group : List ℕ) (r : Row) where
  -- the place of the first of some keys that the row has; their number if it has none
  unfoldable pub place_of : List (List ℕ) → ℕ
  place_of [] = 0
  place_of (k ∷ ks) = pick (same_title (Key group k) (stripped_title (title r))) 0 (suc (place_of ks))

  module _ (rs : List Row) where
    -- it has one of the first n keys: only a better one behind it is taken before it
    pub better : (ks : List (List ℕ)) (n : ℕ) → place_of ks < n → n ≤ length ks
        → first_key (r ∷ rs) group (take n ks) ≡ maybe (first_key rs group (take (place_of ks) ks)) (Some r) Some
    unfolding first_key find_stripped first place_of
    better [] n h i = absurd (omega arith)
    better (k ∷ ks) zero h i = absurd (omega arith)
    better (k ∷ ks) (suc n) h i = go (same_title (Key group k) (stripped_title (title r))) h (λ j. better ks n j (omega arith))
      where
        o : Option Row
        o = find_stripped rs (Key group k)

        go : (t : Bool) → pick t 0 (suc (place_of ks)) < suc n
            → (place_of ks < n → first_key (r ∷ rs) group (take n ks) ≡ maybe (first_key rs group (take (place_of ks) ks)) (Some r) Some)
            → maybe (pick t (Some r) o) (first_key (r ∷ rs) group (take n ks)) Some
            ≡ maybe (first_key rs group (take (pick t 0 (suc (place_of ks))) (k ∷ ks))) (Some r) Some
        go true h w = refl
        go false h w = rw (w (omega arith)) (or_later o (first_key rs group (take (place_of ks) ks)) (Some r))

    -- it has none of them
    pub no-better : (ks : List (List ℕ)) (n : ℕ) → n ≤ place_of ks → first_key (r ∷ rs) group (take n ks) ≡ first_key rs group (take n ks)
    unfolding first_key find_stripped first place_of
    no-better [] zero h = refl
    no-better [] (suc n) h = refl
    no-better (k ∷ ks) zero h = refl
    no-better (k ∷ ks) (suc n) h = go (same_title (Key group k) (stripped_title (title r))) h (λ j. no-better ks n j)
      where
        o : Option Row
        o = find_stripped rs (Key group k)

        go : (t : Bool) → suc n ≤ pick t 0 (suc (place_of ks)) → (n ≤ place_of ks → first_key (r ∷ rs) group (take n ks) ≡ first_key rs group (take n ks))
            → maybe (pick t (Some r) o) (first_key (r ∷ rs) group (take n ks)) Some ≡ maybe o (first_key rs group (take n ks)) Some
        go true h w = absurd (omega arith)
        go false h w = rw (w (omega arith))

-- ---- the keys of a locale

module _ (rs : List Row) (group key : List ℕ) where
  -- the row of a candidate, encodings apart
  abbrev at : List ℕ → Option Row
  at s = find_stripped rs (Key group (postfixed key s))

  pub chosen_plain : (s : List ℕ) → plain_locale s ≡ true → chosen rs group key s ≡ find_stripped rs (Key group key)
  unfolding chosen candidates
  chosen_plain s e = rw e (first_one rs group key)

  pub chosen-other : (s : List ℕ) → plain_locale s ≡ false → chosen rs group key s ≡ first_key rs group (all_keys key s)
  unfolding chosen candidates first_key
  chosen-other s e = rw e (by (lang_of s) (country_of s) (modifier_of s))
    where
      last : Option Row
      last = maybe (find_stripped rs (Key group key)) None Some

      by : (l c m : List ℕ)
          → first_key rs group (map (postfixed key) (pick (eqb (length c) 0) [] (only_with m (l ++ c ++ m)) ++ only_with c (l ++ c) ++ only_with m (l ++ m) ++ (l ∷ [])) ++ (key ∷ []))
          ≡ first_key rs group (map (postfixed key) ((l ++ c ++ m) ∷ (l ++ c) ∷ (l ++ m) ∷ l ∷ []) ++ (key ∷ []))
      by l [] [] = rw (append-nil l, append-nil l) (sym (twice (at l) (at l) last ∙ each-one (at l)))
        where
          each-one : (o : Option Row) → maybe o (maybe o last Some) Some ≡ maybe o last Some
          each-one None = refl
          each-one (Some a) = refl
      by l [] (b ∷ m) = rw (append-nil l) (sym (twice (at (l ++ (b ∷ m))) (at l) last))
      by l (b ∷ c) [] = rw (eqb-suc-zero (length c), append-nil (l ++ (b ∷ c)), append-nil l) (sym (each_twice (at (l ++ (b ∷ c))) (at l) last))
      by l (b ∷ c) (d ∷ m) = rw (eqb-suc-zero (length c))
