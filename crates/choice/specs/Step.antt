-- What the inner functions of this crate answer, by the definitions of a locale's choice. Assumes nothing.
use Rattle.std.specs.Prelude.{ℕ, suc, ◌+◌, ◌≡◌, List, [], ◌∷◌, ◌++◌, map, length, take, eqb, Result, Ok, Err}
use Prim.Native.Char.{code}
use Rattle.base.specs.Choice.{pick}
use Rattle.base.specs.Lists.{same}
use Rattle.line.specs.Locale.{parts, locale_end}
use Rattle.line.specs.Name.{byte_at}
use Rattle.line.specs.declared.Name.{Name}
use Rattle.choice.specs.Locale.{lang_of, country_of, modifier_of, postfixed, stripped_key}

-- the candidates of a locale that is not plain, the best first; where the locale lacks a part, some stand twice
abbrev pub all_candidates : List ℕ → List (List ℕ)
all_candidates s =
    let l : List ℕ = lang_of s in
    let c : List ℕ = country_of s in
    let m : List ℕ = modifier_of s in
    (l ++ c ++ m) ∷ (l ++ c) ∷ (l ++ m) ∷ l ∷ []

-- the five keys that such a locale asks for, last the plain key
abbrev pub all_keys : List ℕ → List ℕ → List (List ℕ)
all_keys key locale = map (postfixed key) (all_candidates locale) ++ (key ∷ [])

-- the place of the first of some keys that is this one; their number if none is
unfoldable pub rank_in : List (List ℕ) → List ℕ → ℕ
rank_in [] x = 0
rank_in (k ∷ ks) x = let more : ℕ = suc (rank_in ks x) in pick (same k x) 0 more

-- that of the key that a line names, encodings apart
abbrev pub rank_of : List (List ℕ) → List ℕ → Result Name ℕ → ℕ
rank_of ks line (Ok n) = rank_in ks (stripped_key (take n.name line))
rank_of ks line (Err n) = length ks

-- how a part serves where one is asked for: 0 it is the same, 1 there is none, 4 it is another
unfoldable pub rank_part : List ℕ → List ℕ → ℕ
rank_part asked has = pick (same asked has) 0 (pick (eqb (length has) 0) 1 4)

-- a locale and the `]` that closes a postfix
pub record Closed (s : List ℕ) : Type 0 where
  pub ends : length s ≡ locale_end (parts s) + 1
  pub bracket : byte_at s (locale_end (parts s)) ≡ code "]"
