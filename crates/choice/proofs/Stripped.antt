-- Keys whose postfix has lost its encoding: the plain key is the same, and a plain key is found as a whole key is. Assumes nothing.
use mathlib.Core.Path.{◌≡◌, refl, sym, ap, ◌∙◌}
use Prim.Native.Nat.{ℕ, zero, suc, ◌+◌, ◌-◌}
use native.Mathlib.Numerals.{add-one}
use native.Mathlib.Omega.{arith}
use mathlib.Core.Bool.{Bool, true, ◌&&◌}
use mathlib.Core.List.{List, [], ◌∷◌, ◌++◌, append-nil}
use lib.Seq.{take_at, take-add}
use lib.ListN.{length, take, drop, take-append-drop}
use Rattle.base.specs.Lists.{same, span, all, first}
use Rattle.base.proofs.Tests.{and_both}
use Rattle.characters.specs.Class.{key_byte}
use Rattle.line.specs.Locale.{part_length, parts}
use Rattle.rows.specs.Rows.{Row}
use Rattle.rows.specs.Title.{Title, Nameless, Group, Key, title, same_title, find_row}
use Rattle.choice.specs.Locale.{stripped, stripped_key, stripped_title, find_stripped}
use Rattle.choice.proofs.Cut.{Stops, front-keys, rest-stops, cut-same}

-- ---- the plain key and what follows it

-- what follows, its encoding lost
abbrev pub behind : List ℕ → List ℕ
behind [] = []
behind (b ∷ s) = b ∷ stripped s

pub behind-stops : (s : List ℕ) → Stops s → Stops (behind s)
behind-stops [] h = tt
behind-stops (b ∷ s) h = h

pub stripped-cut : (k : List ℕ) → stripped_key k ≡ take (span key_byte k) k ++ behind (drop (span key_byte k) k)
unfolding stripped_key
stripped-cut k = rw (add-one (span key_byte k)) (at (span key_byte k) k)
  where
    none : stripped [] ≡ []
    none = unfold stripped parts part_length span in refl

    at : (n : ℕ) (k : List ℕ) → take (suc n) k ++ stripped (drop (suc n) k) ≡ take n k ++ behind (drop n k)
    at zero [] = none
    at zero (b ∷ k) = refl
    at (suc n) [] = none
    at (suc n) (b ∷ k) = ap (λ (s : List ℕ). b ∷ s) (at n k)

-- the plain key is the same
pub span-cut : (x r : List ℕ) → all key_byte x ≡ true → Stops r → span key_byte (x ++ r) ≡ length x
unfolding span all
span-cut [] [] e h = refl
span-cut [] (b ∷ r) e h = rw h
span-cut (b ∷ x) r e h = let w = and_both (key_byte b) (all key_byte x) e in rw (w.0, span-cut x r w.1 h)

pub stripped-plain : (k : List ℕ) → take (span key_byte (stripped_key k)) (stripped_key k) ≡ take (span key_byte k) k
stripped-plain k =
    let x : List ℕ = take (span key_byte k) k in
    let r : List ℕ = behind (drop (span key_byte k) k) in
    rw (stripped-cut k, span-cut x r (front-keys k) (behind-stops (drop (span key_byte k) k) (rest-stops k))) (take_at x r (length x) refl)

-- ---- a key without encoding stays

-- the length of its encoding with the mark
abbrev pub encoding_of : List ℕ → ℕ
encoding_of k = (parts (drop (span key_byte k + 1) k)).encoding

pub stripped-same : (k : List ℕ) → encoding_of k ≡ 0 → stripped_key k ≡ k
unfolding stripped_key stripped
stripped-same k e =
    let n : ℕ = span key_byte k + 1 in
    let y : List ℕ = drop n k in
    let l : ℕ = (parts y).lang in
    let c : ℕ = (parts y).country in
    let z : l + c - l ≡ c = omega arith in
    let w : l + c + (parts y).encoding ≡ l + c = omega arith in
    rw (w, z, ← take-add l c y, take-append-drop (l + c) y) (take-append-drop n k)

-- ---- a plain key is found as a whole key is

module _ (key : List ℕ) (plain : all key_byte key ≡ true) where
  none-behind : (s : List ℕ) → same [] (behind s) ≡ same [] s
  unfolding same
  none-behind [] = refl
  none-behind (b ∷ s) = refl

  same-stripped : (k : List ℕ) → same key (stripped_key k) ≡ same key k
  same-stripped k =
      let x : List ℕ = take (span key_byte k) k in
      let r : List ℕ = drop (span key_byte k) k in
      let a : same (key ++ []) (x ++ behind r) ≡ (same key x && same [] (behind r)) = cut-same key x [] (behind r) plain (front-keys k) tt (behind-stops r (rest-stops k)) in
      let b : same (key ++ []) (x ++ r) ≡ (same key x && same [] r) = cut-same key x [] r plain (front-keys k) tt (rest-stops k) in
      let c : same (key ++ []) (x ++ behind r) ≡ same (key ++ []) (x ++ r) = a ∙ ap (λ (t : Bool). same key x && t) (none-behind r) ∙ sym b in
      rw (stripped-cut k) (rw (append-nil key, take-append-drop (span key_byte k) k) at c)

  title-stripped : (g : List ℕ) (t : Title) → same_title (Key g key) (stripped_title t) ≡ same_title (Key g key) t
  unfolding same_title
  title-stripped g Nameless = refl
  title-stripped g (Group h) = refl
  title-stripped g (Key h k) = ap (λ (b : Bool). same g h && b) (same-stripped k)

  pub plain-found : (rs : List Row) (g : List ℕ) → find_stripped rs (Key g key) ≡ find_row rs (Key g key)
  unfolding find_stripped find_row
  plain-found rs g = λ i. first (λ r. title-stripped g (title r) i) rs
