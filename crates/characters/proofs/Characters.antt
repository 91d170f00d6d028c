-- UTF-8 a character at a time. Assumes nothing.
use Rattle.std.specs.Prelude.{Option, Some, None, Result, Ok, Err}
use mathlib.Core.Path.{◌≡◌, refl, ◌∙◌}
use Prim.Native.Nat.{ℕ, zero, suc, ◌+◌, ◌-◌, ◌≤◌, ◌<◌}
use native.Mathlib.Omega.{arith}
use mathlib.Core.Bool.{Bool, true, false}
use mathlib.Core.List.{List}
use lib.ListN.{length, drop, get_or}
use lib.Dec.{ltb}
use borrow.Author.Tests.{ltb-true, ltb-false, lt-ltb, le-ltb}
use Rattle.base.specs.Choice.{pick}
use Rattle.base.proofs.Tests.{by-test}
use Rattle.characters.specs.Class.{within}
use Rattle.characters.specs.Utf8.{lead, tails, step, text_fault}
use Rattle.characters.specs.Step.{tail_at, rest_at, begun_at, character_at}
use Rattle.characters.specs.declared.Due.{Due}
use Rattle.characters.specs.declared.Due.TheVariants.{Start, Tail}
use Rattle.characters.proofs.Utf8Laws.{moved, fault-goes, fault-stops, fault-unfinished}

-- what a character's end says of the text from its place on
abbrev pub goes_on : (ℕ → Bool) → List ℕ → Result ℕ ℕ → Option ℕ
goes_on plain s (Ok j) = moved j (text_fault plain Start (drop j s))
goes_on plain s (Err j) = Some j

-- it ends inside, behind its place
abbrev pub EndsIn : ℕ → ℕ → Result ℕ ℕ → Type 0
EndsIn i n (Ok j) = (i < j) × (j ≤ n)
EndsIn i n (Err j) = j ≤ n

pub tail_step : (plain : ℕ → Bool) (more low high b : ℕ) → within low high b ≡ true → step plain (Tail more low high) b ≡ Some (tails more)
unfolding step
tail_step plain more low high b e = rw e

tail-stop : (plain : ℕ → Bool) (more low high b : ℕ) → within low high b ≡ false → step plain (Tail more low high) b ≡ None
unfolding step
tail-stop plain more low high b e = rw e

-- one tail byte, whatever comes after it
tail-goes : (plain : ℕ → Bool) (s : List ℕ) (i more low high : ℕ) (after : Result ℕ ℕ)
    → moved (i + 1) (text_fault plain (tails more) (drop (i + 1) s)) ≡ goes_on plain s after
    → moved i (text_fault plain (Tail more low high) (drop i s)) ≡ goes_on plain s (tail_at s i low high after)
tail-goes plain s i more low high after h =
    by-test (ltb i (length s))
    (λ l. rw l (here (ltb-true i (length s) l) (within low high (get_or s i 0)) refl))
    (λ f. rw f (let z = ltb-false i (length s) f in fault-unfinished plain s i more low high z))
  where
    here : i < length s → (t : Bool) → within low high (get_or s i 0) ≡ t → moved i (text_fault plain (Tail more low high) (drop i s)) ≡ goes_on plain s (pick t after (Err i))
    here l true e = fault-goes plain s i (Tail more low high) {next = tails more} l (tail_step plain more low high (get_or s i 0) e) ∙ h
    here l false e = fault-stops plain s i (Tail more low high) l (tail-stop plain more low high (get_or s i 0) e)

rest_goes : (plain : ℕ → Bool) (s : List ℕ) (more i low high : ℕ) → moved i (text_fault plain (Tail more low high) (drop i s)) ≡ goes_on plain s (rest_at s i more low high)
unfolding rest_at
rest_goes plain s zero i low high = tail-goes plain s i 0 low high (Ok (i + 1)) refl
rest_goes plain s (suc more) i low high = tail-goes plain s i (suc more) low high (rest_at s (i + 1) more 128 191) (rest_goes plain s more (i + 1) 128 191)

tail-ends : (s : List ℕ) (i low high : ℕ) (after : Result ℕ ℕ) → i ≤ length s → (i < length s → EndsIn i (length s) after) → EndsIn i (length s) (tail_at s i low high after)
tail-ends s i low high after h k =
    by-test (ltb i (length s)) (λ l. rw l (here (ltb-true i (length s) l) (within low high (get_or s i 0)))) (λ f. rw f h)
  where
    here : i < length s → (t : Bool) → EndsIn i (length s) (pick t after (Err i))
    here l true = k l
    here l false = h

weaker : (i n : ℕ) (r : Result ℕ ℕ) → EndsIn (i + 1) n r → EndsIn i n r
weaker i n (Ok j) h = (omega (arith, h.0), h.1)
weaker i n (Err j) h = h

rest-ends : (s : List ℕ) (more i low high : ℕ) → i ≤ length s → EndsIn i (length s) (rest_at s i more low high)
unfolding rest_at
rest-ends s zero i low high h = tail-ends s i low high (Ok (i + 1)) h (λ l. (omega arith, omega arith))
rest-ends s (suc more) i low high h =
    tail-ends s i low high (rest_at s (i + 1) more 128 191) h (λ l. weaker i (length s) (rest_at s (i + 1) more 128 191) (rest-ends s more (i + 1) 128 191 (omega arith)))

-- ---- a whole character

pub lead-step : (plain : ℕ → Bool) (b : ℕ) → 128 ≤ b → step plain Start b ≡ lead b
unfolding step
lead-step plain b h = rw (le-ltb b 128 h)

module _ (s : List ℕ) (i : ℕ) (h : i < length s) where
  pub character-goes : (plain : ℕ → Bool) → 128 ≤ get_or s i 0 → moved i (text_fault plain Start (drop i s)) ≡ goes_on plain s (character_at s i)
  unfolding character_at
  character-goes plain b = by (lead (get_or s i 0)) (lead-step plain (get_or s i 0) b)
    where
      by : (o : Option Due) → step plain Start (get_or s i 0) ≡ o → moved i (text_fault plain Start (drop i s)) ≡ goes_on plain s (begun_at s i o)
      by None e = fault-stops plain s i Start h e
      by (Some Start) e = fault-goes plain s i Start h e
      by (Some (Tail more low high)) e = fault-goes plain s i Start h e ∙ rest_goes plain s more (i + 1) low high

  pub character-ends : EndsIn i (length s) (character_at s i)
  unfolding character_at
  character-ends = by (lead (get_or s i 0))
    where
      by : (o : Option Due) → EndsIn i (length s) (begun_at s i o)
      by None = omega arith
      by (Some Start) = (omega arith, omega arith)
      by (Some (Tail more low high)) = weaker i (length s) (rest_at s (i + 1) more low high) (rest-ends s more (i + 1) low high (omega arith))

-- an ASCII byte
pub ascii-step : (plain : ℕ → Bool) (b : ℕ) → b < 128 → plain b ≡ true → step plain Start b ≡ Some Start
unfolding step
ascii-step plain b h e = rw (lt-ltb b 128 h, e)

pub ascii-stop : (plain : ℕ → Bool) (b : ℕ) → b < 128 → plain b ≡ false → step plain Start b ≡ None
unfolding step
ascii-stop plain b h e = rw (lt-ltb b 128 h, e)

-- ---- the rest of a character in progress

module _ (s : List ℕ) (i m lo hi : ℕ) where
  pub rest-none : length s ≤ i → rest_at s i m lo hi ≡ Err i
  unfolding rest_at
  rest-none h = by m
    where
      by : (m : ℕ) → rest_at s i m lo hi ≡ Err i
      by zero = rw (le-ltb i (length s) h)
      by (suc m) = rw (le-ltb i (length s) h)

  module _ (h : i < length s) where
    pub rest-stops : within lo hi (get_or s i 0) ≡ false → rest_at s i m lo hi ≡ Err i
    unfolding rest_at
    rest-stops e = by m
      where
        by : (m : ℕ) → rest_at s i m lo hi ≡ Err i
        by zero = rw (lt-ltb i (length s) h, e)
        by (suc m) = rw (lt-ltb i (length s) h, e)

    module _ (e : within lo hi (get_or s i 0) ≡ true) where
      pub rest-last : m ≡ 0 → rest_at s i m lo hi ≡ Ok (i + 1)
      unfolding rest_at
      rest-last z = rw (z, lt-ltb i (length s) h, e)

      pub rest_more : (m ≡ 0 → ⊥) → rest_at s i m lo hi ≡ rest_at s (i + 1) (m - 1) 128 191
      unfolding rest_at
      rest_more z = by m z
        where
          by : (m : ℕ) → (m ≡ 0 → ⊥) → rest_at s i m lo hi ≡ rest_at s (i + 1) (m - 1) 128 191
          by zero z = absurd (z refl)
          by (suc m) z = let k : suc m - 1 ≡ m = omega arith in rw (k, lt-ltb i (length s) h, e)
