-- UTF-8 with another ending: what follows a fault's byte changes nothing, and before a fault some ending makes a text. Assumes nothing.
use Rattle.std.specs.Prelude.{Option, Some, None, option_map}
use mathlib.Core.Path.{◌≡◌, refl}
use Prim.Native.Nat.{ℕ, zero, suc, ◌≤◌, ◌<◌}
use native.Mathlib.Omega.{arith}
use mathlib.Core.Bool.{Bool, true, false}
use mathlib.Core.List.{List, [], ◌∷◌, ◌++◌}
use lib.ListN.{length, replicate}
use lib.Dec.{eqb, ltb}
use borrow.Author.Tests.{le-leb}
use Rattle.base.specs.Choice.{pick, maybe}
use Rattle.base.specs.Lists.{all}
use Rattle.base.proofs.Tests.{no}
use Rattle.characters.specs.Class.{within}
use Rattle.characters.specs.Utf8.{lead, tails, step, text_fault}
use Rattle.characters.specs.declared.Due.{Due}
use Rattle.characters.specs.declared.Due.TheVariants.{Start, Tail}
use Rattle.characters.proofs.Utf8Laws.{fault-cons}

-- ---- after the fault

pub fault-inside : (plain : ℕ → Bool) (due : Due) (p v w : List ℕ) (n : ℕ) → text_fault plain due (p ++ v) ≡ Some n → n < length p → text_fault plain due (p ++ w) ≡ Some n
fault-inside plain due [] v w n e h = absurd (omega arith)
fault-inside plain due (b ∷ p) v w n e h =
    rw (fault-cons plain due b (p ++ w)) (go (step plain due b) (rw (fault-cons plain due b (p ++ v)) at e) (λ next m. fault-inside plain next p v w m))
  where
    one : (next : Due) (o : Option ℕ) → text_fault plain next (p ++ v) ≡ o → option_map suc o ≡ Some n
        → ((m : ℕ) → text_fault plain next (p ++ v) ≡ Some m → m < length p → text_fault plain next (p ++ w) ≡ Some m)
        → option_map suc (text_fault plain next (p ++ w)) ≡ Some n
    one next None i e r = no (cc)
    one next (Some m) i e r = let j : suc m ≡ n = cc in rw (r m i (omega arith)) e

    go : (o : Option Due) → maybe o (Some 0) (λ next. option_map suc (text_fault plain next (p ++ v))) ≡ Some n
        → ((next : Due) (m : ℕ) → text_fault plain next (p ++ v) ≡ Some m → m < length p → text_fault plain next (p ++ w) ≡ Some m)
        → maybe o (Some 0) (λ next. option_map suc (text_fault plain next (p ++ w))) ≡ Some n
    go None e r = e
    go (Some next) e r = one next (text_fault plain next (p ++ v)) refl e (r next)

-- ---- before the fault

-- a byte from 0x80 to 0xBF
abbrev pub tail_byte : ℕ → Bool
tail_byte b = within 0x80 0xbf b

-- the bytes that end the character that was begun
abbrev finish : Due → List ℕ
finish Start = []
finish (Tail more low high) = low ∷ replicate more 0x80

-- there are such bytes
abbrev pub Open : Due → Type 0
Open Start = Unit
Open (Tail more low high) = (0x80 ≤ low) × (low ≤ high) × (high ≤ 0xbf)

abbrev Opens : Option Due → Type 0
Opens None = Unit
Opens (Some due) = Open due

lead-opens : (b : ℕ) → Opens (lead b)
unfolding lead
lead-opens b = go (within 0xc2 0xdf b) (eqb b 0xe0) (eqb b 0xed) (within 0xe1 0xef b) (eqb b 0xf0) (within 0xf1 0xf3 b) (eqb b 0xf4)
  where
    go : (t₁ t₂ t₃ t₄ t₅ t₆ t₇ : Bool)
        → Opens
        (pick t₁ (Some (Tail 0 0x80 0xbf))
        (pick t₂ (Some (Tail 1 0xa0 0xbf))
        (pick t₃ (Some (Tail 1 0x80 0x9f))
        (pick t₄ (Some (Tail 1 0x80 0xbf))
        (pick t₅ (Some (Tail 2 0x90 0xbf))
        (pick t₆ (Some (Tail 2 0x80 0xbf))
        (pick t₇ (Some (Tail 2 0x80 0x8f)) None)))))))
    go true t₂ t₃ t₄ t₅ t₆ t₇ = (omega arith, omega arith, omega arith)
    go false true t₃ t₄ t₅ t₆ t₇ = (omega arith, omega arith, omega arith)
    go false false true t₄ t₅ t₆ t₇ = (omega arith, omega arith, omega arith)
    go false false false true t₅ t₆ t₇ = (omega arith, omega arith, omega arith)
    go false false false false true t₆ t₇ = (omega arith, omega arith, omega arith)
    go false false false false false true t₇ = (omega arith, omega arith, omega arith)
    go false false false false false false true = (omega arith, omega arith, omega arith)
    go false false false false false false false = tt

tails-open : (more : ℕ) → Open (tails more)
tails-open zero = tt
tails-open (suc n) = (omega arith, omega arith, omega arith)

step-opens : (plain : ℕ → Bool) (due : Due) (b : ℕ) → Opens (step plain due b)
unfolding step
step-opens plain Start b = go (ltb b 0x80) (plain b)
  where
    go : (t u : Bool) → Opens (pick t (pick u (Some Start) None) (lead b))
    go true true = tt
    go true false = tt
    go false u = lead-opens b
step-opens plain (Tail more low high) b = go (within low high b)
  where
    go : (t : Bool) → Opens (pick t (Some (tails more)) None)
    go true = tails-open more
    go false = tt

-- ---- an ending made of tail bytes

pub record TextEnding (plain : ℕ → Bool) (due : Due) (p : List ℕ) : Type 0 where
  pub ending : List ℕ
  pub bytes : all tail_byte ending ≡ true
  pub sound : text_fault plain due (p ++ ending) ≡ None

all-tails : (n : ℕ) → all tail_byte (replicate n 0x80) ≡ true
unfolding all
all-tails zero = refl
all-tails (suc n) = all-tails n

tails_end : (plain : ℕ → Bool) (n : ℕ) → text_fault plain (tails n) (replicate n 0x80) ≡ None
unfolding text_fault step
tails_end plain zero = refl
tails_end plain (suc n) = rw (tails_end plain n)

finish-end : (plain : ℕ → Bool) (due : Due) → Open due → TextEnding plain due []
unfolding text_fault step all
finish-end plain Start h = record { ending = []; bytes = refl; sound = refl }
finish-end plain (Tail more low high) h =
    record {
      ending = finish (Tail more low high);
      bytes = rw (le-leb 0x80 low h.0, le-leb low 0xbf (omega arith)) (all-tails more);
      sound = rw (le-leb low low (omega arith), le-leb low high h.1, tails_end plain more);
    }

pub text-ending : (plain : ℕ → Bool) (due : Due) (p v : List ℕ) → Open due → text_fault plain due (p ++ v) ≡ Some (length p) → TextEnding plain due p
text-ending plain due [] v h e = finish-end plain due h
text-ending plain due (b ∷ p) v h e = go (step plain due b) refl (step-opens plain due b) (rw (fault-cons plain due b (p ++ v)) at e) (λ next. text-ending plain next p v)
  where
    at : (o : Option ℕ) → option_map suc o ≡ Some (suc (length p)) → o ≡ Some (length p)
    at None e = no (cc)
    at (Some m) e = cc

    go : (o : Option Due) → step plain due b ≡ o → Opens o → maybe o (Some 0) (λ next. option_map suc (text_fault plain next (p ++ v))) ≡ Some (suc (length p))
        → ((next : Due) → Open next → text_fault plain next (p ++ v) ≡ Some (length p) → TextEnding plain next p) → TextEnding plain due (b ∷ p)
    go None i h e r = no (cc)
    go (Some next) i h e r =
        let t = r next h (at (text_fault plain next (p ++ v)) e) in
        record { ending = t.ending; bytes = t.bytes; sound = rw (fault-cons plain due b (p ++ t.ending), i, t.sound) }
