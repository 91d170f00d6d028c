-- A scan of UTF-8 in progress: what is found from a place on, counted from the start. Assumes nothing.
use Rattle.std.specs.Prelude.{Option, Some, None, option_map}
use mathlib.Core.Path.{◌≡◌, refl, sym, ap, ◌∙◌}
use Prim.Native.Nat.{ℕ, suc, ◌+◌, ◌≤◌, ◌<◌}
use native.Mathlib.Omega.{arith}
use mathlib.Core.Bool.{Bool, true, false}
use mathlib.Core.List.{List, [], ◌∷◌}
use lib.ListN.{length, drop, get_or}
use lib.Dec.{leb}
use borrow.Author.Tests.{leb-true, lt-ltb}
use Rattle.base.specs.Choice.{pick, maybe}
use Rattle.base.specs.Lists.{span}
use Rattle.base.proofs.Scan.{here, done}
use Rattle.base.proofs.Tests.{and_both}
use Rattle.characters.specs.Class.{value_byte, text_byte, content_byte}
use Rattle.characters.specs.declared.Content.{Content}
use Rattle.characters.specs.declared.Content.TheVariants as content
use Rattle.characters.specs.Utf8.{step, text_fault}
use Rattle.characters.specs.declared.Due.{Due}
use Rattle.characters.specs.declared.Due.TheVariants.{Start, Tail}

-- a place counted from n on
abbrev pub moved : ℕ → Option ℕ → Option ℕ
moved n o = option_map (λ m. n + m) o

moved-suc : (n : ℕ) (o : Option ℕ) → moved n (option_map suc o) ≡ moved (n + 1) o
moved-suc n None = refl
moved-suc n (Some m) = ap Some (omega arith)

-- one byte more, whatever is due
pub fault-cons : (plain : ℕ → Bool) (due : Due) (b : ℕ) (bs : List ℕ)
    → text_fault plain due (b ∷ bs) ≡ maybe (step plain due b) (Some 0) (λ next. option_map suc (text_fault plain next bs))
unfolding text_fault
fault-cons plain Start b bs = refl
fault-cons plain (Tail more low high) b bs = refl

module _ (plain : ℕ → Bool) (s : List ℕ) (i : ℕ) where
  pub fault-goes : (due : Due) {next : Due} → i < length s → step plain due (get_or s i 0) ≡ Some next
      → moved i (text_fault plain due (drop i s)) ≡ moved (i + 1) (text_fault plain next (drop (i + 1) s))
  fault-goes due {next} h e = rw (here s i h, fault-cons plain due (get_or s i 0) (drop (i + 1) s), e) (moved-suc i (text_fault plain next (drop (i + 1) s)))

  pub fault-stops : (due : Due) → i < length s → step plain due (get_or s i 0) ≡ None → moved i (text_fault plain due (drop i s)) ≡ Some i
  fault-stops due h e = rw (here s i h, fault-cons plain due (get_or s i 0) (drop (i + 1) s), e) (ap Some (omega arith))

  pub fault-none : length s ≤ i → moved i (text_fault plain Start (drop i s)) ≡ None
  unfolding text_fault
  fault-none h = rw (done s i h)

  pub fault-unfinished : (more low high : ℕ) → length s ≤ i → moved i (text_fault plain (Tail more low high) (drop i s)) ≡ Some i
  unfolding text_fault
  fault-unfinished more low high h = rw (done s i h) (ap Some (omega arith))

pub moved-start : (o : Option ℕ) → moved 0 o ≡ o
moved-start None = refl
moved-start (Some m) = ap Some (omega arith)

-- ---- bounds

-- a fault's place lies inside, or at the end
abbrev pub FaultWithin : ℕ → Option ℕ → Type 0
FaultWithin n None = Unit
FaultWithin n (Some m) = m ≤ n

pub fault-within : (plain : ℕ → Bool) (due : Due) (s : List ℕ) → FaultWithin (length s) (text_fault plain due s)
unfolding text_fault
fault-within plain Start [] = tt
fault-within plain (Tail more low high) [] = omega arith
fault-within plain due (b ∷ bs) = rw (fault-cons plain due b bs) (go (step plain due b) (λ next. fault-within plain next bs))
  where
    one_more : (o : Option ℕ) → FaultWithin (length bs) o → FaultWithin (suc (length bs)) (option_map suc o)
    one_more None h = tt
    one_more (Some m) h = omega arith

    go : (o : Option Due) → ((next : Due) → FaultWithin (length bs) (text_fault plain next bs))
        → FaultWithin (suc (length bs)) (maybe o (Some 0) (λ next. option_map suc (text_fault plain next bs)))
    go None h = omega arith
    go (Some next) h = one_more (text_fault plain next bs) (h next)

-- ---- ASCII bytes at the front that are passed at once

-- an ASCII byte that may stand is a character
pub step-plain : (plain : ℕ → Bool) (b : ℕ) → value_byte b ≡ true → plain b ≡ true → step plain Start b ≡ Some Start
unfolding step value_byte
step-plain plain b v p =
    let w = and_both (leb 32 b) (leb b 126) v in
    let l = leb-true b 126 w.1 in
    rw (lt-ltb b 128 (omega arith), p)

moved_more : (n : ℕ) (o : Option ℕ) → moved (suc n) o ≡ option_map suc (moved n o)
moved_more n None = refl
moved_more n (Some m) = ap Some (omega arith)

fault-skip : (plain : ℕ → Bool) → ((b : ℕ) → value_byte b ≡ true → plain b ≡ true) → (s : List ℕ)
    → moved (span value_byte s) (text_fault plain Start (drop (span value_byte s) s)) ≡ text_fault plain Start s
unfolding span
fault-skip plain h [] = moved-start (text_fault plain Start [])
fault-skip plain h (b ∷ s) = go (value_byte b) refl (fault-skip plain h s)
  where
    go : (t : Bool) → value_byte b ≡ t → moved (span value_byte s) (text_fault plain Start (drop (span value_byte s) s)) ≡ text_fault plain Start s
        → moved (pick t (suc (span value_byte s)) 0) (text_fault plain Start (drop (pick t (suc (span value_byte s)) 0) (b ∷ s))) ≡ text_fault plain Start (b ∷ s)
    go true v ih =
        moved_more (span value_byte s) (text_fault plain Start (drop (span value_byte s) s)) ∙ ap (option_map suc) ih
        ∙ sym (fault-cons plain Start b s ∙ ap (λ (o : Option Due). maybe o (Some 0) (λ next. option_map suc (text_fault plain next s))) (step-plain plain b v (h b v)))
    go false v ih = moved-start (text_fault plain Start (b ∷ s))

-- a value's bytes stand in either content
pub value-stands : (k : Content) (b : ℕ) → value_byte b ≡ true → content_byte k b ≡ true
unfolding text_byte
value-stands content.Value b v = v
value-stands content.Text b v = rw v

-- a byte of a value is a character by itself
pub value-step : (k : Content) (b : ℕ) → value_byte b ≡ true → step (content_byte k) Start b ≡ Some Start
value-step k b v = step-plain (content_byte k) b v (value-stands k b v)

-- those at the front are passed at once
pub skip-fault : (k : Content) (s : List ℕ) → moved (span value_byte s) (text_fault (content_byte k) Start (drop (span value_byte s) s)) ≡ text_fault (content_byte k) Start s
skip-fault k s = fault-skip (content_byte k) (value-stands k) s
