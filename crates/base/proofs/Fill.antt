-- An output that is written from its start on: what stands, what is still to write, and what was there. Assumes nothing.
use mathlib.Core.Path.{◌≡◌, refl, sym, ap, ◌∙◌}
use mathlib.Core.List.{List, [], ◌∷◌, ◌++◌, append_assoc, append-nil}
use Prim.Native.Nat.{ℕ, ◌+◌, ◌≤◌, ◌<◌}
use native.Mathlib.Numerals.{add-one}
use native.Mathlib.Omega.{arith}
use lib.ListN.{length, take, drop, set, length-append, length-set, take-append-drop}
use lib.Seq.{length-take-le, take-suc-set, drop-set-lt, drop-drop}
use Rattle.base.specs.Over.{over, at_front}
use Rattle.base.proofs.Over.{take-over, drop-over, length_over}

-- the first n bytes of out and then rest are the whole; behind them out is as it was
pub record Fill (out₀ whole out : List ℕ) (n : ℕ) (rest : List ℕ) : Type 0 where
  pub inside : n ≤ length out
  pub long : length out ≡ length out₀
  pub kept : drop n out ≡ drop n out₀
  pub goes : take n out ++ rest ≡ whole

pub fill_start : (out whole : List ℕ) → Fill out whole out 0 whole
fill_start out whole = record { inside = omega arith; long = refl; kept = refl; goes = refl }

module _ {out₀ whole out : List ℕ} {n : ℕ} {rest : List ℕ} (w : Fill out₀ whole out n rest) where
  -- what is written and what is left are as long as the whole
  pub fill-length : n + length rest ≡ length whole
  fill-length = omega (arith, length-append (take n out) rest, ap length w.goes, length-take-le n out w.inside)

  -- the same output, where what is left has another form
  pub fill-as : {left : List ℕ} → rest ≡ left → Fill out₀ whole out n left
  fill-as e = record { inside = w.inside; long = w.long; kept = w.kept; goes = rw (← e) w.goes }

-- one more part is written
pub fill-over : {out₀ whole out : List ℕ} {n : ℕ} (x rest : List ℕ) → Fill out₀ whole out n (x ++ rest) → length whole ≤ length out₀
    → Fill out₀ whole (over out n x) (n + length x) rest
fill-over {out₀} {whole} {out} {n} x rest w h =
    let l = fill-length w in
    let a = length-append x rest in
    let f : n + length x ≤ length out = omega (arith, w.long) in
    record {
      inside = omega (arith, length_over out n x f);
      long = length_over out n x f ∙ w.long;
      kept = drop-over out n x f ∙ sym (drop-drop (length x) n out) ∙ ap (drop (length x)) w.kept ∙ drop-drop (length x) n out₀;
      goes = rw (take-over out n x f, append_assoc) w.goes;
    }

-- one more byte is written
pub fill-byte : {out₀ whole out : List ℕ} {n b : ℕ} {rest : List ℕ} → Fill out₀ whole out n (b ∷ rest) → length whole ≤ length out₀
    → Fill out₀ whole (set out n b) (n + 1) rest
fill-byte {out₀} {whole} {out} {n} {b} {rest} w h =
    let l = fill-length w in
    let f : n < length out = omega (arith, w.long) in
    record {
      inside = simp length-set (omega arith);
      long = length-set out n b ∙ w.long;
      kept = drop-set-lt (n + 1) out n b (omega arith) ∙ sym (drop-drop 1 n out) ∙ ap (drop 1) w.kept ∙ drop-drop 1 n out₀;
      goes = rw (add-one, take-suc-set out n b f, append_assoc) w.goes;
    }

-- all is written
pub fill_end : {out₀ whole out : List ℕ} {n : ℕ} → Fill out₀ whole out n [] → (n ≡ length whole) × (out ≡ at_front out₀ whole)
fill_end {out₀} {whole} {out} {n} w =
    let l = fill-length w in
    let e : n ≡ length whole = omega arith in
    let t : take n out ≡ whole = sym (append-nil (take n out)) ∙ w.goes in
    (e, sym (take-append-drop n out) ∙ rw (t, w.kept, e))
