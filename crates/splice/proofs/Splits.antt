-- An edit whose old bytes stand between two parts of a file: it can be made, and taken back. Assumes nothing.
use mathlib.Core.Path.{◌≡◌, refl, sym, ap, ◌∙◌}
use Prim.Native.Nat.{ℕ, ◌+◌, ◌-◌, ◌≤◌, max}
use native.Mathlib.Omega.{arith}
use mathlib.Core.Bool.{true}
use mathlib.Core.List.{List, ◌++◌, append_assoc}
use lib.ListN.{length, take, drop, replicate, length-append, length-drop, length-replicate}
use lib.Seq.{take_at, drop_at, take-append_seam}
use borrow.Author.Tests.{le-leb}
use Rattle.base.proofs.Tests.{same_refl}
use Rattle.splice.specs.Edit.{Edit, spliced, turned, stands, buffer_with, replaced, stands_at}

pub record Splits (e : Edit) (f : List ℕ) : Type 0 where
  pub front : List ℕ
  pub back : List ℕ
  pub at : length front ≡ e.place
  pub is : f ≡ front ++ (e.old ++ back)

module _ (e : Edit) (f : List ℕ) (h : Splits e f) where
  -- the edit puts the new bytes between the same parts
  pub splits-spliced : spliced e f ≡ h.front ++ (e.new ++ h.back)
  unfolding spliced replaced
  splits-spliced =
      let l : length (h.front ++ e.old) ≡ e.place + length e.old = length-append h.front e.old ∙ ap (λ (n : ℕ). n + length e.old) h.at in
      ap (λ (s : List ℕ). take e.place s ++ (e.new ++ drop (e.place + length e.old) s)) h.is
      ∙ rw (take_at h.front (e.old ++ h.back) e.place h.at, ← append_assoc h.front e.old h.back, drop_at (h.front ++ e.old) h.back (e.place + length e.old) l)

  -- so it can be taken back
  unfoldable pub splits-turned : Splits (turned e) (spliced e f)
  splits-turned = record { front = h.front; back = h.back; at = h.at; is = splits-spliced }

  -- its old bytes stand at the place
  pub splits-old : take (length e.old) (drop e.place f) ≡ e.old
  splits-old =
      ap (λ (s : List ℕ). take (length e.old) (drop e.place s)) h.is
      ∙ rw (drop_at h.front (e.old ++ h.back) e.place h.at) (take_at e.old h.back (length e.old) refl)

  -- lengths
  pub splits-length : length f ≡ e.place + length e.old + length h.back
  splits-length = ap length h.is ∙ length-append h.front (e.old ++ h.back) ∙ rw (h.at, length-append e.old h.back) (omega arith)

  pub splits-stands : stands e f ≡ true
  unfolding stands stands_at
  splits-stands =
      let l = splits-length in
      let n : e.place + length e.old - e.place ≡ length e.old = omega arith in
      rw (n, splits-old, same_refl e.old, le-leb (e.place + length e.old) (length f) (omega arith))

-- an edit and its reverse give the file again
pub splits-back : (e : Edit) (f : List ℕ) → Splits e f → spliced (turned e) (spliced e f) ≡ f
unfolding splits-turned
splits-back e f h = splits-spliced (turned e) (spliced e f) (splits-turned e f h) ∙ sym h.is

-- so many bytes more or less are left
pub splits-lengths : (e : Edit) (f : List ℕ) → Splits e f → length (spliced e f) + length e.old ≡ length f + length e.new
unfolding splits-turned
splits-lengths e f h =
    let a = splits-length e f h in
    let b = splits-length (turned e) (spliced e f) (splits-turned e f h) in
    omega arith

-- ---- the buffer after an edit

-- it holds the new file at its front
pub buffer-content : (buffer : List ℕ) (n : ℕ) (f : List ℕ) → take (length f) (buffer_with buffer n f) ≡ f
unfolding buffer_with
buffer-content buffer n f = take-append_seam f (replicate (n - length f) 0 ++ drop (max n (length f)) buffer)

filled : (n m l : ℕ) → n ≤ l → m ≤ l → m + (n - m + (l - max n m)) ≡ l
filled n m l h k = omega arith

-- it is as long as it was
pub buffer-length : (buffer : List ℕ) (n : ℕ) (f : List ℕ) → n ≤ length buffer → length f ≤ length buffer → length (buffer_with buffer n f) ≡ length buffer
unfolding buffer_with
buffer-length buffer n f h k = simp (length-append, length-replicate, length-drop) (filled n (length f) (length buffer) h k)
