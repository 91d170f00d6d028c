-- What stands where in a buffer with x written over it. Assumes nothing.
use mathlib.Core.Path.{◌≡◌, refl, ap, ◌∙◌}
use mathlib.Core.List.{List, ◌++◌, append_assoc}
use Prim.Native.Nat.{ℕ, ◌+◌, ◌≤◌}
use native.Mathlib.Nat.{add_assoc}
use native.Mathlib.Omega.{arith}
use lib.ListN.{length, take, drop, length-append, length-drop}
use lib.Seq.{length-take-le, take_at, drop_at, drop-drop, take-append-le, take-take}
use Rattle.base.specs.Over.{over, at_front, WroteAt}
use Rattle.base.proofs.Tail.{lent, back, tail-lent, tail-back}

module _ (s : List ℕ) (at : ℕ) (x : List ℕ) (h : at + length x ≤ length s) where
  front : length (take at s ++ x) ≡ at + length x
  front = simp length-append (omega (arith, length-take-le at s (omega arith)))

  pub take-over : take (at + length x) (over s at x) ≡ take at s ++ x
  take-over = rw (← append_assoc (take at s) x (drop (at + length x) s)) (take_at (take at s ++ x) _ _ front)

  pub drop-over : drop (at + length x) (over s at x) ≡ drop (at + length x) s
  drop-over = rw (← append_assoc (take at s) x (drop (at + length x) s)) (drop_at (take at s ++ x) _ _ front)

  pub length_over : length (over s at x) ≡ length s
  length_over = simp (length-append, length-drop) (omega (arith, length-take-le at s (omega arith)))

-- ---- through a tail that was lent

-- x written at the front of the tail, and the tail back
pub over-tail : (s : List ℕ) (at : ℕ) (x : List ℕ) {y : List ℕ} → y ≡ at_front (lent at s) x → back at s y ≡ over s at x
over-tail s at x {y} e = tail-back at s y ∙ rw (e, tail-lent at s, drop-drop)

-- y written right behind x
pub over-then : (s : List ℕ) (at : ℕ) (x y : List ℕ) {n : ℕ} → n ≡ at + length x → at + length x ≤ length s → over (over s at x) n y ≡ over s at (x ++ y)
over-then s at x y e h =
    rw (
      e,
      take-over s at x h,
      ← drop-drop (length y) (at + length x) (over s at x),
      drop-over s at x h,
      drop-drop (length y) (at + length x) s,
      length-append x y,
      add_assoc at (length x) (length y),
    )
    (simp append_assoc)

-- x written right before y
pub over-before : (s : List ℕ) (at : ℕ) (x y : List ℕ) {n : ℕ} → n ≡ at + length x → n + length y ≤ length s → over (over s n y) at x ≡ over s at (x ++ y)
over-before s at x y {n} e h =
    let f : length (take at s) ≡ at = length-take-le at s (omega arith) in
    let g : length (take n s) ≡ n = length-take-le n s (omega arith) in
    let m : at + length (x ++ y) ≡ n + length y = rw length-append (omega arith) in
    rw (take-append-le at (take n s) (y ++ drop (n + length y) s) (omega arith), take-take at n s (omega arith), ← e, drop_at (take n s) (y ++ drop (n + length y) s) n g, m)
    (simp append_assoc)

-- x at the front of a tail that was lent
pub write-lent : (s : List ℕ) (at : ℕ) (x : List ℕ) {n : ℕ} {y : List ℕ} → n ≡ length x → y ≡ at_front (lent at s) x → WroteAt s at x (at + n) (back at s y)
write-lent s at x e f = record { ends = ap (λ (m : ℕ). at + m) e; is = over-tail s at x f }

-- x copied to the front of a tail that was lent
pub write-tail : (s x : List ℕ) (at : ℕ) {y : List ℕ} → y ≡ at_front (lent at s) x → WroteAt s at x (at + length x) (back at s y)
write-tail s x at e = write-lent s at x refl e
