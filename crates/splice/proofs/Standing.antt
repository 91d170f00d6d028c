-- Bytes at a place of a file: what is left of the file from there on begins with them. Assumes nothing.
use mathlib.Core.Path.{◌≡◌, ap}
use mathlib.Core.Bool.{false}
use mathlib.Core.List.{List}
use Prim.Native.Nat.{ℕ, ◌+◌, ◌-◌, ◌≤◌, ◌<◌}
use native.Mathlib.Omega.{arith}
use borrow.Author.Tests.{leb-false, lt-leb}
use lib.Dec.{eqb, leb}
use lib.ListN.{length, take, drop, length-take, length-drop}
use lib.Pointwise.{pointwise}
use Rattle.base.specs.Lists.{same}
use Rattle.base.proofs.Tail.{lent, tail-lent}
use Rattle.base.proofs.Tests.{by-test, same_true, same-sym, pointwise_same}
use Rattle.splice.specs.Edit.{stands_at}

-- not all inside the file
pub stands-outside : (file : List ℕ) (place : ℕ) (old : List ℕ) → length file < place + length old → false ≡ stands_at place old file
unfolding stands_at
stands-outside file place old h = rw (lt-leb _ _ h)

-- bytes that are longer do not stand at the front
longer : (old rest : List ℕ) → length rest < length old → same old (take (length old) rest) ≡ false
longer old rest h =
    by-test (same old (take (length old) rest))
    (λ t. absurd (omega (arith, ap length (same_true old (take (length old) rest) t), length-take (length old) rest)))
    (λ f. f)

-- what is left from the place on begins with the old bytes
pub stands-begins : (file : List ℕ) (place : ℕ) (old : List ℕ) → place ≤ length file → pointwise eqb old (take (length old) (lent place file)) ≡ stands_at place old file
unfolding stands_at
stands-begins file place old h =
    let rest : List ℕ = drop place file in
    let n : place + length old - place ≡ length old = omega arith in
    rw (tail-lent place file, pointwise_same, n)
    (by-test (leb (place + length old) (length file))
    (λ t. rw t (same-sym old (take (length old) rest)))
    (λ f. rw f (longer old rest (simp length-drop (omega (arith, leb-false _ _ f))))))
