-- Room that is spent. Assumes nothing.
use Rattle.std.specs.Prelude.{Option, Some, None}
use mathlib.Core.Path.{◌≡◌, refl, ◌∙◌}
use Prim.Native.Nat.{ℕ, ◌+◌, ◌-◌, ◌≤◌, ◌<◌}
use native.Mathlib.Nat.{sub-zero}
use native.Mathlib.Omega.{arith}
use lib.Dec.{leb}
use borrow.Author.Tests.{le-leb, lt-leb, leb-true, leb-false}
use Rattle.base.proofs.Tests.{no, by-test}
use Rattle.text.specs.Step.{spend}

pub spend-zero : (l : Option ℕ) → spend l 0 ≡ l
unfolding spend
spend-zero (Some room) = rw (le-leb 0 room (omega arith), sub-zero room)
spend-zero None = refl

pub spend-enough : {room n : ℕ} → n ≤ room → spend (Some room) n ≡ Some (room - n)
unfolding spend
spend-enough {room} {n} h = rw (le-leb n room h)

pub spend-short : {room n : ℕ} → room < n → spend (Some room) n ≡ None
unfolding spend
spend-short {room} {n} h = rw (lt-leb n room h)

short-stays : (n : ℕ) → spend None n ≡ None
unfolding spend
short-stays n = refl

-- n bytes and then m
pub spend-add : (l : Option ℕ) (n m : ℕ) → spend (spend l n) m ≡ spend l (n + m)
spend-add None n m = rw (short-stays n, short-stays m, short-stays (n + m))
spend-add (Some room) n m =
    by-test (leb n room)
    (λ e. let h = leb-true n room e in
    rw (spend-enough h)
    (by-test (leb m (room - n))
    (λ f. let g = leb-true m (room - n) f in let k : room - n - m ≡ room - (n + m) = omega arith in rw (spend-enough g, spend-enough {room = room} {n = n + m} (omega arith), k))
    (λ f. let g = leb-false m (room - n) f in rw (spend-short g, spend-short {room = room} {n = n + m} (omega arith)))))
    (λ e. let h = leb-false n room e in rw (spend-short h, short-stays m, spend-short {room = room} {n = n + m} (omega arith)))

-- what is left tells what was spent
pub spend-told : {room n m : ℕ} → n ≤ room → Some m ≡ spend (Some room) n → (m ≤ room) × (room - m ≡ n)
spend-told {room} {n} {m} h e = let k = spend-enough h in let f : m ≡ room - n = cc in (omega arith, omega arith)

-- where it was enough, it was enough
pub spend-was : {room n m : ℕ} → Some m ≡ spend (Some room) n → n ≤ room
spend-was {room} {n} {m} e =
    by-test (leb n room)
    (λ f. leb-true n room f)
    (λ f. let z : Some m ≡ None = e ∙ spend-short (leb-false n room f) in no (cc))

-- where it was not, it was not
pub spend-lacks : {room n : ℕ} → None ≡ spend (Some room) n → room < n
spend-lacks {room} {n} e =
    by-test (leb n room)
    (λ f. let z : None ≡ Some (room - n) = e ∙ spend-enough (leb-true n room f) in no (cc))
    (λ f. leb-false n room f)
