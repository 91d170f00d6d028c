-- `classes::past` meets its contract: what is left to pass from `i` is the whole answer. Assumes nothing.
use Rattle.std.proofs.Common.{length, ◌-◌, ◌≡◌, ℕ, Bool, ◌<◌}
use Rattle.base.proofs.Span.{Spanning}
use Rattle.characters.proofs.classes.past.Given as goal

abbrev pub invariant-loop-i : goal.invariant-loop-i
invariant-loop-i g l =
    (p : ℕ → Bool) → ((b : ℕ) (r : Bool) → b < 256 → goal.F-post g l.fn.test b r → r ≡ p b) → Spanning p l.s l.from l.i

abbrev pub decreases-loop-i : goal.decreases-loop-i
decreases-loop-i g l = length l.s - l.i
