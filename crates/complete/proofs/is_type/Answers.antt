-- `is_type` meets its contract: the answer is what its comparisons answer. Assumes nothing.
use mathlib.Core.Path.{◌≡◌, refl}
use mathlib.Core.Bool.{◌||◌, or_assoc, or-false}
use mathlib.Core.List.{List}
use Prim.Native.Nat.{ℕ}
use Rattle.base.specs.Lists.{ascii, same, any}
use Rattle.base.proofs.Tests.{same-by, or-first, or-second}
use Rattle.complete.specs.Complete.{known_type}
use Rattle.complete.proofs.is_type.Goals as goal
use Rattle.complete.proofs.is_type.Goals.{Joined-eq, then-eq, else-eq}

-- the first two
two : (c : Joined-eq) → c.if-eq.value ≡ (same c.args.v.now (ascii "Application") || same c.args.v.now (ascii "Link"))
two c =
    let e = same-by _ c.eq.ensures c.as_slice.ensures in
    elim c.if-eq.branch [
      | then-eq w ↦ or-first _ _ w.value-is w.if-eq.true e
      | else-eq w ↦ or-second _ _ w.value-is w.if-eq.false e (same-by _ w.eq-else-eq.ensures w.as_slice-else-eq.ensures)
    ]

-- all three
all : (v : List ℕ) → known_type v ≡ ((same v (ascii "Application") || same v (ascii "Link")) || same v (ascii "Directory"))
unfolding known_type any
all v = simp (or_assoc, or-false)

pub returns-then-eq-2 : goal.returns-then-eq-2
returns-then-eq-2 c = rw all (or-first _ _ refl c.if-eq-2.true (two (goal.at.returns-then-eq-2 c).Joined-eq))

pub returns-else-eq-2 : goal.returns-else-eq-2
returns-else-eq-2 c = rw all (or-second _ _ refl c.if-eq-2.false (two (goal.at.returns-else-eq-2 c).Joined-eq) (same-by _ c.eq-else-eq-2.ensures c.as_slice-else-eq-2.ensures))
