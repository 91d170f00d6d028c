-- `is_boolean` meets its contract: the answer is what its comparisons answer. Assumes nothing.
use mathlib.Core.Path.{◌≡◌, refl}
use mathlib.Core.Bool.{◌||◌, or-false}
use mathlib.Core.List.{List}
use Prim.Native.Nat.{ℕ}
use Rattle.base.specs.Lists.{ascii, same, any}
use Rattle.base.proofs.Tests.{same-by, or-first, or-second}
use Rattle.complete.specs.Complete.{is_boolean}
use Rattle.complete.proofs.is_boolean.Goals as goal

-- the two
all : (v : List ℕ) → is_boolean v ≡ (same v (ascii "true") || same v (ascii "false"))
unfolding is_boolean any
all v = simp or-false

pub returns-then-eq : goal.returns-then-eq
returns-then-eq c = rw all (or-first _ _ refl c.if-eq.true (same-by _ c.eq.ensures c.as_slice.ensures))

pub returns-else-eq : goal.returns-else-eq
returns-else-eq c =
    rw all (or-second _ _ refl c.if-eq.false (same-by _ c.eq.ensures c.as_slice.ensures) (same-by _ c.eq-else-eq.ensures c.as_slice-else-eq.ensures))
