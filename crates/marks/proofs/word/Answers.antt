-- `marks::word` meets its contract: what `& (n - 1)` leaves is below n. Assumes nothing.
use native.Mathlib.Omega.{arith}
use mathlib.Core.Path.{refl}
use Prim.Native.Nat.{◌-◌, ◌/◌}
use lib.Bits.{and_le_r}
use Rattle.marks.proofs.word.Goals as goal

pub returns : goal.returns
returns c = (refl, omega (arith, and_le_r (c.args.h / 281474976710656) (c.args.n - 1)))
