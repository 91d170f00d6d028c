-- `escape::raw_length` meets its contract: what is counted and the raw value from `i` on make the whole length. Assumes nothing.
use lib.ListN.{length}
use Prim.Native.Nat.{◌-◌}
use Rattle.text.proofs.Writing.{RawMeasured}
use Rattle.text.proofs.escape.raw_length.Given as goal

abbrev pub invariant-loop-i : goal.invariant-loop-i
invariant-loop-i l = RawMeasured l.text l.i l.n

abbrev pub decreases-loop-i : goal.decreases-loop-i
decreases-loop-i l = length l.text - l.i
