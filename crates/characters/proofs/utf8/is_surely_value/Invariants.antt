-- `utf8::is_surely_value` meets its contract: plain bytes, and then bytes that may follow. Assumes nothing.
use Rattle.std.specs.Prelude.{None}
use mathlib.Core.Path.{◌≡◌}
use Prim.Native.Nat.{◌-◌, ◌≤◌}
use lib.ListN.{length, drop}
use Rattle.characters.specs.Class.{value_byte}
use Rattle.characters.specs.Utf8.{text_fault}
use Rattle.characters.specs.declared.Due.TheVariants.{Start}
use Rattle.characters.proofs.utf8.is_surely_value.Given as goal

abbrev pub invariant-loop-k : goal.invariant-loop-k
invariant-loop-k l = (l.k ≤ length l.s) × (text_fault value_byte Start (drop l.k l.s) ≡ None → text_fault value_byte Start (drop l.from l.s) ≡ None)

abbrev pub decreases-loop-k : goal.decreases-loop-k
decreases-loop-k l = length l.s - l.k
