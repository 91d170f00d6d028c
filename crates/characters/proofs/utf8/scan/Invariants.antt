-- `utf8::scan` meets its contract: what is found from `i` on is the whole answer. Assumes nothing.
use mathlib.Core.Path.{◌≡◌}
use lib.ListN.{length, drop}
use Prim.Native.Nat.{◌-◌, ◌≤◌}
use Rattle.characters.specs.Class.{content_byte}
use Rattle.characters.specs.Utf8.{text_fault}
use Rattle.characters.specs.declared.Due.TheVariants.{Start}
use Rattle.characters.proofs.Utf8Laws.{moved}
use Rattle.characters.proofs.utf8.scan.Given as goal

abbrev pub invariant-loop-i : goal.invariant-loop-i
invariant-loop-i l = (moved l.i (text_fault (content_byte l.k) Start (drop l.i l.s)) ≡ text_fault (content_byte l.k) Start l.s) × (l.i ≤ length l.s)

abbrev pub decreases-loop-i : goal.decreases-loop-i
decreases-loop-i l = length l.s - l.i
