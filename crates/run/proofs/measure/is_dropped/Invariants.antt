-- `measure::is_dropped` meets its contract: what is left of the pieces answers as all. Assumes nothing.
use mathlib.Core.Path.{◌≡◌}
use mathlib.Core.Bool.{false}
use Prim.Native.Nat.{◌-◌}
use lib.ListN.{length}
use Rattle.base.specs.Lists.{all}
use Rattle.command.specs.Command.{pieces_of}
use Rattle.command.proofs.Pieces.{pieces_at}
use Rattle.run.specs.Run.{leaves_nothing}
use Rattle.run.proofs.measure.is_dropped.Given as goal

abbrev pub invariant-loop-i : goal.invariant-loop-i
invariant-loop-i l = all (leaves_nothing l.item) (pieces_at false l.s l.i) ≡ all (leaves_nothing l.item) (pieces_of false l.s)

abbrev pub decreases-loop-i : goal.decreases-loop-i
decreases-loop-i l = length l.s - l.i
