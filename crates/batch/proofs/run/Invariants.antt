-- `batch::run` meets its contract: the requests before the place are done, and those from there on decide. Assumes nothing.
use mathlib.Core.Path.{◌≡◌}
use Prim.Native.Nat.{◌-◌}
use lib.ListN.{length}
use Rattle.journal.specs.Journal.{Person}
use Rattle.edit.specs.Calls.{lent}
use Rattle.batch.proofs.Running.{Running}
use Rattle.batch.proofs.run.Given as goal

abbrev pub invariant-loop-at : goal.invariant-loop-at
invariant-loop-at l =
    Running (lent l.initial.file l.size l.initial.journal l.used l.standing) (Person l.person) l.list l.at l.done (lent l.file l.left.size l.journal l.left.used l.left.standing) × (length l.file ≡ length l.initial.file) × (length l.journal ≡ length l.initial.journal)

abbrev pub decreases-loop-at : goal.decreases-loop-at
decreases-loop-at l = length l.list - l.at
