-- `journal::filled` meets its contract: the records from the place on decide. Assumes nothing.
use Prim.Native.Nat.{◌-◌}
use lib.ListN.{length}
use Rattle.record.proofs.Each.{Filling}
use Rattle.journal.specs.Journal.{read_edit}
use Rattle.journal.proofs.filled.Given as goal

abbrev pub invariant-loop-record : goal.invariant-loop-record
invariant-loop-record l = Filling read_edit l.used l.from l.at

abbrev pub decreases-loop-record : goal.decreases-loop-record
decreases-loop-record l = length l.used - l.at
