-- `labels::put_all` meets its contract: what is written and the records of those from `i` on are the whole. Assumes nothing.
use Prim.Native.Nat.{◌-◌}
use lib.ListN.{length}
use Rattle.rows.specs.Rows.{read_rows}
use Rattle.actions.proofs.Labelling.{Filling}
use Rattle.actions.proofs.labels.put_all.Given as goal

abbrev pub invariant-loop-i : goal.invariant-loop-i
invariant-loop-i l = Filling (read_rows l.file) l.raw l.locale l.initial.out l.out l.i l.at

abbrev pub decreases-loop-i : goal.decreases-loop-i
decreases-loop-i l = length l.raw - l.i
