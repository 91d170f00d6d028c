-- `record::number` meets its contract: the bytes behind the place, as a number. Assumes nothing.
use Rattle.record.proofs.Numbers.{Reading}
use Rattle.record.proofs.number.Given as goal

abbrev pub invariant-loop-i : goal.invariant-loop-i
invariant-loop-i g l = Reading l.s l.at g.row.N l.i l.n
