-- `check_booleans` meets its contract: the rows from the iterator's place on have the answer. Assumes nothing.
use mathlib.Core.Path.{◌≡◌}
use Rattle.complete.proofs.Booleans.{BooleansFrom}
use Rattle.complete.proofs.check_booleans.Given as goal

abbrev pub invariant-loop-row : goal.invariant-loop-row
invariant-loop-row l = record {
  ready : (goal.iterator-loop-row).can_next l.row-iterator;
  ends : (goal.iterator-loop-row).is_finite l.row-iterator;
  of : l.row-iterator.file.now ≡ l.file;
  rest : BooleansFrom l.file l.row-iterator.start l.row-iterator.number l.inside;
}
