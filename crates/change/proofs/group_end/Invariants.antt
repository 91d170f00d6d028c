-- `group_end` meets its contract: the last row of the group before the iterator's place is known. Assumes nothing.
use mathlib.Core.Path.{◌≡◌}
use Rattle.change.proofs.Passing.{Ending}
use Rattle.change.proofs.group_end.Given as goal

abbrev pub invariant-loop-row : goal.invariant-loop-row
invariant-loop-row l = record {
  ready : (goal.iterator-loop-row).can_next l.row-iterator;
  ends : (goal.iterator-loop-row).is_finite l.row-iterator;
  of : l.row-iterator.file.now ≡ l.file;
  ending : Ending l.file l.group l.row-iterator.start l.inside l.t;
}
