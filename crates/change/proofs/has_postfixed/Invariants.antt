-- `has_postfixed` meets its contract: no row before the iterator's place is such a key. Assumes nothing.
use mathlib.Core.Path.{◌≡◌}
use Rattle.change.proofs.Passing.{Lone}
use Rattle.change.proofs.has_postfixed.Given as goal

abbrev pub invariant-loop-row : goal.invariant-loop-row
invariant-loop-row l = record {
  ready : (goal.iterator-loop-row).can_next l.row-iterator;
  ends : (goal.iterator-loop-row).is_finite l.row-iterator;
  of : l.row-iterator.file.now ≡ l.file;
  lone : Lone l.file l.group l.key l.row-iterator.start l.inside;
}
