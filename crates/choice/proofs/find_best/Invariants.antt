-- `find_best` meets its contract: the rows from the iterator's place on, and the best row before them, have the answer. Assumes nothing.
use mathlib.Core.Path.{◌≡◌}
use Rattle.choice.specs.Step.{all_keys}
use Rattle.choice.proofs.Best.{Best}
use Rattle.choice.proofs.find_best.Given as goal

abbrev pub invariant-loop-row : goal.invariant-loop-row
invariant-loop-row l = record {
  ready : (goal.iterator-loop-row).can_next l.row-iterator;
  ends : (goal.iterator-loop-row).is_finite l.row-iterator;
  of : l.row-iterator.file.now ≡ l.file;
  best : Best l.file l.group (all_keys l.key l.locale) l.row-iterator.start l.row-iterator.number l.inside l.best l.found;
}
