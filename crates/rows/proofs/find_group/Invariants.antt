-- `rows::find_group` meets its contract: the rows from the iterator's place on have the answer. Assumes nothing.
use mathlib.Core.Path.{◌≡◌}
use mathlib.Core.List.{◌++◌}
use Rattle.rows.proofs.Seek.{Seek, finding}
use Rattle.rows.specs.Rows.{read_rows}
use Rattle.rows.specs.Title.{Group}
use Rattle.rows.proofs.find_group.Given as goal

abbrev pub invariant-loop-row : goal.invariant-loop-row
invariant-loop-row l = record {
  ready : (goal.iterator-loop-row).can_next l.row-iterator;
  ends : (goal.iterator-loop-row).is_finite l.row-iterator;
  of : l.row-iterator.file.now ≡ l.file;
  seek : Seek l.file (finding (Group (l.front ++ l.rest))) (finding (Group (l.front ++ l.rest)) (read_rows l.file)) l.row-iterator.start l.row-iterator.number;
}
