-- `rows::find_key` meets its contract: the rows from the iterator's place on have the answer. Assumes nothing.
use mathlib.Core.Path.{◌≡◌}
use Rattle.rows.specs.Rows.{read_rows}
use Rattle.rows.specs.Title.{Key}
use Rattle.rows.proofs.Seek.{SeekIn, finding}
use Rattle.rows.proofs.find_key.Given as goal

abbrev pub invariant-loop-row : goal.invariant-loop-row
invariant-loop-row l = record {
  ready : (goal.iterator-loop-row).can_next l.row-iterator;
  ends : (goal.iterator-loop-row).is_finite l.row-iterator;
  of : l.row-iterator.file.now ≡ l.file;
  seek : SeekIn l.file l.group (finding (Key l.group l.key)) (finding (Key l.group l.key) (read_rows l.file)) l.row-iterator.start l.row-iterator.number l.inside;
}
