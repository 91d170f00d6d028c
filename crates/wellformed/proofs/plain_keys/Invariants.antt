-- `plain_keys` meets its contract: what the rows from the iterator's place on say is the whole answer. Assumes nothing.
use mathlib.Core.Path.{◌≡◌}
use Rattle.wellformed.proofs.Plain.{Asking}
use Rattle.wellformed.proofs.plain_keys.Given as goal

abbrev pub invariant-loop-at : goal.invariant-loop-at
invariant-loop-at l = record {
  ready : (goal.iterator-loop-at).can_next l.at-iterator;
  ends : (goal.iterator-loop-at).is_finite l.at-iterator;
  of : l.at-iterator.file.now ≡ l.file;
  asking : Asking l.file l.at-iterator.start l.at-iterator.number l.s;
}
