-- `scan` meets its contract: what the rows from the iterator's place on say is the whole answer, and no row before lacks its plain key unless there is doubt.
-- Assumes nothing.
use mathlib.Core.Path.{◌≡◌}
use lib.ListN.{length}
use Rattle.wellformed.specs.Pass.{bytes}
use Rattle.wellformed.proofs.Checking.{Checking}
use Rattle.wellformed.proofs.Plain.{Held}
use Rattle.wellformed.proofs.scan.Given as goal

abbrev pub invariant-loop-at : goal.invariant-loop-at
invariant-loop-at l = record {
  ready : (goal.iterator-loop-at).can_next l.at-iterator;
  ends : (goal.iterator-loop-at).is_finite l.at-iterator;
  of : l.at-iterator.file.now ≡ l.file;
  checking : Checking l.leading l.file l.marks l.at-iterator.start l.at-iterator.number l.s.tag (bytes l.file l.s.group);
  held : Held l.file l.at-iterator.start l.s;
  size : length l.marks ≡ length l.initial.marks;
}
