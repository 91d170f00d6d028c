-- `journal::next_on` meets its contract: it is the call of its way. Assumes nothing.
use Rattle.journal.proofs.next_on.Goals as goal

pub returns-in-Undo : goal.returns-in-Undo
returns-in-Undo c = rw c.in-Undo.is c.last_standing.ensures

pub returns-in-Redo : goal.returns-in-Redo
returns-in-Redo c = rw c.in-Redo.is c.first_waiting.ensures
