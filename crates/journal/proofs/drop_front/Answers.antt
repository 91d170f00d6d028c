-- `journal::drop_front` meets its contract: one move, and both numbers. Assumes nothing.
use Rattle.journal.proofs.Ends.{front-dropped}
use Rattle.journal.proofs.drop_front.Goals as goal

pub returns : goal.returns
returns c = front-dropped _ _ c.replace.ensures
