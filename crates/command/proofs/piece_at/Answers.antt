-- `piece_at` meets its contract: the two bytes from the place on are its. Assumes nothing.
use Rattle.command.proofs.piece_at.Goals as goal

pub returns : goal.returns
returns c = rw (← c.byte_at.ensures) c.piece_of.ensures
