-- `utf8::follows` meets its contract. Assumes nothing.
use Rattle.characters.proofs.utf8.follows.Goals as goal

pub returns : goal.returns
returns c = rw (c.begins.ensures, c.goes_on.ensures, c.is_due-due.ensures)
