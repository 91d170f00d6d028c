-- `read_entry` meets its contract: the entry follows the name. Assumes nothing.
use Rattle.line.specs.Line.{read_entry}
use Rattle.line.proofs.read_entry.Goals as goal

pub returns-in-Ok : goal.returns-in-Ok
unfolding read_entry
returns-in-Ok c = rw (← c.read_name.ensures, c.in-Ok.is) c.entry_after.ensures

pub returns-in-Err : goal.returns-in-Err
unfolding read_entry
returns-in-Err c = rw (← c.read_name.ensures, c.in-Err.is)
