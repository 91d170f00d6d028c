-- `has_key` meets its contract: a row was found where there is one. Assumes nothing.
use mathlib.Core.Path.{sym}
use Rattle.rows.proofs.Told.{found-there}
use Rattle.complete.proofs.has_key.Goals as goal

pub returns : goal.returns
returns c = sym (found-there _ c.is_some.ensures c.find_key.ensures)
