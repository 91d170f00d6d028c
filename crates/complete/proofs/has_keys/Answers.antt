-- `has_keys` meets its contract: the answer is what its three calls answer. Assumes nothing.
use Rattle.complete.specs.Step.{keys_there}
use Rattle.complete.proofs.has_keys.Goals as goal

pub returns : goal.returns
unfolding keys_there
returns c = rw (← c.has_key.ensures, ← c.exec_where_due.ensures, ← c.url_where_due.ensures)
