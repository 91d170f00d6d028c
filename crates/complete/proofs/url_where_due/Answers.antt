-- `url_where_due` meets its contract: the calls that led to each return say which case holds. Assumes nothing.
use Rattle.complete.specs.Complete.{url_where_due}
use Rattle.complete.proofs.url_where_due.Goals as goal

pub returns-then-value_is : goal.returns-then-value_is
unfolding url_where_due
returns-then-value_is c = rw (← c.value_is.ensures, c.if-value_is.true, ← c.has_key.ensures)

pub returns : goal.returns
unfolding url_where_due
returns c = rw (← c.value_is.ensures, c.if-value_is.false)
