-- `exec_where_due` meets its contract: the calls that led to each return say which case holds. Assumes nothing.
use Rattle.complete.specs.Complete.{exec_where_due}
use Rattle.complete.proofs.exec_where_due.Goals as goal

pub returns-then-has_key : goal.returns-then-has_key
unfolding exec_where_due
returns-then-has_key c =
    rw (← c.value_is.ensures, c.if-value_is.true, ← c.has_key.ensures, c.if-has_key.true)

pub returns-then-value_is : goal.returns-then-value_is
unfolding exec_where_due
returns-then-value_is c =
    rw (← c.value_is.ensures, c.if-value_is.true, ← c.has_key.ensures, c.if-has_key.false, ← c.value_is-then-value_is.ensures)

pub returns : goal.returns
unfolding exec_where_due
returns c = rw (← c.value_is.ensures, c.if-value_is.false)
