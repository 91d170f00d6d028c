-- `after_plain` meets its contract: the key still to come is compared. Assumes nothing.
use Rattle.wellformed.proofs.after_plain.Goals as goal

pub returns-then-same_bytes : goal.returns-then-same_bytes
returns-then-same_bytes c = rw (← c.same_bytes.ensures, c.if-same_bytes.true)

pub returns : goal.returns
returns c = rw (← c.same_bytes.ensures, c.if-same_bytes.false)
