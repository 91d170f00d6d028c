-- `after_postfixed` meets its contract: the key is compared with the last, then with the one still to come. Assumes nothing.
use borrow.Author.Tests.{eq-eqb, ne_eqb}
use Rattle.wellformed.proofs.after_postfixed.Goals as goal

pub returns-then-same_bytes-2 : goal.returns-then-same_bytes-2
returns-then-same_bytes-2 c =
    rw (← c.same_bytes.ensures, c.if-same_bytes.false, ← c.same_bytes-2.ensures, c.if-same_bytes-2.true)

pub returns-then-want-eq0 : goal.returns-then-want-eq0
returns-then-want-eq0 c =
    rw (← c.same_bytes.ensures, c.if-same_bytes.false, ← c.same_bytes-2.ensures, c.if-same_bytes-2.false, eq-eqb _ _ c.if-want-eq0.true)

pub returns : goal.returns
returns c =
    rw (← c.same_bytes.ensures, c.if-same_bytes.false, ← c.same_bytes-2.ensures, c.if-same_bytes-2.false, ne_eqb _ _ c.if-want-eq0.false)

pub returns-then-same_bytes : goal.returns-then-same_bytes
returns-then-same_bytes c = rw (← c.same_bytes.ensures, c.if-same_bytes.true)
