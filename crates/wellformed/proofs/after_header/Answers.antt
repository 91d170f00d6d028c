-- `after_header` meets its contract. Assumes nothing.
use borrow.Author.Tests.{eq-eqb, ne_eqb}
use Rattle.wellformed.proofs.after_header.Goals as goal

pub returns-then-want-eq0 : goal.returns-then-want-eq0
returns-then-want-eq0 c = rw (eq-eqb _ _ c.if-want-eq0.true)

pub returns : goal.returns
returns c = rw (ne_eqb _ _ c.if-want-eq0.false)
