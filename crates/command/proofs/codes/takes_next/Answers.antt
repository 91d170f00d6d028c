-- `codes::takes_next` meets its contract: the tests that led to each return say which case of the definition holds. Assumes nothing.
use borrow.Author.Tests.{eq-eqb, ne_eqb}
use Rattle.command.proofs.codes.takes_next.Goals as goal

pub returns-then-b-eq37 : goal.returns-then-b-eq37
returns-then-b-eq37 c = rw (eq-eqb _ _ c.if-b-eq37.true)

pub returns-then-quoted : goal.returns-then-quoted
returns-then-quoted c = rw (ne_eqb _ _ c.if-b-eq37.false, c.if-quoted.true)

pub returns : goal.returns
returns c = rw (ne_eqb _ _ c.if-b-eq37.false, c.if-quoted.false)
