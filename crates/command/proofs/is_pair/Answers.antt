-- `is_pair` meets its contract: the tests that led to each return say which case of the definition holds. Assumes nothing.
use borrow.Author.Tests.{eq-eqb, ne_eqb}
use Rattle.command.proofs.is_pair.Goals as goal

pub returns-then-word-eq2 : goal.returns-then-word-eq2
returns-then-word-eq2 c = rw (eq-eqb _ _ c.if-word-eq2.true)

pub returns : goal.returns
returns c = rw (ne_eqb _ _ c.if-word-eq2.false)
