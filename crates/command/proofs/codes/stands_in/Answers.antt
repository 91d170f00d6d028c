-- `codes::stands_in` meets its contract: the tests that led to each return say which case of the definition holds. Assumes nothing.
use borrow.Author.Tests.{eq-eqb, ne_eqb}
use Rattle.command.specs.Codes.{stands_in}
use Rattle.command.proofs.codes.stands_in.Goals as goal

pub returns-then-b-eq61 : goal.returns-then-b-eq61
unfolding stands_in
returns-then-b-eq61 c = rw (c.if-program.true, eq-eqb _ _ c.if-b-eq61.true)

pub returns-then-program : goal.returns-then-program
unfolding stands_in
returns-then-program c = rw (c.if-program.true, ne_eqb _ _ c.if-b-eq61.false) c.stands.ensures

pub returns : goal.returns
unfolding stands_in
returns c = rw c.if-program.false c.stands-2.ensures
