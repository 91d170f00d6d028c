-- `codes::stands` meets its contract: the tests that led to each return say which case of the definition holds. Assumes nothing.
use Rattle.command.proofs.codes.stands.Goals as goal

pub returns-then-quoted : goal.returns-then-quoted
returns-then-quoted c = rw c.if-quoted.true c.is_quoted.ensures

pub returns : goal.returns
returns c = rw c.if-quoted.false c.is_unquoted.ensures
