-- `behind` meets its contract: the two ways of its test. Assumes nothing.
use borrow.Author.Tests.{lt-ltb, le-ltb}
use Rattle.change.proofs.behind.Goals as goal

pub returns-then-end-file : goal.returns-then-end-file
returns-then-end-file c = rw (lt-ltb _ _ c.if-end-file.true)

pub returns : goal.returns
returns c = rw (le-ltb _ _ c.if-end-file.false)
