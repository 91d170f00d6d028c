-- `is_unfit` meets its contract: the tests that led to each return say which case of the definition holds. Assumes nothing.
use borrow.Author.Tests.{le-leb, lt-leb}
use native.Mathlib.Omega.{arith}
use Rattle.command.proofs.is_unfit.Goals as goal

pub overflow_add-n : goal.overflow_add-n
overflow_add-n c = omega arith

pub returns-then-size-n : goal.returns-then-size-n
returns-then-size-n c = rw (le-leb _ _ c.if-size-n.true)

pub returns-then-program : goal.returns-then-program
returns-then-program c = rw (lt-leb _ _ c.if-size-n.false, c.if-program.true)

pub returns : goal.returns
returns c = rw (lt-leb _ _ c.if-size-n.false, c.if-program.false)
