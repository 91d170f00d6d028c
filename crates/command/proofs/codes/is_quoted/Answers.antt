-- `codes::is_quoted` meets its contract: the tests that led to each return say which case of the definition holds. Assumes nothing.
use mathlib.Core.Path.{sym, ◌∙◌}
use borrow.Author.Tests.{le-leb, lt-leb}
use Rattle.command.specs.Codes.{quoted_byte}
use Rattle.command.proofs.codes.is_quoted.Goals as goal

pub returns-then-b-gt126 : goal.returns-then-b-gt126
unfolding quoted_byte
returns-then-b-gt126 c = rw (lt-leb _ _ c.if-b-gt126.true)

pub returns-then-needs_backslash : goal.returns-then-needs_backslash
unfolding quoted_byte
returns-then-needs_backslash c = rw (le-leb _ _ c.if-b-gt126.false, sym c.needs_backslash.ensures ∙ c.if-needs_backslash.true)

pub returns : goal.returns
unfolding quoted_byte
returns c = rw (le-leb _ _ c.if-b-gt126.false, sym c.needs_backslash.ensures ∙ c.if-needs_backslash.false)
