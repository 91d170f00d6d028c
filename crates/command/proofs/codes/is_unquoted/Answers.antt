-- `codes::is_unquoted` meets its contract: the tests that led to each return say which case of the definition holds. Assumes nothing.
use mathlib.Core.Path.{sym, ◌∙◌}
use borrow.Author.Tests.{eq-eqb, ne_eqb, le-leb, lt-leb}
use Rattle.command.specs.Codes.{unquoted_byte, reserved}
use Rattle.command.proofs.codes.is_unquoted.Goals as goal

pub returns-then-b-gt126 : goal.returns-then-b-gt126
unfolding unquoted_byte
returns-then-b-gt126 c = rw (lt-leb _ _ c.if-b-gt126.true)

pub returns-then-b-eq32 : goal.returns-then-b-eq32
unfolding unquoted_byte
returns-then-b-eq32 c = rw (le-leb _ _ c.if-b-gt126.false, eq-eqb _ _ c.if-b-eq32.true)

pub returns-then-one_of : goal.returns-then-one_of
unfolding unquoted_byte reserved
returns-then-one_of c = rw (le-leb _ _ c.if-b-gt126.false, ne_eqb _ _ c.if-b-eq32.false, sym c.one_of.ensures ∙ c.if-one_of.true)

pub returns : goal.returns
unfolding unquoted_byte reserved
returns c = rw (le-leb _ _ c.if-b-gt126.false, ne_eqb _ _ c.if-b-eq32.false, sym c.one_of.ensures ∙ c.if-one_of.false)
