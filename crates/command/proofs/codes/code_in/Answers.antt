-- `codes::code_in` meets its contract: the tests that led to each return say which case of the definition holds. Assumes nothing.
use mathlib.Core.Path.{sym, ◌∙◌}
use borrow.Author.Tests.{eq-eqb, ne_eqb}
use Rattle.command.specs.Codes.{code_in}
use Rattle.command.proofs.codes.code_in.Goals as goal

pub returns-then-c-eq37 : goal.returns-then-c-eq37
unfolding code_in
returns-then-c-eq37 c = rw (eq-eqb _ _ c.if-c-eq37.true)

pub returns-then-quoted : goal.returns-then-quoted
unfolding code_in
returns-then-quoted c = rw (ne_eqb _ _ c.if-c-eq37.false, c.if-quoted.true)

pub returns-then-program : goal.returns-then-program
unfolding code_in
returns-then-program c = rw (ne_eqb _ _ c.if-c-eq37.false, c.if-quoted.false, c.if-program.true)

pub returns-then-one_of : goal.returns-then-one_of
unfolding code_in
returns-then-one_of c =
    rw (ne_eqb _ _ c.if-c-eq37.false, c.if-quoted.false, c.if-program.false, sym c.one_of.ensures ∙ c.if-one_of.true)

pub returns-then-one_of-2 : goal.returns-then-one_of-2
unfolding code_in
returns-then-one_of-2 c =
    rw (ne_eqb _ _ c.if-c-eq37.false, c.if-quoted.false, c.if-program.false, sym c.one_of.ensures ∙ c.if-one_of.false, sym c.one_of-2.ensures ∙ c.if-one_of-2.true)

pub returns : goal.returns
unfolding code_in
returns c =
    rw (ne_eqb _ _ c.if-c-eq37.false, c.if-quoted.false, c.if-program.false, sym c.one_of.ensures ∙ c.if-one_of.false, sym c.one_of-2.ensures ∙ c.if-one_of-2.false) c.one_of-3.ensures
