-- `codes::code_piece` meets its contract: the tests that led to each return say which case of the definition holds. Assumes nothing.
use mathlib.Core.Path.{sym, ◌∙◌}
use borrow.Author.Tests.{eq-eqb, ne_eqb}
use Rattle.command.specs.Codes.{code_piece}
use Rattle.command.proofs.codes.code_piece.Goals as goal

pub returns-then-c-eq37 : goal.returns-then-c-eq37
unfolding code_piece
returns-then-c-eq37 c = rw (eq-eqb _ _ c.if-c-eq37.true)

pub returns-then-one_of : goal.returns-then-one_of
unfolding code_piece
returns-then-one_of c = rw (ne_eqb _ _ c.if-c-eq37.false, sym c.one_of.ensures ∙ c.if-one_of.true)

pub returns-then-c-eq99 : goal.returns-then-c-eq99
unfolding code_piece
returns-then-c-eq99 c = rw (ne_eqb _ _ c.if-c-eq37.false, sym c.one_of.ensures ∙ c.if-one_of.false, eq-eqb _ _ c.if-c-eq99.true)

pub returns-then-c-eq107 : goal.returns-then-c-eq107
unfolding code_piece
returns-then-c-eq107 c =
    rw (ne_eqb _ _ c.if-c-eq37.false, sym c.one_of.ensures ∙ c.if-one_of.false, ne_eqb _ _ c.if-c-eq99.false, eq-eqb _ _ c.if-c-eq107.true)

pub returns : goal.returns
unfolding code_piece
returns c =
    rw (ne_eqb _ _ c.if-c-eq37.false, sym c.one_of.ensures ∙ c.if-one_of.false, ne_eqb _ _ c.if-c-eq99.false, ne_eqb _ _ c.if-c-eq107.false)
