-- `codes::piece_of` meets its contract: the tests that led to each return say which case of the definition holds. Assumes nothing.
use mathlib.Core.Path.{sym, ◌∙◌}
use borrow.Author.Tests.{eq-eqb, ne_eqb}
use Rattle.command.specs.Command.{piece_of}
use Rattle.command.proofs.codes.piece_of.Goals as goal

pub returns-then-b-eq37 : goal.returns-then-b-eq37
unfolding piece_of
returns-then-b-eq37 c = rw (eq-eqb _ _ c.if-b-eq37.true) c.code_piece.ensures

pub returns-then-takes_next : goal.returns-then-takes_next
unfolding piece_of
returns-then-takes_next c = rw (sym c.takes_next.ensures ∙ c.if-takes_next.true, ne_eqb _ _ c.if-b-eq37.false)

pub returns : goal.returns
unfolding piece_of
returns c = rw (sym c.takes_next.ensures ∙ c.if-takes_next.false, ne_eqb _ _ c.if-b-eq37.false)
