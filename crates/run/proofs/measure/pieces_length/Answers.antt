-- `measure::pieces_length` meets its contract: what is left of a room that has them all tells how many. Assumes nothing.
use native.Mathlib.Omega.{arith}
use mathlib.Core.Path.{sym, ◌∙◌}
use Rattle.text.proofs.RoomLaws.{spend-told, spend-lacks}
use borrow.Author.Rules.{rules}
use Rattle.run.proofs.measure.pieces_length.Goals as goal

pub returns-in_default : goal.returns-in_default
returns-in_default c = let h = spend-lacks (sym c.in_default.is ∙ c.pieces_left.ensures) in omega arith

pub overflow_sub-result : goal.overflow_sub-result
overflow_sub-result c = (spend-told (search rules) (sym c.in-Some.is ∙ c.pieces_left.ensures)).0

pub returns : goal.returns
returns c = (spend-told (search rules) (sym c.in-Some.is ∙ c.pieces_left.ensures)).1
