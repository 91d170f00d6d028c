-- `measure::pieces_left` meets its contract: the room left and what the pieces from `i` on take are the whole answer. Assumes nothing.
use native.Mathlib.Omega.{arith}
use Rattle.command.proofs.Pieces.{pieces-further}
use Rattle.run.proofs.Spending.{spending-start, spending-next, spending-end}
use Rattle.run.proofs.measure.pieces_left.Goals as goal

pub loop-i-init : goal.loop-i-init
loop-i-init c = spending-start

pub loop-i-smaller : goal.loop-i-smaller
loop-i-smaller c =
    omega (arith, pieces-further c.args.quoted c.args.s.now c.loop-i.i c.next_at-i.ensures)

pub loop-i-preserved : goal.loop-i-preserved
loop-i-preserved c =
    spending-next c.loop-i.invariant c.loop-i-test.true c.piece_at-p.ensures c.piece_length.ensures c.spend-room.ensures c.next_at-i.ensures

pub returns : goal.returns
returns c = spending-end c.loop-i.invariant c.loop-i-test.false
