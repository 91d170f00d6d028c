-- `write::put_pieces` meets its contract: what is written and the pieces from `i` on make the whole. Assumes nothing.
use native.Mathlib.Omega.{arith}
use Rattle.command.proofs.Pieces.{pieces-further}
use Rattle.run.proofs.Filling.{pieces-start, piece-room, piece-put, pieces_end}
use Rattle.run.proofs.write.put_pieces.Goals as goal

pub loop-i-init : goal.loop-i-init
loop-i-init c = pieces-start c.requires.1

pub put_piece-at-requires : goal.put_piece-at-requires
put_piece-at-requires c =
    piece-room c.loop-i.invariant c.loop-i-test.true c.piece_at-p.ensures

pub loop-i-preserved : goal.loop-i-preserved
loop-i-preserved c =
    piece-put c.loop-i.invariant c.loop-i-test.true c.piece_at-p.ensures c.next_at-i.ensures c.put_piece-at.ensures

pub overflow_add-at : goal.overflow_add-at
overflow_add-at c = omega (arith, ((piece-put c.loop-i.invariant c.loop-i-test.true c.piece_at-p.ensures c.next_at-i.ensures c.put_piece-at.ensures)).filling.fill.inside)

pub loop-i-smaller : goal.loop-i-smaller
loop-i-smaller c =
    omega (arith, pieces-further c.args.quoted c.args.s.now c.loop-i.i c.next_at-i.ensures)

pub returns : goal.returns
returns c = pieces_end c.loop-i.invariant c.loop-i-test.false
