-- `check_pieces` meets its contract: the faults from `i` on are all that can be found, and the codes there all that were not seen. Assumes nothing.
use borrow.Author.Rules.{rules}
use mathlib.Core.Path.{sym, ◌∙◌}
use native.Mathlib.Omega.{arith}
use Rattle.std.proofs.lemmas.Result.{err_from_is_err_and}
use Rattle.command.proofs.Pieces.{width_fits, checking-start, checking-end, checking-refused, checking-next}
use Rattle.command.proofs.check_pieces.Goals as goal

pub loop-i-init : goal.loop-i-init
loop-i-init c = checking-start

pub returns-in_err-piece_fault : goal.returns-in_err-piece_fault
returns-in_err-piece_fault c =
    let p = err_from_is_err_and c.from_residual.result c.from_residual.ensures.1 in
    rw (p.1, p.2)
    (checking-refused c.loop-i.invariant (search rules) c.byte_at-c.ensures (sym c.in_err-piece_fault.was ∙ c.piece_fault.ensures))

pub overflow_add-i-in-loop-i : goal.overflow_add-i-in-loop-i
overflow_add-i-in-loop-i c = omega (arith, width_fits _ _ c.width_of-i.ensures)

pub loop-i-smaller : goal.loop-i-smaller
loop-i-smaller c = omega (arith, width_fits _ _ c.width_of-i.ensures)

pub loop-i-preserved : goal.loop-i-preserved
loop-i-preserved c =
    checking-next c.loop-i.invariant (search rules) c.byte_at-c.ensures (sym c.in_ok-piece_fault.was ∙ c.piece_fault.ensures) c.piece_of.ensures c.see-known.ensures c.width_of-i.ensures

pub returns : goal.returns
returns c = checking-end c.loop-i.invariant c.loop-i-test.false
