-- `journal::walk` meets its contract: the records up to the place stand, and those from there on decide. Assumes nothing.
use native.Mathlib.Omega.{arith}
use mathlib.Core.Path.{refl, sym, ◌∙◌}
use Rattle.fault.proofs.Answers.{handed-on}
use Rattle.journal.proofs.Walking.{further, walk-begin, walk-damaged, walk-short, walk-beyond, walk-next, walk-unsound, walk-sound}
use Rattle.journal.proofs.walk.Goals as goal

pub returns-in_err-end : goal.returns-in_err-end
returns-in_err-end c =
    let r = c.in_err-end.ensures in
    rw (handed-on _ c.from_residual.ensures.1) (r.0, walk-damaged c.loop-at.invariant r.1 r.2)

pub returns-in_default : goal.returns-in_default
returns-in_default c = (refl, walk-short c.loop-at.invariant c.loop-at-test.true (rw c.in_default.is at c.in_ok-end.ensures))

pub returns-then-standing-end : goal.returns-then-standing-end
returns-then-standing-end c = (refl, walk-beyond c.loop-at.invariant (rw c.in-Some.is at c.in_ok-end.ensures) c.loop-at-test.true c.if-standing-end.true)

pub loop-at-smaller : goal.loop-at-smaller
loop-at-smaller c = omega (arith, further (rw c.in-Some.is at c.in_ok-end.ensures))

pub loop-at-preserved : goal.loop-at-preserved
loop-at-preserved c = walk-next c.loop-at.invariant (rw c.in-Some.is at c.in_ok-end.ensures) c.if-standing-end.false

pub returns-then-filled : goal.returns-then-filled
returns-then-filled c = walk-sound c.loop-at.invariant c.loop-at-test.false (sym c.if-filled.true ∙ c.filled.ensures)

pub returns : goal.returns
returns c = (refl, walk-unsound c.loop-at.invariant c.loop-at-test.false (sym c.if-filled.false ∙ c.filled.ensures))

pub loop-at-init : goal.loop-at-init
loop-at-init c = walk-begin _ _
