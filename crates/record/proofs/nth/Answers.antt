-- `record::nth` meets its contract: the bodies left to pass, from the place on, lead to the one sought. Assumes nothing.
use native.Mathlib.Omega.{arith}
use mathlib.Core.Path.{◌∙◌, sym}
use Rattle.record.proofs.Place.{front-damaged, front-record}
use Rattle.record.proofs.Seek.{seek-begin, seek-damaged, seek-here, seek-next, seek-done}
use Rattle.record.proofs.nth.Goals as goal

pub returns-in_err-front : goal.returns-in_err-front
returns-in_err-front c =
    c.from_residual.ensures ∙ seek-damaged c.loop-at.invariant c.loop-at-test.true (front-damaged _ _ (sym c.read.ensures ∙ c.in_err-front.was))

pub returns-then-left-eq0 : goal.returns-then-left-eq0
returns-then-left-eq0 c =
    seek-here c.loop-at.invariant (front-record _ _ (sym c.read.ensures ∙ c.in_ok-front.was)) c.if-left-eq0.true

pub loop-at-smaller : goal.loop-at-smaller
loop-at-smaller c = let r = front-record _ _ (sym c.read.ensures ∙ c.in_ok-front.was) in omega arith

pub loop-at-preserved : goal.loop-at-preserved
loop-at-preserved c =
    seek-next c.loop-at.invariant (front-record _ _ (sym c.read.ensures ∙ c.in_ok-front.was)) c.if-left-eq0.false

pub loop-at-init : goal.loop-at-init
loop-at-init c = seek-begin _ c.requires

pub returns : goal.returns
returns c = seek-done c.loop-at.invariant c.loop-at-test.false
