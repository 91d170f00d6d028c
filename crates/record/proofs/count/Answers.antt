-- `record::count` meets its contract: the records from the place on, and those counted before it, make the answer. Assumes nothing.
use native.Mathlib.Omega.{arith}
use mathlib.Core.Path.{◌∙◌, sym}
use Rattle.record.proofs.Place.{front-damaged, front-record}
use Rattle.record.proofs.Bodies.{count_long, count-begin, count-damaged, count-other, count_next, count-done}
use Rattle.record.proofs.count.Goals as goal

pub returns-in_err-front : goal.returns-in_err-front
returns-in_err-front c =
    c.from_residual.ensures ∙ count-damaged c.loop-at.invariant c.loop-at-test.true (front-damaged _ _ (sym c.read.ensures ∙ c.in_err-front.was))

pub returns-then-front-kind : goal.returns-then-front-kind
returns-then-front-kind c =
    count-other c.loop-at.invariant (front-record _ _ (sym c.read.ensures ∙ c.in_ok-front.was)) c.if-front-kind.true

pub loop-at-smaller : goal.loop-at-smaller
loop-at-smaller c = let r = front-record _ _ (sym c.read.ensures ∙ c.in_ok-front.was) in omega arith

pub loop-at-preserved : goal.loop-at-preserved
loop-at-preserved c =
    count_next c.loop-at.invariant (front-record _ _ (sym c.read.ensures ∙ c.in_ok-front.was)) c.if-front-kind.false

pub returns-then-most-s : goal.returns-then-most-s
returns-then-most-s c = count_long _ _ _ c.if-most-s.true

pub loop-at-init : goal.loop-at-init
loop-at-init c = count-begin _ _ _ c.if-most-s.false

pub returns : goal.returns
returns c = count-done c.loop-at.invariant c.loop-at-test.false
