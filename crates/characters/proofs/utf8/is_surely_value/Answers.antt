-- `utf8::is_surely_value` meets its contract: plain bytes, and then bytes that may follow. Assumes nothing.
use native.Mathlib.Omega.{arith}
use mathlib.Core.Path.{sym, ◌∙◌}
use lib.ListN.{drop}
use lib.Seq.{drop-drop}
use Rattle.characters.proofs.Windows.{plain-front, plain-last}
use Rattle.characters.proofs.utf8.is_surely_value.Goals as goal

pub loop-k-init : goal.loop-k-init
loop-k-init c = (omega arith, λ e. e)

pub loop-k-preserved : goal.loop-k-preserved
loop-k-preserved c =
    let l = c.loop-k in
    let a = c.args in
    (omega arith, λ e. l.invariant.1 (plain-front 16 (drop l.k a.s.now) (sym c.plain_16.ensures ∙ c.if-plain_16.true) (rw (drop-drop 16 l.k a.s.now) e)))

pub returns-else-plain_16 : goal.returns-else-plain_16
returns-else-plain_16 c = λ e. c.loop-k.invariant.1 (c.sound_from.ensures e)

pub returns-then-plain_16-2 : goal.returns-then-plain_16-2
returns-then-plain_16-2 c =
    let l = c.loop-k in
    let a = c.args in
    λ e. l.invariant.1 (plain-last a.s.now l.k c.if-s-ge16.true l.invariant.0 (omega arith) (sym c.plain_16-then-s-ge16.ensures ∙ c.if-plain_16-2.true))

pub returns : goal.returns
returns c = λ e. c.loop-k.invariant.1 (c.sound_from-2.ensures e)
