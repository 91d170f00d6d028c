-- `classes::plain_end` meets its contract: what is left to pass from `i` is the whole answer. Assumes nothing.
use native.Mathlib.Omega.{arith}
use mathlib.Core.Path.{refl, sym, ◌∙◌}
use Rattle.base.proofs.Scan.{done}
use lib.ListN.{drop, length-drop}
use lib.Seq.{drop-drop}
use Rattle.base.proofs.Span.{span-skip}
use Rattle.base.specs.Lists.{span}
use Rattle.characters.specs.Class.{value_byte}
use Rattle.characters.proofs.classes.plain_end.Goals as goal

pub loop-i-preserved : goal.loop-i-preserved
loop-i-preserved c =
    let l = c in
    let s = c.args.s.now in
    let d = length-drop l.loop-i.i s in
    let k = span-skip value_byte 16 (drop l.loop-i.i s) (omega arith) (sym c.plain_16.ensures ∙ c.if-plain_16.true) in
    omega (arith, l.loop-i.invariant, rw drop-drop at k)

pub returns : goal.returns
unfolding span
returns c = omega (arith, rw (done c.args.s.now c.loop-i.i c.loop-i-test.false) at c.loop-i.invariant)

pub loop-i-init : goal.loop-i-init
loop-i-init c = refl

pub returns-then-s-i-lt16 : goal.returns-then-s-i-lt16
returns-then-s-i-lt16 c = c.short_end.ensures ∙ c.loop-i.invariant

pub returns-else-plain_16 : goal.returns-else-plain_16
returns-else-plain_16 c = c.value_end.ensures ∙ c.loop-i.invariant
