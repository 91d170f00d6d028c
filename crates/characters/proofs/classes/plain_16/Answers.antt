-- `classes::plain_16` meets its contract: the flag says whether every byte passed is plain. Assumes nothing.
use native.Mathlib.Omega.{arith}
use mathlib.Core.Path.{◌≡◌, refl, sym}
use Prim.Native.Nat.{◌+◌, ◌-◌}
use lib.ListN.{take, drop}
use lib.Seq.{take_all}
use native.Mathlib.Nat.{zero-add}
use Rattle.base.proofs.Span.{all-next}
use Rattle.base.specs.Lists.{all}
use Rattle.characters.specs.Class.{value_byte}
use Rattle.characters.proofs.classes.plain_16.Goals as goal

pub loop-b-init : goal.loop-b-init
unfolding all
loop-b-init c = refl

pub loop-b-preserved : goal.loop-b-preserved
loop-b-preserved c =
    let x = take (c.args.i + 16 - c.args.i) (drop c.args.i c.args.s.now) in
    rw (c.is_value-plain.ensures, c.loop-b.invariant) (sym (rw zero-add at (all-next value_byte x 0 c.loop-b.b-index (omega arith))))

pub returns : goal.returns
returns c =
    let x = drop c.args.i c.args.s.now in
    let n : c.args.i + 16 - c.args.i ≡ 16 = omega arith in
    rw (take_all c.loop-b.b-index (take (c.args.i + 16 - c.args.i) x) (omega arith), n) at c.loop-b.invariant
