-- `classes::short_end` meets its contract: the last sixteen bytes reach back to the place or behind it. Assumes nothing.
use native.Mathlib.Omega.{arith}
use mathlib.Core.Path.{◌≡◌, sym, ap, ◌∙◌}
use Prim.Native.Nat.{◌-◌}
use lib.ListN.{length, take, drop, length-drop}
use lib.Seq.{take_all}
use Rattle.base.specs.Lists.{all}
use Rattle.base.proofs.Span.{span_last}
use Rattle.characters.specs.Class.{value_byte}
use Rattle.characters.proofs.classes.short_end.Goals as goal

pub returns-then-plain_16 : goal.returns-then-plain_16
returns-then-plain_16 c =
    let a = c.args in
    let s = a.s.now in
    let d = length-drop (length s - 16) s in
    let t : take 16 (drop (length s - 16) s) ≡ drop (length s - 16) s = take_all 16 (drop (length s - 16) s) (omega arith) in
    let e = sym c.plain_16.ensures ∙ c.if-plain_16.true in
    span_last value_byte s (length s - 16) a.from (omega arith) (omega arith) (ap (all value_byte) (sym t) ∙ e)
