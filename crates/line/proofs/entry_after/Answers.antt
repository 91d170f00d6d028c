-- `entry_after` meets its contract: the tests that led to each return say which case of the definition holds. Assumes nothing.
use native.Mathlib.Omega.{arith}
use borrow.Author.Tests.{eq-eqb, ne_eqb}
use lib.ListN.{length, drop, length-drop}
use Prim.Native.Nat.{◌<◌}
use Rattle.base.proofs.Scan.{inside}
use Rattle.line.specs.Line.{entry_after}
use Rattle.characters.specs.Class.{value_byte}
use Rattle.characters.specs.declared.Due.TheVariants.{Start}
use Rattle.characters.proofs.Utf8Laws.{fault-within}
use Rattle.line.proofs.entry_after.Goals as goal
use Rattle.line.proofs.entry_after.Goals.{Else-byte_at-ne61}

-- `=` stands inside
sign-inside : (c : Else-byte_at-ne61) → c.span_end-sign.result < length c.args.s.now
sign-inside c =
    let b = c in
    let e = b in
    inside e.args.s.now e.span_end-sign.result b.byte_at.result b.byte_at.ensures (omega arith)

pub returns-then-byte_at-ne61 : goal.returns-then-byte_at-ne61
unfolding entry_after
returns-then-byte_at-ne61 c = rw (← c.span_end-sign.ensures, ← c.byte_at.ensures, ne_eqb _ _ c.if-byte_at-ne61.true)

pub overflow_add-result : goal.overflow_add-result
overflow_add-result c =
    let m = c in
    let f = m in
    let v = f in
    let a = v.args in
    omega (arith, rw (← f.scan_value.ensures, m.in-Some.is) at (fault-within value_byte Start (drop v.span_end-value.result a.s.now)), length-drop v.span_end-value.result a.s.now)

pub returns-in-None : goal.returns-in-None
unfolding entry_after
returns-in-None c =
    let f = c in
    let v = f in
    let b = v in
    rw (← b.span_end-sign.ensures, ← b.byte_at.ensures, eq-eqb _ _ v.if-byte_at-ne61.false, ← v.span_end-value.ensures, ← f.scan_value.ensures, c.in-None.is)

pub returns-in-Some : goal.returns-in-Some
unfolding entry_after
returns-in-Some c =
    let f = c in
    let v = f in
    let b = v in
    rw (← b.span_end-sign.ensures, ← b.byte_at.ensures, eq-eqb _ _ v.if-byte_at-ne61.false, ← v.span_end-value.ensures, ← f.scan_value.ensures, c.in-Some.is)

pub overflow_add-sign : goal.overflow_add-sign
overflow_add-sign c = omega (arith, sign-inside (goal.at.overflow_add-sign c).Else-byte_at-ne61)
