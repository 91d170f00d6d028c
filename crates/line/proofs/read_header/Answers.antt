-- `read_header` meets its contract: the tests that led to each return say which case of the definition holds. Assumes nothing.
use native.Mathlib.Omega.{arith}
use borrow.Author.Tests.{eq-eqb, ne_eqb}
use Rattle.base.proofs.Scan.{inside}
use Rattle.line.specs.Line.{read_header}
use Rattle.line.proofs.read_header.Goals as goal

pub returns-then-e-eq1 : goal.returns-then-e-eq1
unfolding read_header
returns-then-e-eq1 c = rw (← c.span_end-e.ensures, eq-eqb _ _ c.if-e-eq1.true)

pub returns-then-byte_at-ne93 : goal.returns-then-byte_at-ne93
unfolding read_header
returns-then-byte_at-ne93 c =
    let b = c in
    let e = b in
    rw (← e.span_end-e.ensures, ne_eqb _ _ e.if-e-eq1.false, ← b.byte_at.ensures, ne_eqb _ _ c.if-byte_at-ne93.true)

pub overflow_add-e : goal.overflow_add-e
overflow_add-e c =
    let b = c in
    let e = b in
    omega (arith, inside e.args.s.now e.span_end-e.result b.byte_at.result b.byte_at.ensures (omega arith))

pub returns-then-e-s : goal.returns-then-e-s
unfolding read_header
returns-then-e-s c =
    let b = c in
    let e = b in
    rw (← e.span_end-e.ensures, ne_eqb _ _ e.if-e-eq1.false, ← b.byte_at.ensures, eq-eqb _ _ c.if-byte_at-ne93.false, eq-eqb _ _ c.if-e-s.true)

pub returns : goal.returns
unfolding read_header
returns c =
    let b = c in
    let e = b in
    rw (← e.span_end-e.ensures, ne_eqb _ _ e.if-e-eq1.false, ← b.byte_at.ensures, eq-eqb _ _ c.if-byte_at-ne93.false, ne_eqb _ _ c.if-e-s.false)

pub overflow_add-result : goal.overflow_add-result
overflow_add-result c =
    let b = c in
    let e = b in
    omega (arith, inside e.args.s.now e.span_end-e.result b.byte_at.result b.byte_at.ensures (omega arith))
