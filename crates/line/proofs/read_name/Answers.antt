-- `read_name` meets its contract: the tests that led to each return say which case of the definition holds. Assumes nothing.
use native.Mathlib.Omega.{arith}
use mathlib.Core.Path.{◌∙◌}
use borrow.Author.Tests.{eq-eqb, ne_eqb}
use Rattle.base.proofs.Scan.{inside}
use Rattle.line.specs.Name.{read_name}
use native.Mathlib.Nat.{zero-add}
use Rattle.line.proofs.read_name.Goals as goal

pub returns-then-key-eq0 : goal.returns-then-key-eq0
unfolding read_name
returns-then-key-eq0 c = rw (← (c.span_end-key.ensures ∙ zero-add _), eq-eqb _ _ c.if-key-eq0.true)

pub postfix-requires : goal.postfix-requires
postfix-requires c =
    let b = c in
    let e = b in
    inside e.args.s.now e.span_end-key.result b.byte_at.result b.byte_at.ensures (omega arith)

pub returns-then-byte_at-eq91 : goal.returns-then-byte_at-eq91
unfolding read_name
returns-then-byte_at-eq91 c =
    let b = c in
    let e = b in
    rw (← (e.span_end-key.ensures ∙ zero-add _), ne_eqb _ _ e.if-key-eq0.false, ← b.byte_at.ensures, eq-eqb _ _ c.if-byte_at-eq91.true) c.postfix.ensures

pub returns : goal.returns
unfolding read_name
returns c =
    let b = c in
    let e = b in
    rw (← (e.span_end-key.ensures ∙ zero-add _), ne_eqb _ _ e.if-key-eq0.false, ← b.byte_at.ensures, ne_eqb _ _ c.if-byte_at-eq91.false)
