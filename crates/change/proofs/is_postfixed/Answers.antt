-- `is_postfixed` meets its contract: each arm is given the reading that it matches. Assumes nothing.
use mathlib.Core.Path.{sym, ◌∙◌}
use native.Mathlib.Omega.{arith}
use lib.Seq.{length-take-le}
use Rattle.base.proofs.Tests.{pointwise_same}
use Rattle.line.proofs.Bounds.{line-within}
use Rattle.change.proofs.is_postfixed.Goals as goal

pub slice_bounds-eq-end : goal.slice_bounds-eq-end
slice_bounds-eq-end c =
    let l = c.args.l.now in
    let w = rw (← c.read_line.ensures, c.in-Entry.is) at (line-within l) in
    sym (length-take-le _ l (omega (arith, w)))

pub returns-then-eq : goal.returns-then-eq
returns-then-eq c =
    rw (c.if-inside.true, ← c.read_line.ensures, c.in-Entry.is, ← pointwise_same, sym c.eq.ensures ∙ c.if-eq.true)

pub returns-else-eq : goal.returns-else-eq
returns-else-eq c =
    rw (c.if-inside.true, ← c.read_line.ensures, c.in-Entry.is, ← pointwise_same, sym c.eq.ensures ∙ c.if-eq.false) c.if-eq.false
