-- `in_group` meets its contract: only a header leads to another group. Assumes nothing.
use borrow.Author.Tests.{ne_eqb}
use native.Mathlib.Omega.{arith}
use mathlib.Core.Path.{◌∙◌}
use lib.ListN.{length}
use Rattle.base.proofs.Tests.{pointwise_same}
use Rattle.line.specs.declared.Line.TheVariants.{Header}
use Rattle.line.proofs.Bounds.{LineWithin, line-within}
use Rattle.rows.proofs.Reading.{group-stays}
use Rattle.change.proofs.in_group.Goals as goal
use Rattle.change.proofs.in_group.Goals.{In-Header}

pub returns-then-byte_at-ne91 : goal.returns-then-byte_at-ne91
returns-then-byte_at-ne91 c = λ g i. rw (group-stays g c.args.l.now (rw (← c.byte_at.ensures) (ne_eqb _ 91 c.if-byte_at-ne91.true))) i

-- a header's name lies in its line
within : (c : In-Header) → let s = c.args in LineWithin (length s.l.now) (Header c.in-Header.end)
within c = rw (← c.read_line.ensures, c.in-Header.is) at (line-within c.args.l.now)

pub slice_bounds-eq-count : goal.slice_bounds-eq-count
slice_bounds-eq-count c = omega (arith, within (goal.at.slice_bounds-eq-count c).In-Header)

pub slice_bounds-eq-start : goal.slice_bounds-eq-start
slice_bounds-eq-start c = omega (arith, within (goal.at.slice_bounds-eq-start c).In-Header)

pub slice_bounds-eq-end : goal.slice_bounds-eq-end
slice_bounds-eq-end c = omega (arith, within (goal.at.slice_bounds-eq-end c).In-Header)

pub returns-in-Header : goal.returns-in-Header
returns-in-Header c = λ g i. rw (← c.read_line.ensures, c.in-Header.is) (c.eq.ensures ∙ pointwise_same _ _)
