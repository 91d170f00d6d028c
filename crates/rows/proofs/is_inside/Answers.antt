-- `rows::is_inside` meets its contract: a good line that starts with `[` is a header, and another leaves the group. Assumes nothing.
use borrow.Author.Tests.{eq-eqb, ne_eqb}
use native.Mathlib.Omega.{arith}
use mathlib.Core.Path.{sym, ◌∙◌}
use Rattle.base.proofs.Tests.{pointwise_same}
use Rattle.rows.proofs.Reading.{header-good, inside-stays}
use Rattle.rows.proofs.is_inside.Goals as goal

pub slice_bounds-eq-count : goal.slice_bounds-eq-count
slice_bounds-eq-count c =
    let a = c.args in
    omega (arith, (header-good a.l.now (eq-eqb _ _ (sym c.byte_at.ensures ∙ c.if-byte_at-eq91.true)) c.requires).1)

pub returns-then-byte_at-eq91 : goal.returns-then-byte_at-eq91
returns-then-byte_at-eq91 c =
    let a = c.args in
    rw (c.eq.ensures, pointwise_same, (header-good a.l.now (eq-eqb _ _ (sym c.byte_at.ensures ∙ c.if-byte_at-eq91.true)) c.requires).0)

pub overflow_sub-t : goal.overflow_sub-t
overflow_sub-t c = omega (arith, ((header-good c.args.l.now (eq-eqb _ _ (sym c.byte_at.ensures ∙ c.if-byte_at-eq91.true)) c.requires).1))

pub slice_bounds-eq-start : goal.slice_bounds-eq-start
slice_bounds-eq-start c = omega (arith, ((header-good c.args.l.now (eq-eqb _ _ (sym c.byte_at.ensures ∙ c.if-byte_at-eq91.true)) c.requires).1))

pub slice_bounds-eq-end : goal.slice_bounds-eq-end
slice_bounds-eq-end c = omega (arith, ((header-good c.args.l.now (eq-eqb _ _ (sym c.byte_at.ensures ∙ c.if-byte_at-eq91.true)) c.requires).1))

pub returns : goal.returns
returns c = inside-stays _ _ _ (ne_eqb _ _ (λ z. c.if-byte_at-eq91.false (c.byte_at.ensures ∙ z)))
