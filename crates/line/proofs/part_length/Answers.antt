-- `part_length` meets its contract: the tests that led to each return say which case of the definition holds. Assumes nothing.
use native.Mathlib.Omega.{arith}
use borrow.Author.Tests.{eq-eqb, ne_eqb}
use Rattle.base.proofs.Scan.{here, done}
use Rattle.line.specs.Locale.{part_length}
use borrow.Author.Rules.{rules}
use Rattle.line.proofs.part_length.Goals as goal

pub returns-then-s-at : goal.returns-then-s-at
unfolding part_length
returns-then-s-at c = let a = c.args in rw (done a.s.now a.at c.if-s-at.true)

pub returns-then-s-at-2 : goal.returns-then-s-at-2
unfolding part_length
returns-then-s-at-2 c = let a = c.args in rw (here a.s.now a.at (search rules), ne_eqb _ _ c.if-s-at-2.true)

pub returns : goal.returns
unfolding part_length
returns c =
    let i = c in
    let a = i.args in
    rw (here a.s.now a.at (search rules), eq-eqb _ _ i.if-s-at-2.false) (omega (arith, c.span_end.ensures))
