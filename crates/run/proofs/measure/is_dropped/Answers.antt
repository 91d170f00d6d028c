-- `measure::is_dropped` meets its contract: what is left of the pieces answers as all. Assumes nothing.
use borrow.Author.Rules.{rules}
use native.Mathlib.Omega.{arith}
use mathlib.Core.Path.{refl, sym, ◌∙◌}
use mathlib.Core.Bool.{false}
use Rattle.base.specs.Lists.{all}
use Rattle.command.proofs.Pieces.{pieces-done, pieces-next, pieces-further}
use Rattle.run.proofs.measure.is_dropped.Goals as goal

pub loop-i-init : goal.loop-i-init
loop-i-init c = refl

pub loop-i-smaller : goal.loop-i-smaller
loop-i-smaller c =
    omega (arith, pieces-further false c.args.s.now c.loop-i.i c.next_at-i.ensures)

pub loop-i-preserved : goal.loop-i-preserved
unfolding all
loop-i-preserved c =
    rw (pieces-next false c.args.s.now c.loop-i.i c.next_at-i.ensures (search rules) c.piece_at.ensures, sym c.is_nothing.ensures ∙ c.if-is_nothing.true) at c.loop-i.invariant

pub returns-else-is_nothing : goal.returns-else-is_nothing
unfolding all
returns-else-is_nothing c =
    rw (pieces-next false c.args.s.now c.loop-i.i refl (search rules) c.piece_at.ensures, sym c.is_nothing.ensures ∙ c.if-is_nothing.false) at c.loop-i.invariant

pub returns : goal.returns
unfolding all
returns c = rw (pieces-done false c.args.s.now c.loop-i.i c.loop-i-test.false) at c.loop-i.invariant
