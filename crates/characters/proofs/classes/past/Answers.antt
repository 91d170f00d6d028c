-- `classes::past` meets its contract: what is left to pass from `i` is the whole answer. Assumes nothing.
use Rattle.std.proofs.Common.{rules}
use mathlib.Core.Path.{sym, ◌∙◌}
use Rattle.base.proofs.Span.{span-goes, span-stops, span-ends}
use Rattle.characters.proofs.classes.past.Goals as goal
use Rattle.characters.proofs.classes.past.Goals.{then-loop-i-test+else-test, else-loop-i-test}

pub loop-i-preserved : goal.loop-i-preserved
loop-i-preserved g c = λ p h. span-goes (c.loop-i.invariant p h) (search rules) (sym (h _ _ (search rules) c.test.ensures) ∙ c.if-test.true)

pub returns : goal.returns
returns g c = λ p h.
    elim c.loop-i-test.branch [
      | then-loop-i-test+else-test w ↦ span-stops (c.loop-i.invariant p h) (search rules) (sym (h _ _ (search rules) w.test.ensures) ∙ w.if-test.false)
      | else-loop-i-test w ↦ span-ends (c.loop-i.invariant p h) (search rules)
    ]
