-- `rows::is_joined` meets its contract: the parts are compared one by one. Assumes nothing.
use mathlib.Core.Path.{sym, ◌∙◌}
use mathlib.Core.Bool.{and-false, and-true}
use lib.ListN.{length, take}
use Rattle.base.specs.Lists.{same}
use Rattle.base.proofs.Tests.{pointwise_same}
use Rattle.base.proofs.Tail.{tail-lent}
use Rattle.rows.proofs.Reading.{too_short, joined_same}
use Rattle.rows.proofs.is_joined.Goals as goal

pub returns-then-s-n : goal.returns-then-s-n
returns-then-s-n c =
    let a = c.args in
    sym (joined_same a.front.now a.rest.now a.s.now ∙ rw (too_short a.front.now a.s.now c.if-s-n.true))

pub returns-then-eq : goal.returns-then-eq
returns-then-eq c =
    let a = c.args in
    c.begins.ensures
    ∙ sym (joined_same a.front.now a.rest.now a.s.now ∙ rw (← tail-lent (length a.front.now) a.s.now, ← pointwise_same a.rest.now, ← c.eq.ensures, c.if-eq.true) (and-true _))

pub returns-else-eq : goal.returns-else-eq
returns-else-eq c =
    let a = c.args in
    c.if-eq.false
    ∙ sym (joined_same a.front.now a.rest.now a.s.now
    ∙ rw (← tail-lent (length a.front.now) a.s.now, ← pointwise_same a.rest.now, ← c.eq.ensures, c.if-eq.false) (and-false (same a.front.now (take (length a.front.now) a.s.now))))
