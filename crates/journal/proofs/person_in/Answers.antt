-- `journal::person_in` meets its contract: the kind before the n-th body says whether it begins with a person. Assumes nothing.
use Rattle.std.specs.Prelude.{Ok}
use mathlib.Core.Path.{◌∙◌, sym, ap}
use native.Mathlib.Omega.{arith}
use Rattle.base.proofs.Tests.{some-there}
use Rattle.journal.proofs.Persons.{person-found, person-missing, kind-inside, kind-there, person-inside, person-four, person-other}
use Rattle.journal.proofs.Joined.{of}
use Rattle.journal.proofs.person_in.Goals as goal

pub nth-requires : goal.nth-requires
nth-requires c =
    let e = some-there _ c.requires in
    rw (of _ e.0 e.1).cuts

pub returns-in_default : goal.returns-in_default
returns-in_default c es e = person-missing _ _ es e (sym c.nth.ensures ∙ c.in_default.is)

pub overflow_sub-from : goal.overflow_sub-from
overflow_sub-from c =
    let n = c in
    let e = some-there _ n.requires in
    let f = person-found _ _ e.0 e.1 (sym n.nth.ensures ∙ c.in-Some.is) in
    omega (arith, (kind-inside f).0)

pub number-requires : goal.number-requires
number-requires c =
    let n = c in
    let e = some-there _ n.requires in
    let f = person-found _ _ e.0 e.1 (sym n.nth.ensures ∙ c.in-Some.is) in
    ((kind-inside f).1, omega arith)

pub number-requires-then-number-eq4 : goal.number-requires-then-number-eq4
number-requires-then-number-eq4 c =
    let k = c in
    let n = k in
    let e = some-there _ n.requires in
    let f = person-found _ _ e.0 e.1 (sym n.nth.ensures ∙ k.in-Some.is) in
    (omega (arith, person-inside f (sym (kind-there f) ∙ sym k.number.ensures.0 ∙ c.if-number-eq4.true), f.stands.inside), omega arith)

pub returns-then-number-eq4 : goal.returns-then-number-eq4
returns-then-number-eq4 c es e =
    let k = c in
    let n = k in
    let f = person-found _ _ es e (sym n.nth.ensures ∙ k.in-Some.is) in
    ap Ok c.number-then-number-eq4.ensures.0 ∙ person-four f (sym (kind-there f) ∙ sym k.number.ensures.0 ∙ c.if-number-eq4.true)

pub returns : goal.returns
returns c es e =
    let k = c in
    let n = k in
    let f = person-found _ _ es e (sym n.nth.ensures ∙ k.in-Some.is) in
    person-other f (λ z. c.if-number-eq4.false (k.number.ensures.0 ∙ kind-there f ∙ z))
