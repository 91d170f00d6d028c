-- `ask` meets its contract: the calls that led to each return say which answer the definition has. Assumes nothing.
use mathlib.Core.Path.{sym, ◌∙◌}
use native.Mathlib.Omega.{arith}
use Rattle.std.proofs.lemmas.Grind.{common_steps}
use Rattle.record.proofs.Bodies.{count-reads, count-refuses}
use Rattle.exec.specs.Expand.{asked_items}
use Rattle.exec.proofs.ask.Goals as goal

pub returns-in_err-check : goal.returns-in_err-check
unfolding asked_items
returns-in_err-check c = grind (arith, common_steps)

pub returns-in_default : goal.returns-in_default
unfolding asked_items
returns-in_default c =
    rw (sym c.check.ensures ∙ c.in_ok-check.was, count-refuses 2 65536 c.args.list.now (sym c.count.ensures ∙ c.in_default.is))

pub returns-then-not-is_locale : goal.returns-then-not-is_locale
unfolding asked_items
returns-then-not-is_locale c =
    let k = count-reads 2 65536 c.args.list.now (sym c.count.ensures ∙ c.in-Some.is) in
    rw (sym c.check.ensures ∙ c.in_ok-check.was, k.1, sym c.is_locale.ensures ∙ c.if-not-is_locale.true)

pub are_fit-requires : goal.are_fit-requires
are_fit-requires c =
    let k = count-reads 2 65536 c.args.list.now (sym c.count.ensures ∙ c.in-Some.is) in rw k.1

pub returns-then-not-are_fit : goal.returns-then-not-are_fit
unfolding asked_items
returns-then-not-are_fit c =
    let k = count-reads 2 65536 c.args.list.now (sym c.count.ensures ∙ c.in-Some.is) in
    let f = k.1 in
    grind (arith, common_steps)

pub returns : goal.returns
unfolding asked_items
returns c =
    let k = count-reads 2 65536 c.args.list.now (sym c.count.ensures ∙ c.in-Some.is) in
    let f = k.1 in
    grind (arith, common_steps)
