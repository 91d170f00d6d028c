-- `choose_ends` meets its contract: the calls that led to each return say which answer the definition has. Assumes nothing.
use mathlib.Core.Path.{sym, ◌∙◌}
use native.Mathlib.Omega.{arith}
use Rattle.std.proofs.lemmas.Grind.{common_steps}
use Rattle.entry.specs.Choose.{choose}
use Rattle.wellformed.proofs.Accepts.{check-good}
use Rattle.rows.specs.Title.{desktop_entry}
use Rattle.entry.proofs.choose_ends.Goals as goal

pub returns-in_err-check : goal.returns-in_err-check
unfolding choose
returns-in_err-check c = grind (arith, common_steps)

pub returns-then-not-is_group : goal.returns-then-not-is_group
unfolding choose
returns-then-not-is_group c = grind (arith, common_steps)

pub chosen_ends-requires : goal.chosen_ends-requires
chosen_ends-requires c =
    let k = check-good desktop_entry c.args.file.now (sym c.in_ok-check.was ∙ c.check.ensures) in
    (k.0, sym c.is_plain.ensures ∙ c.if-not-is_plain.false, sym c.is_locale.ensures ∙ c.if-not-is_locale.false)

pub returns : goal.returns
unfolding choose
returns c = grind (arith, common_steps)
