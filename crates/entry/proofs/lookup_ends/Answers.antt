-- `lookup_ends` meets its contract: the calls that led to each return say which answer the definition has. Assumes nothing.
use mathlib.Core.Path.{sym, ◌∙◌}
use native.Mathlib.Omega.{arith}
use Rattle.std.proofs.lemmas.Grind.{common_steps}
use Rattle.entry.specs.Lookup.{lookup}
use Rattle.entry.proofs.Lookups.{ends-answer}
use Rattle.wellformed.proofs.Accepts.{check-good}
use Rattle.rows.specs.Title.{desktop_entry}
use Rattle.entry.proofs.lookup_ends.Goals as goal

pub returns-in_err-check : goal.returns-in_err-check
unfolding lookup
returns-in_err-check c = grind (arith, common_steps)

pub returns-then-not-is_group : goal.returns-then-not-is_group
unfolding lookup
returns-then-not-is_group c = grind (arith, common_steps)

pub find_key-requires : goal.find_key-requires
find_key-requires c = (check-good desktop_entry c.args.file.now (sym c.in_ok-check.was ∙ c.check.ensures)).0

pub returns : goal.returns
unfolding lookup
returns c = grind (arith, common_steps, ends-answer)
