-- `is_complete` meets its contract: the check first, and then 18. Assumes nothing.
use mathlib.Core.Path.{sym, ◌∙◌}
use native.Mathlib.Omega.{arith}
use Rattle.std.proofs.lemmas.Grind.{common_steps}
use Rattle.wellformed.proofs.Accepts.{check-good}
use Rattle.rows.specs.Title.{desktop_entry}
use Rattle.entry.specs.Complete.{complete}
use Rattle.entry.proofs.is_complete.Goals as goal

pub and_then-requires : goal.and_then-requires
and_then-requires c = λ _ e _ _ _ _ _ _. (check-good desktop_entry c.args.file.now (sym e ∙ c.check.ensures)).0

pub returns : goal.returns
unfolding complete
returns c = grind (arith, common_steps)
