-- `chosen_ends` meets its contract: the ends are those of the row that is chosen. Assumes nothing.
use native.Mathlib.Omega.{arith}
use Rattle.std.proofs.lemmas.Grind.{common_steps}
use Rattle.entry.proofs.Lookups.{ends-answer}
use Rattle.entry.proofs.chosen_ends.Goals as goal

pub returns : goal.returns
returns c = grind (arith, common_steps, ends-answer)
