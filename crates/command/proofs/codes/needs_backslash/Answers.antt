-- `codes::needs_backslash` meets its contract: the set is the definition's. Assumes nothing.
use Rattle.command.specs.Codes.{needs_backslash}
use Rattle.command.proofs.codes.needs_backslash.Goals as goal

pub returns : goal.returns
unfolding needs_backslash
returns c = c.one_of.ensures
