-- `check_with` meets its contract: 6 is asked where 2 to 5 are no fault. Assumes nothing.
use mathlib.Core.Path.{sym, ap, ◌∙◌}
use Rattle.wellformed.specs.Pass.{scanned}
use Rattle.wellformed.proofs.Accepts.{titled-good}
use Rattle.wellformed.proofs.check_with.Goals as goal

pub plain_keys-requires : goal.plain_keys-requires
plain_keys-requires c = titled-good c.args.leading.now c.args.file.now (sym (ap scanned c.in_ok-scan.was) ∙ c.scan.ensures.0)
