-- `is_desktop_entry` meets its contract. Assumes nothing.
use mathlib.Core.Path.{◌∙◌}
use Rattle.base.proofs.Tests.{same-by, same-sym}
use Rattle.complete.proofs.is_desktop_entry.Goals as goal

pub returns : goal.returns
returns c = same-by _ c.eq.ensures c.as_slice.ensures ∙ same-sym _ _
