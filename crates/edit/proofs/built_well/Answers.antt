-- `edit::built_well` meets its contract: what is checked is the edited file. Assumes nothing.
use native.Mathlib.Omega.{arith}
use mathlib.Core.Path.{sym, ◌∙◌}
use lib.Seq.{length-take-le}
use Rattle.edit.proofs.Replaying.{built-checked}
use Rattle.edit.proofs.built_well.Goals as goal

pub slice_bounds-check-end-2 : goal.slice_bounds-check-end-2
slice_bounds-check-end-2 c = sym (length-take-le _ c.replace.new.buffer (omega arith))

pub returns : goal.returns
returns c = c.is_ok.ensures.value ∙ built-checked _ _ _ _ _ c.requires.0 c.write.ensures.is c.replace.ensures c.check.ensures
