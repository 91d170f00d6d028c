-- `classes::is_value` meets its contract: it is the definition. Assumes nothing.
use Rattle.characters.specs.Class.{value_byte}
use Rattle.characters.proofs.classes.is_value.Goals as goal

pub returns : goal.returns
unfolding value_byte
returns c = c.within.ensures
