-- `splice::write` meets its contract: a copy to the front of a tail. Assumes nothing.
use Rattle.base.proofs.Over.{write-tail}
use Rattle.splice.proofs.write.Goals as goal

pub returns : goal.returns
returns c = write-tail _ _ _ c.copy.ensures.is
