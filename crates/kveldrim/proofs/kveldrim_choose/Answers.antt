-- `kveldrim_choose` meets its contract: it is the call. Assumes nothing.
use Rattle.abi.proofs.Telling.{same_ends}
use Rattle.kveldrim.proofs.kveldrim_choose.Goals as goal

pub returns : goal.returns
returns c = search same_ends
