-- `kveldrim_complete` meets its contract: it is the call. Assumes nothing.
use Rattle.abi.proofs.Telling.{same-returned}
use Rattle.kveldrim.proofs.kveldrim_complete.Goals as goal

pub returns : goal.returns
returns c = search same-returned
