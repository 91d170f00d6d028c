-- `kveldrim_set` meets its contract: it is the call. Assumes nothing.
use Rattle.abi.proofs.Telling.{called}
use Rattle.kveldrim.proofs.edits.kveldrim_set.Goals as goal

pub returns : goal.returns
returns c = search called
