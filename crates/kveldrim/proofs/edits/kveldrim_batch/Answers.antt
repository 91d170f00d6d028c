-- `kveldrim_batch` meets its contract: it is the call. Assumes nothing.
use Rattle.abi.proofs.Telling.{called_batch}
use Rattle.kveldrim.proofs.edits.kveldrim_batch.Goals as goal

pub returns : goal.returns
returns c = search called_batch
