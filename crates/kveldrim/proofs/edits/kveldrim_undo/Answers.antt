-- `kveldrim_undo` meets its contract: it is the call. Assumes nothing.
use Rattle.abi.proofs.Telling.{called}
use Rattle.kveldrim.proofs.edits.kveldrim_undo.Goals as goal

pub returns : goal.returns
returns c = search called
