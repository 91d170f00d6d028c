-- `kveldrim_person` meets its contract: it is the call. Assumes nothing.
use Rattle.abi.proofs.Telling.{same-no-byte}
use Rattle.abi.proofs.NoByte.{person-zero}
use Rattle.kveldrim.proofs.edits.kveldrim_person.Goals as goal

pub returns : goal.returns
returns c = search (same-no-byte, person-zero)
