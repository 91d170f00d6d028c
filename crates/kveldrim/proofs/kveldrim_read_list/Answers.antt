-- `kveldrim_read_list` meets its contract: it is the call. Assumes nothing.
use Rattle.abi.proofs.Telling.{same-no-byte}
use Rattle.abi.proofs.NoByte.{list-zero}
use borrow.Author.Rules.{rules}
use Rattle.kveldrim.proofs.kveldrim_read_list.Goals as goal

pub returns : goal.returns
returns c = record { told = search (same-no-byte, list-zero); output = search rules }
