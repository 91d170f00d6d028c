-- `kveldrim_read_text` meets its contract: it is the call. Assumes nothing.
use Rattle.abi.proofs.Telling.{same-no-byte}
use Rattle.abi.proofs.NoByte.{read-zero}
use borrow.Author.Rules.{rules}
use Rattle.kveldrim.proofs.kveldrim_read_text.Goals as goal

pub returns : goal.returns
returns c = record { told = search (same-no-byte, read-zero); output = search rules }
