-- `kveldrim_write_text` meets its contract: it is the call. Assumes nothing.
use Rattle.abi.proofs.Telling.{same-no-byte}
use Rattle.abi.proofs.NoByte.{write-zero}
use borrow.Author.Rules.{rules}
use Rattle.kveldrim.proofs.kveldrim_write_text.Goals as goal

pub returns : goal.returns
returns c = record { told = search (same-no-byte, write-zero); output = search rules }
