-- `kveldrim_expand` meets its contract: it is the call. Assumes nothing.
use Rattle.abi.proofs.Telling.{same_number}
use borrow.Author.Rules.{rules}
use Rattle.kveldrim.proofs.kveldrim_expand.Goals as goal

pub returns : goal.returns
returns c = record { told = search same_number; output = search rules }
