-- `kveldrim_forget` meets its contract: it is the call. Assumes nothing.
use Rattle.abi.proofs.Telling.{forgot-done, forgot-refused}
use Rattle.kveldrim.proofs.edits.kveldrim_forget.Goals as goal

pub returns-in-Ok : goal.returns-in-Ok
returns-in-Ok c = forgot-done c.in-Ok.ensures

pub returns-in-Err : goal.returns-in-Err
returns-in-Err c = forgot-refused c.in-Err.ensures c.refuse.ensures.0 c.refuse.ensures.1
