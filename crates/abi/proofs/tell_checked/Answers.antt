-- `tell_checked` meets its contract: a refusal is told by its number, place and byte. Assumes nothing.
use Rattle.abi.proofs.tell_checked.Goals as goal

pub returns-in-Err : goal.returns-in-Err
returns-in-Err c = rw c.in-Err.is (record { code_is = c.refuse.ensures.0; place_is = c.refuse.ensures.1; byte_is = c.refuse.ensures.2 })
