-- `tell_named` meets its contract: a refusal is told by its number, place and byte, and writes no number. Assumes nothing.
use mathlib.Core.Path.{refl}
use Rattle.abi.proofs.tell_named.Goals as goal

pub returns-in-Err : goal.returns-in-Err
returns-in-Err c = rw c.in-Err.is (record { returned = record { code_is = c.refuse.ensures.0; place_is = c.refuse.ensures.1; byte_is = c.refuse.ensures.2 }; number_is = refl })
