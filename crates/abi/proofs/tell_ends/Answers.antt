-- `tell_ends` meets its contract: a refusal is told by its number, place and byte, and writes no other number. Assumes nothing.
use mathlib.Core.Path.{refl}
use Rattle.abi.proofs.tell_ends.Goals as goal

pub returns-in-Ok : goal.returns-in-Ok
returns-in-Ok c = rw c.in-Ok.is (record { returned = record { code_is = refl; place_is = refl; byte_is = refl }; from_is = refl; to_is = refl })

pub returns-in-Err : goal.returns-in-Err
returns-in-Err c = rw c.in-Err.is (record { returned = record { code_is = c.refuse.ensures.0; place_is = c.refuse.ensures.1; byte_is = c.refuse.ensures.2 }; from_is = refl; to_is = refl })
