-- `tell_batched` meets its contract: all numbers are written, also those of a batch that was stopped. Assumes nothing.
use mathlib.Core.Path.{refl}
use Rattle.abi.proofs.tell_batched.Goals as goal

pub returns-in-None : goal.returns-in-None
returns-in-None c file journal = rw c.in-None.is (record { returned = record { code_is = refl; place_is = refl; byte_is = refl }; done_is = refl; left = refl })

pub returns-in-Some : goal.returns-in-Some
returns-in-Some c file journal =
    rw c.in-Some.is
    (record { returned = record { code_is = c.refuse.ensures.0; place_is = c.refuse.ensures.1; byte_is = c.refuse.ensures.2 }; done_is = refl; left = refl })
