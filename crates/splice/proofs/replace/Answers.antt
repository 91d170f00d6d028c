-- `splice::replace` meets its contract: the tail moved, the new bytes and the zeros make the edited file. Assumes nothing.
use Prim.Native.Nat.{◌+◌, ◌-◌}
use native.Mathlib.Omega.{arith}
use Rattle.splice.proofs.Whole.{whole}
use Rattle.splice.proofs.replace.Goals as goal

pub returns : goal.returns
returns c =
    let a = c.args in
    cc (whole a.buffer.now a.new.now a.size a.place a.old (a.size - (a.place + a.old)) (omega arith) (omega arith) (omega arith))
