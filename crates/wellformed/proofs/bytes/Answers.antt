-- `bytes` meets its contract. Assumes nothing.
use mathlib.Core.Path.{◌≡◌}
use Prim.Native.Nat.{◌+◌, ◌-◌}
use native.Mathlib.Omega.{arith}
use Rattle.wellformed.proofs.bytes.Goals as goal

pub returns : goal.returns
returns c =
    let x = c.args.x in
    let e : x.from + x.len - x.from ≡ x.len = omega arith in
    rw e
