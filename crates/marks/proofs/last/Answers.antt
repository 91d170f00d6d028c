-- `marks::last` meets its contract: fewer than four bytes are those from the start on. Assumes nothing.
use native.Mathlib.Omega.{arith}
use mathlib.Core.Path.{◌≡◌}
use Prim.Native.Nat.{◌-◌}
use lib.ListN.{length}
use Rattle.marks.proofs.last.Goals as goal

pub returns : goal.returns
returns c =
    let x = c.args.x.now in
    let z : length x - 4 ≡ 0 = omega arith in
    let a = c.byte.ensures in
    let b = c.byte-2.ensures in
    let d = c.byte-3.ensures in
    let e = c.byte-4.ensures in
    (rw (z, a.0, b.0, d.0, e.0), omega arith)
