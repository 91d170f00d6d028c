-- `record::put_number` meets its contract: the bytes written so far and those of the rest are the number's. Assumes nothing.
use native.Mathlib.Omega.{arith}
use Rattle.base.proofs.Fill.{fill-as, fill-byte, fill_end}
use Rattle.record.proofs.Numbers.{length-number, bytes-next, bytes-end}
use Rattle.record.proofs.put_number.Goals as goal

pub loop-i-preserved : goal.loop-i-preserved
loop-i-preserved g c =
    fill-byte (fill-as c.loop-i.invariant (bytes-next g.row.N c.loop-i.i c.loop-i.rest c.loop-i-test.true)) (omega (arith, length-number g.row.N c.args.n, c.requires))

pub returns : goal.returns
returns g c = (fill_end (fill-as c.loop-i.invariant (bytes-end g.row.N c.loop-i.i c.loop-i.rest c.loop-i-test.false))).1
