-- `record::put_number` meets its contract: the bytes written so far and those of the rest are the number's. Assumes nothing.
use Prim.Native.Nat.{◌-◌}
use Rattle.base.proofs.Fill.{Fill}
use Rattle.record.specs.Number.{little_endian}
use Rattle.record.proofs.put_number.Given as goal

abbrev pub invariant-loop-i : goal.invariant-loop-i
invariant-loop-i g l = Fill l.initial.out (little_endian g.row.N l.n) l.out l.i (little_endian (g.row.N - l.i) l.rest)
