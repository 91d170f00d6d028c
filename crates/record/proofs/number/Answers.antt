-- `record::number` meets its contract: the bytes behind the place, as a number. Assumes nothing.
use mathlib.Core.Path.{◌≡◌}
use Prim.Native.Nat.{◌+◌, ◌-◌}
use native.Mathlib.Omega.{arith}
use Rattle.record.proofs.Numbers.{reading-begin, reading-done, reading-small, reading-next}
use Rattle.record.proofs.number.Goals as goal

pub loop-i-init : goal.loop-i-init
loop-i-init g c = reading-begin c.args.s.now c.args.at g.row.N

pub overflow_mul-n : goal.overflow_mul-n
overflow_mul-n g c = let h = reading-small _ _ _ c.loop-i.invariant c.requires.1 in omega arith

pub overflow_add-n : goal.overflow_add-n
overflow_add-n g c = let h = reading-small _ _ _ c.loop-i.invariant c.requires.1 in let b = c.type_inv.s (c.args.at + (c.loop-i.i - 1)) in omega (arith, h, b)

pub loop-i-preserved : goal.loop-i-preserved
loop-i-preserved g c = reading-next _ _ _ c.loop-i.invariant c.requires.0 c.loop-i.auto.i c.loop-i-test.true c.from.ensures (omega (arith, c.from.ensures, c.type_inv.s (c.args.at + (c.loop-i.i - 1))))

pub returns : goal.returns
returns g c = let z : c.loop-i.i ≡ 0 = omega arith in reading-done c.args.s.now c.args.at g.row.N (rw z at c.loop-i.invariant)
