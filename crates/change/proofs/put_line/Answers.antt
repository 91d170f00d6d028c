-- `put_line` meets its contract: one piece stands right behind the other. Assumes nothing.
use native.Mathlib.Omega.{arith}
use Rattle.change.proofs.Writing.{write_then}
use Rattle.change.proofs.put_line.Goals as goal

pub returns-then-after : goal.returns-then-after
returns-then-after c =
    rw c.if-after.true (write_then c.put_entry-end.ensures c.write.ensures (omega arith))

pub returns : goal.returns
returns c =
    rw c.if-after.false (write_then c.write-from.ensures c.put_entry.ensures (omega arith))
