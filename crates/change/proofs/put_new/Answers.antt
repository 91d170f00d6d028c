-- `put_new` meets its contract: each arm writes what its target says. Assumes nothing.
use native.Mathlib.Omega.{arith}
use Rattle.change.proofs.Writing.{entry_length, new-entry-length, write-none}
use Rattle.change.proofs.put_new.Goals as goal

pub put_line-requires : goal.put_line-requires
put_line-requires c =
    let a = c.args in
    omega (arith, rw (c.in-Ok.is, c.in-Entry.is) at c.requires, entry_length a.key.now a.text.now, new-entry-length a.key.now a.text.now c.in-Entry.at c.in-Entry.after)

pub put_raw-requires : goal.put_raw-requires
put_raw-requires c = rw (c.in-Ok.is, c.in-Value.is) at c.requires

pub returns-in-Value : goal.returns-in-Value
returns-in-Value c = rw (c.in-Ok.is, c.in-Value.is) c.put_raw.ensures

pub returns-in-Entry : goal.returns-in-Entry
returns-in-Entry c = rw (c.in-Ok.is, c.in-Entry.is) c.put_line.ensures

pub returns-in-Line : goal.returns-in-Line
returns-in-Line c = rw (c.in-Ok.is, c.in-Line.is) (write-none _ _)

pub returns-in_default : goal.returns-in_default
returns-in_default c = rw c.in_default.is (write-none _ _)
