-- `new_length` meets its contract: the lengths of the parts, none counted past the limit. Assumes nothing.
use native.Mathlib.Omega.{arith}
use Rattle.change.proofs.Writing.{new-entry-length}
use Rattle.change.proofs.new_length.Goals as goal

pub returns-in-Entry : goal.returns-in-Entry
returns-in-Entry c =
    let a = c.args in
    rw (c.in-Ok.is, c.in-Entry.is) (omega (arith, new-entry-length a.key.now a.text.now c.in-Entry.at c.in-Entry.after))

pub returns-in-Value : goal.returns-in-Value
returns-in-Value c = rw (c.in-Ok.is, c.in-Value.is) (cc)

pub returns-in-Line : goal.returns-in-Line
returns-in-Line c = rw (c.in-Ok.is, c.in-Line.is)

pub returns-in_default : goal.returns-in_default
returns-in_default c = rw c.in_default.is
