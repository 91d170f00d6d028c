-- `is_wrong` meets its contract: each arm is given the reading that it matches. Assumes nothing.
use mathlib.Core.Path.{sym}
use native.Mathlib.Omega.{arith}
use lib.ListN.{length}
use Rattle.base.proofs.Tail.{tail-lent}
use Rattle.line.proofs.Bounds.{LineWithin, line-within}
use Rattle.line.specs.declared.Line.TheVariants.{Entry}
use lib.Seq.{length-take-le}
use Rattle.complete.proofs.is_wrong.Goals as goal
use Rattle.complete.proofs.is_wrong.Goals.{In-Entry}

-- the entry's places lie in its line
within : (c : In-Entry) → LineWithin (length c.args.l.now) (Entry c.in-Entry.key c.in-Entry.name c.in-Entry.value)
within c = rw (← c.read_line.ensures, c.in-Entry.is) at (line-within c.args.l.now)

pub slice_bounds-is_boolean_key-end : goal.slice_bounds-is_boolean_key-end
slice_bounds-is_boolean_key-end c =
    let w = within (goal.at.slice_bounds-is_boolean_key-end c).In-Entry in
    sym (length-take-le _ c.args.l.now (omega (arith, w.2, w.3)))

pub returns-in-Entry : goal.returns-in-Entry
returns-in-Entry c =
    rw (← c.read_line.ensures, c.in-Entry.is, ← c.is_boolean_key.ensures, ← tail-lent _ c.args.l.now, ← c.is_boolean.ensures)

pub slice_bounds-is_boolean-count : goal.slice_bounds-is_boolean-count
slice_bounds-is_boolean-count c = (within (goal.at.slice_bounds-is_boolean-count c).In-Entry).3

pub slice_bounds-is_boolean-start : goal.slice_bounds-is_boolean-start
slice_bounds-is_boolean-start c = (within (goal.at.slice_bounds-is_boolean-start c).In-Entry).3
