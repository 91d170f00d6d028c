-- `has_postfixed` meets its contract: no row before the iterator's place is such a key. Assumes nothing.
use mathlib.Core.Path.{◌∙◌}
use Rattle.rows.proofs.Seek.{same_none}
use Rattle.rows.proofs.Turns.{turn-inside, turn-end, turn-bytes, turn-of}
use Rattle.change.proofs.Passing.{lone-start, lone-end, lone-not, lone-next}
use Rattle.change.proofs.has_postfixed.Goals as goal

pub loop-row-init : goal.loop-row-init
loop-row-init c =
    let b = c.new-row-items.ensures in
    rw (c.into_iter-row-iterator.ensures.into_iter_gives, b.start)
    (record { ready = tt; ends = tt; of = b.of; lone = lone-start _ _ _ (c.is_empty-inside.ensures ∙ same_none _) })

pub returns-then-is_postfixed : goal.returns-then-is_postfixed
returns-then-is_postfixed c =
    let w = c.loop-row.invariant in
    let t = c.in-Some.ensures.steps in
    lone-not w.lone (turn-inside w.of t) (turn-end w.of t) (rw (turn-bytes w.of t) at c.in_group-inside.ensures)
    (rw (← turn-bytes w.of t, ← c.is_postfixed.ensures) c.if-is_postfixed.true)

pub loop-row-preserved : goal.loop-row-preserved
loop-row-preserved c =
    let w = c.loop-row.invariant in
    let t = c.in-Some.ensures.steps in
    record {
      ready = tt;
      ends = tt;
      of = turn-of w.of t;
      lone = rw t.next_start
          (lone-next w.lone (turn-inside w.of t) (turn-end w.of t) (rw (turn-bytes w.of t) at c.in_group-inside.ensures)
          (rw (← turn-bytes w.of t, ← c.is_postfixed.ensures) c.if-is_postfixed.false));
    }

pub returns : goal.returns
returns c = lone-end c.loop-row.invariant.lone (rw c.loop-row.invariant.of at c.in-None.ensures.steps)
