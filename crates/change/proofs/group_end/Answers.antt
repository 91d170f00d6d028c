-- `group_end` meets its contract: the last row of the group before the iterator's place is known. Assumes nothing.
use mathlib.Core.Path.{◌∙◌}
use Rattle.rows.proofs.Step.{end-le}
use Rattle.rows.proofs.Seek.{same_none}
use Rattle.rows.proofs.Turns.{turn-inside, turn-end, turn-bytes, turn-of}
use Rattle.change.proofs.Passing.{ending-start, ending-end, ending-row, ending-other}
use Rattle.change.proofs.group_end.Goals as goal

pub loop-row-init : goal.loop-row-init
loop-row-init c =
    let b = c.new-row-items.ensures in
    rw (c.into_iter-row-iterator.ensures.into_iter_gives, b.start)
    (record { ready = tt; ends = tt; of = b.of; ending = ending-start _ _ (c.is_empty-inside.ensures ∙ same_none _) })

pub behind-requires : goal.behind-requires
behind-requires c =
    let w = c.loop-row.invariant in
    let t = c.in-Some.ensures.steps in
    end-le c.args.file.now (turn-inside w.of t) (turn-end w.of t)

pub loop-row-preserved-then-is_of_group : goal.loop-row-preserved-then-is_of_group
loop-row-preserved-then-is_of_group c =
    let w = c.loop-row.invariant in
    let t = c.in-Some.ensures.steps in
    record {
      ready = tt;
      ends = tt;
      of = turn-of w.of t;
      ending = rw (t.next_start, c.behind.ensures)
          (ending-row w.ending (turn-inside w.of t) (turn-end w.of t) (rw (turn-bytes w.of t) at c.in_group-inside.ensures)
          (rw (← turn-bytes w.of t, ← c.is_of_group.ensures) c.if-is_of_group.true));
    }

pub loop-row-preserved : goal.loop-row-preserved
loop-row-preserved c =
    let w = c.loop-row.invariant in
    let t = c.in-Some.ensures.steps in
    record {
      ready = tt;
      ends = tt;
      of = turn-of w.of t;
      ending = rw t.next_start
          (ending-other w.ending (turn-inside w.of t) (turn-end w.of t) (rw (turn-bytes w.of t) at c.in_group-inside.ensures)
          (rw (← turn-bytes w.of t, ← c.is_of_group.ensures) c.if-is_of_group.false));
    }

pub returns : goal.returns
returns c = ending-end c.loop-row.invariant.ending (rw c.loop-row.invariant.of at c.in-None.ensures.steps)
