-- `rows::find_key` meets its contract: the rows from the iterator's place on have the answer. Assumes nothing.
use native.Mathlib.Omega.{arith}
use Rattle.rows.specs.Title.{Key}
use Rattle.rows.proofs.Seek.{value-fits, finding, seek-good, title-end, in_start, key-hit, key-other}
use Rattle.rows.proofs.Turns.{turn-inside, turn-end, turn-bytes, turn-of}
use Rattle.rows.proofs.find_key.Goals as goal

pub is_inside-inside-requires : goal.is_inside-inside-requires
is_inside-inside-requires c =
    let w = c.loop-row.invariant in
    let t = c.in-Some.ensures.steps in
    rw (turn-bytes w.of t) (seek-good w.seek.seek (turn-inside w.of t) (turn-end w.of t))

pub overflow_add-result : goal.overflow_add-result
overflow_add-result c =
    let w = c.loop-row.invariant in
    let t = c.in-Some.ensures.steps in
    omega (arith, t.start, value-fits c.args.file.now (turn-inside w.of t) (turn-end w.of t) (rw (turn-bytes w.of t) at c.value_start.ensures))

pub returns-then-is_named : goal.returns-then-is_named
returns-then-is_named c =
    let w = c.loop-row.invariant in
    let t = c.in-Some.ensures.steps in
    rw (t.number, t.start, c.value_start.ensures, turn-bytes w.of t)
    (key-hit _ _ w.seek (turn-inside w.of t) (turn-end w.of t)
    (rw (← turn-bytes w.of t, ← c.is_inside-inside.ensures, c.if-inside.true, ← c.is_named.ensures) c.if-is_named.true))

pub loop-row-init : goal.loop-row-init
loop-row-init c =
    let b = c.new-row-items.ensures in
    rw (c.into_iter-row-iterator.ensures.into_iter_gives, b.number, b.start, c.is_empty-inside.ensures)
    (record { ready = tt; ends = tt; of = b.of; seek = in_start _ _ (finding (Key _ _)) c.requires })

pub loop-row-preserved-else-is_named : goal.loop-row-preserved-else-is_named
loop-row-preserved-else-is_named c =
    let w = c.loop-row.invariant in
    let t = c.in-Some.ensures.steps in
    record {
      ready = tt;
      ends = tt;
      of = turn-of w.of t;
      seek = rw (t.next_start, t.next_number, c.is_inside-inside.ensures, turn-bytes w.of t)
          (key-other _ _ w.seek (turn-inside w.of t) (turn-end w.of t)
          (rw (← turn-bytes w.of t, ← c.is_inside-inside.ensures, c.if-inside.true, ← c.is_named.ensures) c.if-is_named.false));
    }

pub loop-row-preserved : goal.loop-row-preserved
loop-row-preserved c =
    let w = c.loop-row.invariant in
    let t = c.in-Some.ensures.steps in
    record {
      ready = tt;
      ends = tt;
      of = turn-of w.of t;
      seek = rw (t.next_start, t.next_number, c.is_inside-inside.ensures, turn-bytes w.of t)
          (key-other _ _ w.seek (turn-inside w.of t) (turn-end w.of t)
          (rw (← turn-bytes w.of t, ← c.is_inside-inside.ensures, c.if-inside.false)));
    }

pub returns : goal.returns
returns c = title-end _ c.loop-row.invariant.seek.seek (rw c.loop-row.invariant.of at c.in-None.ensures.steps)
