-- `check_booleans` meets its contract: the rows from the iterator's place on have the answer. Assumes nothing.
use native.Mathlib.Omega.{arith}
use Rattle.rows.proofs.Turns.{turn-inside, turn-end, turn-bytes, turn-of}
use Rattle.complete.proofs.Booleans.{booleans-start, booleans-end, is-header, after-header, after-plain, at-wrong}
use Rattle.complete.proofs.check_booleans.Goals.{else-inside-via-then-inside+else-is_wrong, else-inside-via-else-inside}
use Rattle.complete.proofs.check_booleans.Goals as goal

pub is_desktop_entry-inside-requires : goal.is_desktop_entry-inside-requires
is_desktop_entry-inside-requires c =
    let w = c.loop-row.invariant in
    let t = c.in-Some.ensures.steps in
    let b = rw (turn-bytes w.of t) at c.byte_at.ensures in
    rw (turn-bytes w.of t) (omega (arith, (is-header w.rest (turn-inside w.of t) (turn-end w.of t) b c.if-byte_at-eq91.true).1))

pub loop-row-init : goal.loop-row-init
loop-row-init c =
    let b = c.new-row-items.ensures in
    rw (c.into_iter-row-iterator.ensures.into_iter_gives, b.number, b.start)
    (record { ready = tt; ends = tt; of = b.of; rest = booleans-start _ c.requires })

pub loop-row-preserved-then-byte_at-eq91 : goal.loop-row-preserved-then-byte_at-eq91
loop-row-preserved-then-byte_at-eq91 c =
    let w = c.loop-row.invariant in
    let t = c.in-Some.ensures.steps in
    let b = rw (turn-bytes w.of t) at c.byte_at.ensures in
    record {
      ready = tt;
      ends = tt;
      of = turn-of w.of t;
      rest = rw (t.next_start, t.next_number, c.is_desktop_entry-inside.ensures, turn-bytes w.of t)
          (after-header w.rest (turn-inside w.of t) (turn-end w.of t) b c.if-byte_at-eq91.true);
    }

pub returns-then-is_wrong : goal.returns-then-is_wrong
returns-then-is_wrong c =
    let w = c.loop-row.invariant in
    let t = c.in-Some.ensures.steps in
    let b = rw (turn-bytes w.of t) at c.byte_at.ensures in
    rw t.number
    (at-wrong w.rest (turn-inside w.of t) (turn-end w.of t) b c.if-byte_at-eq91.false
    (rw (c.if-inside.true, ← turn-bytes w.of t, ← c.is_wrong.ensures) c.if-is_wrong.true))

pub loop-row-preserved : goal.loop-row-preserved
loop-row-preserved c =
    let w = c.loop-row.invariant in
    let t = c.in-Some.ensures.steps in
    let b = rw (turn-bytes w.of t) at c.byte_at.ensures in
    record {
      ready = tt;
      ends = tt;
      of = turn-of w.of t;
      rest = rw (t.next_start, t.next_number)
          (after-plain w.rest (turn-inside w.of t) (turn-end w.of t) b c.if-byte_at-eq91.false
          (elim c.else-inside.branch [
            | else-inside-via-then-inside+else-is_wrong v ↦ rw (v.if-inside.true, ← turn-bytes w.of t, ← v.is_wrong.ensures) v.if-is_wrong.false
            | else-inside-via-else-inside v ↦ rw v.if-inside.false
          ]));
    }

pub returns : goal.returns
returns c = booleans-end c.loop-row.invariant.rest (rw c.loop-row.invariant.of at c.in-None.ensures.steps)
