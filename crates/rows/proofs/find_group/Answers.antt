-- `rows::find_group` meets its contract: the rows from the iterator's place on have the answer. Assumes nothing.
use Rattle.std.specs.Prelude.{◌<◌, length}
use native.Mathlib.Omega.{arith}
use mathlib.Core.Path.{sym, ◌∙◌}
use borrow.Author.Tests.{eq-eqb, ne_eqb}
use Rattle.rows.proofs.Seek.{finding, seek-start, seek-header, title-end, group-plain, group-other, group-hit}
use Rattle.rows.proofs.Turns.{turn-inside, turn-end, turn-bytes, turn-of}
use Rattle.rows.specs.Title.{Group}
use Rattle.rows.proofs.find_group.Goals.{Then-byte_at-eq91, else-byte_at-eq91-via-then-byte_at-eq91+else-is_joined, else-byte_at-eq91-via-else-byte_at-eq91}
use Rattle.rows.proofs.find_group.Goals as goal

-- a header has three bytes at least
header-long : (c : Then-byte_at-eq91) → 2 < length c.in-Some.row.bytes.now
header-long c =
    let w = c.loop-row.invariant in
    let t = c.in-Some.ensures.steps in
    let b = rw (turn-bytes w.of t) at (sym (eq-eqb _ _ (sym c.byte_at.ensures ∙ c.if-byte_at-eq91.true))) in
    rw (turn-bytes w.of t) ((seek-header w.seek (turn-inside w.of t) (turn-end w.of t) b).1)

pub slice_bounds-is_joined-count : goal.slice_bounds-is_joined-count
slice_bounds-is_joined-count c = omega (arith, header-long c)

pub slice_bounds-is_joined-start : goal.slice_bounds-is_joined-start
slice_bounds-is_joined-start c = omega (arith, header-long c)

pub returns-then-is_joined : goal.returns-then-is_joined
returns-then-is_joined c =
    let w = c.loop-row.invariant in
    let t = c.in-Some.ensures.steps in
    let b = rw (turn-bytes w.of t) at (sym (eq-eqb _ _ (sym c.byte_at.ensures ∙ c.if-byte_at-eq91.true))) in
    rw (t.number, t.start) (group-hit _ w.seek (turn-inside w.of t) (turn-end w.of t) b (rw (c.if-is_joined.true, turn-bytes w.of t) at c.is_joined.ensures))

pub loop-row-init : goal.loop-row-init
loop-row-init c =
    let b = c.new-row-items.ensures in
    rw (c.into_iter-row-iterator.ensures.into_iter_gives, b.number, b.start)
    (record { ready = tt; ends = tt; of = b.of; seek = seek-start _ (finding (Group _)) c.requires })

pub loop-row-preserved : goal.loop-row-preserved
loop-row-preserved c =
    let w = c.loop-row.invariant in
    let t = c.in-Some.ensures.steps in
    record {
      ready = tt;
      ends = tt;
      of = turn-of w.of t;
      seek = rw (t.next_start, t.next_number)
          (elim c.else-byte_at-eq91.branch [
            | else-byte_at-eq91-via-then-byte_at-eq91+else-is_joined v ↦
                group-other _ w.seek (turn-inside w.of t) (turn-end w.of t)
                (rw (turn-bytes w.of t) at (sym (eq-eqb _ _ (sym c.byte_at.ensures ∙ v.if-byte_at-eq91.true))))
                (rw (v.if-is_joined.false, turn-bytes w.of t) at v.is_joined.ensures)
            | else-byte_at-eq91-via-else-byte_at-eq91 v ↦
                group-plain _ w.seek (turn-inside w.of t) (turn-end w.of t)
                (rw (turn-bytes w.of t) at (sym (ne_eqb _ _ (λ z. v.if-byte_at-eq91.false (c.byte_at.ensures ∙ z)))))
          ]);
    }

pub returns : goal.returns
returns c = title-end _ c.loop-row.invariant.seek (rw c.loop-row.invariant.of at c.in-None.ensures.steps)
