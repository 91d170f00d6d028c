-- `find_best` meets its contract: the rows from the iterator's place on, and the best row before them, have the answer. Assumes nothing.
use native.Mathlib.Omega.{arith}
use mathlib.Core.Path.{sym, ◌∙◌}
use Prim.Native.Nat.{◌+◌}
use Rattle.rows.proofs.Seek.{value-fits, seek-good}
use Rattle.rows.proofs.Turns.{turn-inside, turn-end, turn-bytes, turn-of}
use Rattle.choice.specs.Step.{all_keys}
use Rattle.choice.proofs.Ranks.{line_other}
use Rattle.choice.proofs.Best.{Best, best-start, best-end, best-found, best-as, best-outside, best-stays, best-better}
use Rattle.choice.proofs.find_best.Goals as goal
use Rattle.choice.proofs.find_best.Goals.{Joined-inside, then-inside+then-begins+then-r-best, then-inside+then-begins+else-r-best, then-inside+else-begins, else-inside}

pub is_inside-inside-requires : goal.is_inside-inside-requires
is_inside-inside-requires c =
    let w = c.loop-row.invariant in
    let t = c.in-Some.ensures.steps in
    rw (turn-bytes w.of t) (seek-good w.best.walk.seek (turn-inside w.of t) (turn-end w.of t))

pub rank-r-requires : goal.rank-r-requires
rank-r-requires c =
    (c.requires.1, c.requires.2, c.requires.3, sym c.begins.ensures ∙ c.if-begins.true)

pub overflow_add-found : goal.overflow_add-found
overflow_add-found c =
    let w = c.loop-row.invariant in
    let t = c.in-Some.ensures.steps in
    omega (arith, t.start, value-fits c.args.file.now (turn-inside w.of t) (turn-end w.of t) (rw (turn-bytes w.of t) at c.value_start.ensures))

next : (c : Joined-inside)
    → Best c.args.file.now c.args.group.now (all_keys c.args.key.now c.args.locale.now)
    (c.in-Some.row.end + 1) (c.loop-row.row-iterator.number + 1) c.is_inside-inside.result c.if-inside.best c.if-inside.found
next c =
    let w = c.loop-row.invariant in
    let t = c.in-Some.ensures.steps in
    let h = turn-inside w.of t in
    let q = turn-end w.of t in
    let i = rw (turn-bytes w.of t) at c.is_inside-inside.ensures in
    elim c.if-inside.branch [
      | then-inside+then-begins+then-r-best v ↦
          best-as
          (best-better _ _ _ w.best h q i v.if-inside.true (rw (turn-bytes w.of t) at v.rank-r.ensures) v.if-r-best.true (rw (turn-bytes w.of t) at v.value_start.ensures))
          v.best-is (rw (t.number, t.start) at v.found-is)
      | then-inside+then-begins+else-r-best v ↦
          best-as (best-stays _ _ _ w.best h q i v.if-inside.true (rw (turn-bytes w.of t) at v.rank-r.ensures) v.if-r-best.false) v.best-is v.found-is
      | then-inside+else-begins v ↦
          best-as
          (best-stays _ _ _ w.best h q i v.if-inside.true
          (rw (turn-bytes w.of t) at (line_other c.args.key.now c.args.locale.now c.requires.1 c.in-Some.row.bytes.now (sym v.begins.ensures ∙ v.if-begins.false))) w.best.most)
          v.best-is v.found-is
      | else-inside v ↦ best-as (best-outside _ _ _ w.best h q i v.if-inside.false) v.best-is v.found-is
    ]

pub loop-row-init : goal.loop-row-init
loop-row-init c =
    let b = c.new-row-items.ensures in
    rw (c.into_iter-row-iterator.ensures.into_iter_gives, b.number, b.start, c.is_empty-inside.ensures)
    (record { ready = tt; ends = tt; of = b.of; best = best-start c.args.file.now c.args.group.now c.args.key.now c.args.locale.now c.requires.0 })

pub returns-then-best-eq0 : goal.returns-then-best-eq0
returns-then-best-eq0 c = best-found _ _ _ (next (goal.at.returns-then-best-eq0 c).Joined-inside) c.if-best-eq0.true

pub loop-row-preserved : goal.loop-row-preserved
loop-row-preserved c =
    let t = c.in-Some.ensures.steps in
    record {
      ready = tt;
      ends = tt;
      of = turn-of c.loop-row.invariant.of t;
      best = rw (t.next_start, t.next_number) (next (goal.at.loop-row-preserved c).Joined-inside);
    }

pub returns : goal.returns
returns c = best-end _ _ _ c.loop-row.invariant.best (rw c.loop-row.invariant.of at c.in-None.ensures.steps)
