-- `scan` meets its contract: what the rows from the iterator's place on say is the whole answer, and no row before lacks its plain key unless there is doubt.
-- Assumes nothing.
use mathlib.Core.Path.{refl, ap, ◌∙◌}
use mathlib.Core.Bool.{false}
use lib.ListN.{length}
use Rattle.std.proofs.lemmas.Result.{err_from_is_err_and}
use Rattle.base.proofs.Tests.{no}
use Rattle.rows.proofs.Step.{start-le}
use Rattle.rows.proofs.Turns.{turn-inside, turn-end, turn-bytes, turn-of}
use Rattle.wellformed.proofs.Places.{reads}
use Rattle.wellformed.proofs.Checking.{checking-start, marks-length, marks-tell, none-bad, checking-fault, checking-next, end_none, end-some}
use Rattle.wellformed.proofs.Plain.{held_start, held_next, held-end}
use Rattle.wellformed.proofs.scan.Goals as goal

pub loop-at-init : goal.loop-at-init
loop-at-init c =
    let b = c.new-at-items.ensures in
    rw (c.into_iter-at-iterator.ensures.into_iter_gives, b.number, b.start, c.start-s.ensures)
    (record {
      ready = tt;
      ends = tt;
      of = b.of;
      checking = checking-start c.args.leading.now c.args.file.now c.args.marks.now c.requires;
      held = held_start c.args.file.now;
      size = refl;
    })

pub overflow_sub-row : goal.overflow_sub-row
overflow_sub-row c =
    let w = c.loop-at.invariant in
    let t = c.in-Some.ensures.steps in
    rw t.start (start-le c.args.file.now (turn-inside w.of t) (turn-end w.of t))

pub read_row-requires : goal.read_row-requires
read_row-requires c =
    let w = c.loop-at.invariant in
    let t = c.in-Some.ensures.steps in
    rw t.start
    (reads c.args.file.now (turn-inside w.of t) (turn-end w.of t) (rw (turn-bytes w.of t) at c.read_line-r.ensures), w.held.within, none-bad w.checking, marks-tell w.checking)

pub returns-in_err-read_row : goal.returns-in_err-read_row
returns-in_err-read_row c =
    let w = c.loop-at.invariant in
    let t = c.in-Some.ensures.steps in
    let p = err_from_is_err_and c.from_residual.result c.from_residual.ensures.1 in
    rw (p.1, p.2) (
      checking-fault w.checking (turn-inside w.of t) (turn-end w.of t) (rw (turn-bytes w.of t) at c.read_line-r.ensures)
          (rw (c.in_err-read_row.was, t.start, t.number) at c.read_row.ensures.0),
      tt,
    )

pub after-s-requires : goal.after-s-requires
after-s-requires c =
    let w = c.loop-at.invariant in
    let t = c.in-Some.ensures.steps in
    rw t.start (reads c.args.file.now (turn-inside w.of t) (turn-end w.of t) (rw (turn-bytes w.of t) at c.read_line-r.ensures), w.held.within)

pub loop-at-preserved : goal.loop-at-preserved
loop-at-preserved c =
    let w = c.loop-at.invariant in
    let t = c.in-Some.ensures.steps in
    let h = turn-inside w.of t in
    let q = turn-end w.of t in
    let x = rw (turn-bytes w.of t) at c.read_line-r.ensures in
    let n = held_next c.args.file.now w.checking.prefix w.held h q false c.read_line-r.result x (λ j key name value _. no (cc)) in
    rw (c.after-s.ensures, t.next_start, t.next_number, t.start)
    (record {
      ready = tt;
      ends = tt;
      of = turn-of w.of t;
      checking = rw (n.tag, n.group)
          (checking-next w.checking h q c.read_line-r.result x (rw (c.in_ok-read_row.was, t.start, t.number) at c.read_row.ensures.0) (rw t.start at c.read_row.ensures.1));
      held = n.held;
      size = ap length c.read_row.ensures.1 ∙ simp marks-length w.size;
    })

pub returns-then-s-eq0 : goal.returns-then-s-eq0
returns-then-s-eq0 c =
    let w = c.loop-at.invariant in
    (end_none w.checking (rw w.of at c.in-None.ensures.steps) c.if-s-eq0.true, tt)

pub returns-then-s : goal.returns-then-s
returns-then-s c =
    let w = c.loop-at.invariant in
    (end-some w.checking (rw w.of at c.in-None.ensures.steps) c.if-s-eq0.false, tt)

pub returns-then-want-ne0 : goal.returns-then-want-ne0
returns-then-want-ne0 c =
    let w = c.loop-at.invariant in
    (end-some w.checking (rw w.of at c.in-None.ensures.steps) c.if-s-eq0.false, tt)

pub returns : goal.returns
returns c =
    let w = c.loop-at.invariant in
    let h = rw w.of at c.in-None.ensures.steps in
    (end-some w.checking h c.if-s-eq0.false, held-end c.args.file.now w.checking.prefix w.held c.if-s.false c.if-want-ne0.false h)
