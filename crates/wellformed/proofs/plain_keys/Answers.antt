-- `plain_keys` meets its contract: what the rows from the iterator's place on say is the whole answer. Assumes nothing.
use Rattle.std.proofs.lemmas.Result.{err_from_is_err_and}
use Rattle.rows.proofs.Step.{start-le}
use Rattle.rows.proofs.Turns.{turn-inside, turn-end, turn-bytes, turn-of}
use Rattle.wellformed.proofs.Places.{reads}
use Rattle.wellformed.proofs.Plain.{asking-start, asking-missing, asking-next, asking-end}
use Rattle.wellformed.proofs.plain_keys.Goals as goal

pub loop-at-init : goal.loop-at-init
loop-at-init c =
    let b = c.new-at-items.ensures in
    rw (c.into_iter-at-iterator.ensures.into_iter_gives, b.number, b.start, c.start-s.ensures)
    (record { ready = tt; ends = tt; of = b.of; asking = asking-start c.args.file.now })

pub overflow_sub-row : goal.overflow_sub-row
overflow_sub-row c =
    let w = c.loop-at.invariant in
    let t = c.in-Some.ensures.steps in
    rw t.start (start-le c.args.file.now (turn-inside w.of t) (turn-end w.of t))

pub ask_row-requires : goal.ask_row-requires
ask_row-requires c =
    let w = c.loop-at.invariant in
    let t = c.in-Some.ensures.steps in
    rw t.start
    (reads c.args.file.now (turn-inside w.of t) (turn-end w.of t) (rw (turn-bytes w.of t) at c.read_line-r.ensures), w.asking.held.within, c.requires, w.asking.held.last-there)

pub returns-in_err-ask_row : goal.returns-in_err-ask_row
returns-in_err-ask_row c =
    let w = c.loop-at.invariant in
    let t = c.in-Some.ensures.steps in
    let p = err_from_is_err_and c.from_residual.result c.from_residual.ensures.1 in
    rw (p.1, p.2)
    (asking-missing c.args.file.now w.asking (turn-inside w.of t) (turn-end w.of t) (rw (turn-bytes w.of t) at c.read_line-r.ensures)
    (rw (c.in_err-ask_row.was, t.start, t.number) at c.ask_row.ensures))

pub after-s-requires : goal.after-s-requires
after-s-requires c =
    let w = c.loop-at.invariant in
    let t = c.in-Some.ensures.steps in
    rw t.start
    (reads c.args.file.now (turn-inside w.of t) (turn-end w.of t) (rw (turn-bytes w.of t) at c.read_line-r.ensures), w.asking.held.within)

pub loop-at-preserved : goal.loop-at-preserved
loop-at-preserved c =
    let w = c.loop-at.invariant in
    let t = c.in-Some.ensures.steps in
    record {
      ready = tt;
      ends = tt;
      of = turn-of w.of t;
      asking = rw (t.next_start, t.next_number, c.after-s.ensures, t.start)
          (asking-next c.args.file.now w.asking (turn-inside w.of t) (turn-end w.of t) (rw (turn-bytes w.of t) at c.read_line-r.ensures)
          (rw (c.in_ok-ask_row.was, t.start, t.number) at c.ask_row.ensures));
    }

pub returns : goal.returns
returns c = asking-end c.args.file.now c.loop-at.invariant.asking (rw c.loop-at.invariant.of at c.in-None.ensures.steps)
