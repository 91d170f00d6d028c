-- `measure::run_left` meets its contract: the room left and what the words from `i` on take are the whole answer. Assumes nothing.
use borrow.Author.Rules.{rules}
use native.Mathlib.Omega.{arith}
use Rattle.base.proofs.Lists.{length_part}
use Rattle.command.proofs.Parting.{word-ends}
use Rattle.run.proofs.Arguments.{measuring-start, measuring-space, measuring-next, measuring-end}
use Rattle.run.proofs.measure.run_left.Goals as goal

pub loop-i-init : goal.loop-i-init
loop-i-init c = measuring-start

pub loop-i-preserved-then-exec-i-eq32 : goal.loop-i-preserved-then-exec-i-eq32
loop-i-preserved-then-exec-i-eq32 c = measuring-space c.loop-i.invariant (search rules) c.if-exec-i-eq32.true

pub slice_bounds-word_left-count : goal.slice_bounds-word_left-count
slice_bounds-word_left-count c =
    omega (arith, word-ends c.args.exec.now c.loop-i.i c.loop-i-test.true c.if-exec-i-eq32.false c.word_end-e.ensures)

pub slice_bounds-word_left-end : goal.slice_bounds-word_left-end
slice_bounds-word_left-end c =
    omega (arith, word-ends c.args.exec.now c.loop-i.i c.loop-i-test.true c.if-exec-i-eq32.false c.word_end-e.ensures)

pub word_left-left-requires : goal.word_left-left-requires
word_left-left-requires c =
    let e = word-ends c.args.exec.now c.loop-i.i c.loop-i-test.true c.if-exec-i-eq32.false c.word_end-e.ensures in
    let l = length_part c.loop-i.i c.word_end-e.result c.args.exec.now e.1 in
    (omega arith, omega arith, c.requires.1)

pub loop-i-smaller : goal.loop-i-smaller
loop-i-smaller c =
    omega (arith, word-ends c.args.exec.now c.loop-i.i c.loop-i-test.true c.if-exec-i-eq32.false c.word_end-e.ensures)

pub loop-i-preserved : goal.loop-i-preserved
loop-i-preserved c =
    measuring-next c.loop-i.invariant c.loop-i-test.true c.if-exec-i-eq32.false c.word_end-e.ensures (word-ends c.args.exec.now c.loop-i.i c.loop-i-test.true c.if-exec-i-eq32.false c.word_end-e.ensures) c.word_left-left.ensures

pub returns : goal.returns
returns c = measuring-end c.loop-i.invariant c.loop-i-test.false
