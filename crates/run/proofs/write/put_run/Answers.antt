-- `write::put_run` meets its contract: what is written and the records of the words from `i` on make the whole. Assumes nothing.
use native.Mathlib.Omega.{arith}
use Rattle.run.proofs.Writing.{words-start, words-over, words_inside, words-room, words-next, words-end}
use Rattle.run.proofs.write.put_run.Goals as goal

pub loop-i-init : goal.loop-i-init
loop-i-init c = words-start c.requires.2

pub loop-i-preserved-then-exec-i-eq32 : goal.loop-i-preserved-then-exec-i-eq32
loop-i-preserved-then-exec-i-eq32 c = words-over c.loop-i.invariant c.loop-i-test.true c.if-exec-i-eq32.true

pub slice_bounds-put_word-count-else-exec-i-eq32 : goal.slice_bounds-put_word-count-else-exec-i-eq32
slice_bounds-put_word-count-else-exec-i-eq32 c =
    omega (arith, (words_inside c.loop-i.invariant c.loop-i-test.true c.if-exec-i-eq32.false c.word_end-e.ensures).0)

pub slice_bounds-put_word-end-else-exec-i-eq32 : goal.slice_bounds-put_word-end-else-exec-i-eq32
slice_bounds-put_word-end-else-exec-i-eq32 c =
    (words_inside c.loop-i.invariant c.loop-i-test.true c.if-exec-i-eq32.false c.word_end-e.ensures).1

pub put_word-at-requires : goal.put_word-at-requires
put_word-at-requires c =
    let b = words_inside c.loop-i.invariant c.loop-i-test.true c.if-exec-i-eq32.false c.word_end-e.ensures in
    (omega arith, omega arith, c.requires.1, words-room c.loop-i.invariant c.loop-i-test.true c.if-exec-i-eq32.false c.word_end-e.ensures)

pub loop-i-preserved : goal.loop-i-preserved
loop-i-preserved c =
    words-next c.loop-i.invariant c.loop-i-test.true c.if-exec-i-eq32.false c.word_end-e.ensures c.put_word-at.ensures

pub overflow_add-at : goal.overflow_add-at
overflow_add-at c = omega (arith, ((words-next c.loop-i.invariant c.loop-i-test.true c.if-exec-i-eq32.false c.word_end-e.ensures c.put_word-at.ensures)).filling.fill.inside)

pub loop-i-smaller : goal.loop-i-smaller
loop-i-smaller c =
    omega (arith, words_inside c.loop-i.invariant c.loop-i-test.true c.if-exec-i-eq32.false c.word_end-e.ensures)

pub returns : goal.returns
returns c = let w = words-end c.loop-i.invariant c.loop-i-test.false in (w.long, w.is)
