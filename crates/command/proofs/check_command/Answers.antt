-- `check_command` meets its contract: the faults from `i` on are all that can be found, and the codes there all that were not seen. Assumes nothing.
use borrow.Author.Rules.{rules}
use mathlib.Core.Path.{sym, ◌∙◌}
use native.Mathlib.Omega.{arith}
use Rattle.std.proofs.lemmas.Result.{err_from_is_err_and}
use Rattle.base.proofs.Lists.{length_part}
use Rattle.command.proofs.Parting.{word-ends}
use Rattle.command.proofs.Checks.{commanding-start, commanding-space, commanding-refused, commanding-next, commanding-none, commanding-end, command-answer}
use Rattle.command.proofs.check_command.Goals as goal

pub loop-i-init : goal.loop-i-init
loop-i-init c = commanding-start

pub loop-i-preserved-then-exec-i-eq32 : goal.loop-i-preserved-then-exec-i-eq32
loop-i-preserved-then-exec-i-eq32 c = commanding-space c.loop-i.invariant (search rules) c.if-exec-i-eq32.true

pub slice_bounds-check_word-count : goal.slice_bounds-check_word-count
slice_bounds-check_word-count c =
    omega (arith, word-ends c.args.exec.now c.loop-i.i c.loop-i-test.true c.if-exec-i-eq32.false c.word_end-e.ensures)

pub slice_bounds-check_word-end : goal.slice_bounds-check_word-end
slice_bounds-check_word-end c =
    omega (arith, word-ends c.args.exec.now c.loop-i.i c.loop-i-test.true c.if-exec-i-eq32.false c.word_end-e.ensures)

pub check_word-requires : goal.check_word-requires
check_word-requires c =
    let e = word-ends c.args.exec.now c.loop-i.i c.loop-i-test.true c.if-exec-i-eq32.false c.word_end-e.ensures in
    let l = length_part c.loop-i.i c.word_end-e.result c.args.exec.now e.1 in
    (omega arith, omega arith)

pub returns-in_err-seen : goal.returns-in_err-seen
returns-in_err-seen c =
    let p = err_from_is_err_and c.from_residual.result c.from_residual.ensures.1 in
    rw (p.1, p.2)
    (commanding-refused c.loop-i.invariant c.loop-i-test.true c.if-exec-i-eq32.false c.word_end-e.ensures (sym c.in_err-seen.was ∙ c.check_word.ensures) ∙ command-answer c.args.exec.now)

pub loop-i-smaller : goal.loop-i-smaller
loop-i-smaller c =
    omega (arith, word-ends c.args.exec.now c.loop-i.i c.loop-i-test.true c.if-exec-i-eq32.false c.word_end-e.ensures)

pub loop-i-preserved : goal.loop-i-preserved
loop-i-preserved c =
    commanding-next c.loop-i.invariant c.loop-i-test.true c.if-exec-i-eq32.false c.word_end-e.ensures (sym c.in_ok-seen.was ∙ c.check_word.ensures)

pub returns-then-program : goal.returns-then-program
returns-then-program c = commanding-none (rw c.if-program.true at c.loop-i.invariant) c.loop-i-test.false ∙ command-answer c.args.exec.now

pub returns : goal.returns
returns c = commanding-end (rw c.if-program.false at c.loop-i.invariant) c.loop-i-test.false ∙ command-answer c.args.exec.now
