-- `check_quoted` meets its contract: the calls that led to each return say which answer the definition has. Assumes nothing.
use native.Mathlib.Omega.{arith}
use mathlib.Core.Path.{sym, ◌∙◌}
use borrow.Author.Tests.{eq-eqb, ne_eqb}
use Rattle.std.proofs.lemmas.Result.{err_from_is_err_and}
use Rattle.base.proofs.Lists.{length_part}
use Rattle.command.proofs.Parting.{quote-ends}
use Rattle.command.proofs.Checks.{quoted-unfit, quoted-refused, quoted-sound, quoted-behind}
use borrow.Author.Rules.{rules}
use Rattle.command.proofs.check_quoted.Goals as goal

pub is_unfit-requires : goal.is_unfit-requires
is_unfit-requires c = omega (arith, quote-ends c.args.word.now (search rules) c.bare_end-closing.ensures)

pub returns-then-is_unfit : goal.returns-then-is_unfit
returns-then-is_unfit c =
    quoted-unfit c.args.program c.args.seen.taken c.args.start c.args.word.now c.args.seen (omega (arith, c.bare_end-closing.ensures)) (sym c.is_unfit.ensures ∙ c.if-is_unfit.true)

pub slice_bounds-check_pieces-end : goal.slice_bounds-check_pieces-end
slice_bounds-check_pieces-end c = omega (arith, quote-ends c.args.word.now (search rules) c.bare_end-closing.ensures)

pub check_pieces-requires : goal.check_pieces-requires
check_pieces-requires c =
    let q = quote-ends c.args.word.now (search rules) c.bare_end-closing.ensures in
    omega (arith, length_part 1 c.bare_end-closing.result c.args.word.now q.1)

pub overflow_add-n : goal.overflow_add-n
overflow_add-n c =
    omega (arith, quote-ends c.args.word.now (search rules) c.bare_end-closing.ensures)

pub returns : goal.returns
returns c =
    quoted-sound c.args.program c.args.seen.taken c.args.start c.args.word.now c.args.seen (omega (arith, c.bare_end-closing.ensures)) (sym c.is_unfit.ensures ∙ c.if-is_unfit.false) (sym c.in_ok-known.was ∙ c.check_pieces.ensures) (eq-eqb _ _ c.if-word-n.false)

pub overflow_add-result : goal.overflow_add-result
overflow_add-result c =
    omega (arith, quote-ends c.args.word.now (search rules) c.bare_end-closing.ensures)

pub returns-in_err-known : goal.returns-in_err-known
returns-in_err-known c =
    let p = err_from_is_err_and c.from_residual.result c.from_residual.ensures.1 in
    rw (p.1, p.2)
    (quoted-refused c.args.program c.args.seen.taken c.args.start c.args.word.now c.args.seen (omega (arith, c.bare_end-closing.ensures)) (sym c.is_unfit.ensures ∙ c.if-is_unfit.false) (sym c.in_err-known.was ∙ c.check_pieces.ensures))

pub returns-then-word-n : goal.returns-then-word-n
returns-then-word-n c =
    quoted-behind c.args.program c.args.seen.taken c.args.start c.args.word.now c.args.seen (omega (arith, c.bare_end-closing.ensures)) (sym c.is_unfit.ensures ∙ c.if-is_unfit.false) (sym c.in_ok-known.was ∙ c.check_pieces.ensures) (ne_eqb _ _ c.if-word-n.true)
