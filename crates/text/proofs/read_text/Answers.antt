-- `read_text` meets its contract: the calls that led to each return say which answer the definition has. Assumes nothing.
use native.Mathlib.Omega.{arith}
use mathlib.Core.Path.{sym, ◌∙◌}
use Rattle.std.proofs.lemmas.Result.{err_from_is_err_and}
use lib.ListN.{length}
use Rattle.fault.proofs.Answers.{then-refused}
use Rattle.text.specs.Escape.{read_text}
use Rattle.text.proofs.OutputLaws.{given-length, leaves-refused, leaves-full, leaves-written}
use Rattle.text.proofs.read_text.Goals as goal

pub returns-in_err-n : goal.returns-in_err-n
unfolding read_text
returns-in_err-n c =
    let a = c.args in
    let p = err_from_is_err_and c.from_residual.result c.from_residual.ensures.1 in
    rw (p.1, p.2) (leaves-refused (read_text a.raw.now) _ a.out.now (then-refused length (read_text a.raw.now) (sym c.in_err-n.was ∙ c.text_length.ensures)))

pub returns-then-out-n : goal.returns-then-out-n
unfolding read_text
returns-then-out-n c =
    let a = c.args in
    let g = given-length (read_text a.raw.now) _ (sym c.in_ok-n.was ∙ c.text_length.ensures) in
    leaves-full (read_text a.raw.now) a.out.now g.0 (omega (arith, g.1))

pub unescape-requires : goal.unescape-requires
unfolding read_text
unescape-requires c =
    let g = given-length (read_text c.args.raw.now) _ (sym c.in_ok-n.was ∙ c.text_length.ensures) in
    (g.0, omega (arith, g.1))

pub returns : goal.returns
unfolding read_text
returns c =
    let a = c.args in
    let g = given-length (read_text a.raw.now) _ (sym c.in_ok-n.was ∙ c.text_length.ensures) in
    leaves-written (read_text a.raw.now) a.out.now g.0 (omega (arith, g.1)) c.unescape.ensures
