-- `is_plain` meets its contract: only a language alone can mean the plain key. Assumes nothing.
use native.Mathlib.Omega.{arith}
use mathlib.Core.Path.{sym, ◌∙◌}
use lib.Seq.{length-take-le}
use Rattle.choice.proofs.Postfixes.{parts-inside}
use Rattle.choice.proofs.Plain.{plain-lang, plain-longer}
use Rattle.choice.proofs.is_plain.Goals as goal

pub slice_bounds-is_plain_lang-end : goal.slice_bounds-is_plain_lang-end
slice_bounds-is_plain_lang-end c =
    let l = c.args.locale.now in
    sym (length-take-le _ l (omega (arith, parts-inside l c.requires.1)))

pub returns-then-p-eq0-2 : goal.returns-then-p-eq0-2
returns-then-p-eq0-2 c =
    c.is_plain_lang.ensures ∙ plain-lang c.args.locale.now c.requires.0 c.requires.1 c.if-p-eq0.true c.if-p-eq0-2.true

pub returns-else-p-eq0-2 : goal.returns-else-p-eq0-2
returns-else-p-eq0-2 c =
    plain-longer c.args.locale.now c.requires.0 c.requires.1 (omega (arith, c.if-p-eq0-2.false))

pub returns-else-p-eq0 : goal.returns-else-p-eq0
returns-else-p-eq0 c =
    plain-longer c.args.locale.now c.requires.0 c.requires.1 (omega (arith, c.if-p-eq0.false))
