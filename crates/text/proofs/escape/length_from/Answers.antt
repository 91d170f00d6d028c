-- `escape::length_from` meets its contract: what is counted and the text from `i` on make the whole length. Assumes nothing.
use borrow.Author.Rules.{rules}
use native.Mathlib.Omega.{arith}
use mathlib.Core.Path.{sym, ◌∙◌}
use Rattle.text.proofs.Reading.{measured_start, measured-byte, measured-wrong, measured-end, byte-within}
use Rattle.text.proofs.escape.length_from.Goals as goal

pub overflow_add-i : goal.overflow_add-i
overflow_add-i c = let a = c.args in omega (arith, byte-within a.k a.raw.now a.place c.loop-i.i (search rules) (sym c.in-Some.is ∙ c.decode.ensures))

pub loop-i-smaller : goal.loop-i-smaller
loop-i-smaller c = let a = c.args in omega (arith, byte-within a.k a.raw.now a.place c.loop-i.i (search rules) (sym c.in-Some.is ∙ c.decode.ensures))

pub loop-i-preserved : goal.loop-i-preserved
loop-i-preserved c = measured-byte c.loop-i.invariant (search rules) (sym c.in-Some.is ∙ c.decode.ensures)

pub returns-in_default : goal.returns-in_default
returns-in_default c = measured-wrong c.loop-i.invariant (search rules) (sym c.in_default.is ∙ c.decode.ensures)

pub loop-i-init : goal.loop-i-init
loop-i-init c = measured_start c.args.k c.args.raw.now c.args.place

pub returns : goal.returns
returns c = measured-end c.loop-i.invariant (search rules)
