-- `utf8::last_two` meets its contract. Assumes nothing.
use mathlib.Core.Path.{sym, ◌∙◌}
use native.Mathlib.Omega.{arith}
use Rattle.characters.proofs.Characters.{rest-none, rest-stops, rest_more}
use borrow.Author.Rules.{rules}
use Rattle.characters.proofs.utf8.last_two.Goals as goal

pub returns-then-within : goal.returns-then-within
returns-then-within c = let a = c.args in c.last_byte.ensures ∙ sym (rest_more a.s.now a.i 1 a.low a.high (search rules) (sym c.within.ensures ∙ c.if-within.true) (λ e. omega arith))

pub returns-else-within : goal.returns-else-within
returns-else-within c = let a = c.args in sym (rest-stops a.s.now a.i 1 a.low a.high (search rules) (sym c.within.ensures ∙ c.if-within.false))

pub returns-else-i-s : goal.returns-else-i-s
returns-else-i-s c = let a = c.args in sym (rest-none a.s.now a.i 1 a.low a.high (search rules))
