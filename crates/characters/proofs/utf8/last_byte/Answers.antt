-- `utf8::last_byte` meets its contract. Assumes nothing.
use borrow.Author.Rules.{rules}
use mathlib.Core.Path.{sym, ◌∙◌, refl}
use Rattle.characters.proofs.Characters.{rest-none, rest-stops, rest-last}
use Rattle.characters.proofs.utf8.last_byte.Goals as goal

pub returns-then-within : goal.returns-then-within
returns-then-within c = let a = c.args in sym (rest-last a.s.now a.i 0 a.low a.high (search rules) (sym c.within.ensures ∙ c.if-within.true) refl)

pub returns-else-within : goal.returns-else-within
returns-else-within c = let a = c.args in sym (rest-stops a.s.now a.i 0 a.low a.high (search rules) (sym c.within.ensures ∙ c.if-within.false))

pub returns-else-i-s : goal.returns-else-i-s
returns-else-i-s c = let a = c.args in sym (rest-none a.s.now a.i 0 a.low a.high (search rules))
