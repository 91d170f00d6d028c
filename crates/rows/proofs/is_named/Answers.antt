-- `rows::is_named` meets its contract: a key that is the name stands at the front of the line. Assumes nothing.
use borrow.Author.Rules.{rules}
use mathlib.Core.Path.{sym, ◌∙◌}
use Rattle.rows.proofs.Reading.{not-front, at-front}
use Rattle.rows.proofs.is_named.Goals as goal

pub returns-then-begins : goal.returns-then-begins
returns-then-begins c =
    rw (at-front _ _ (sym c.begins.ensures ∙ c.if-begins.true), ← c.read_name.ensures) (search rules)

pub returns-else-begins : goal.returns-else-begins
returns-else-begins c =
    rw (not-front _ _ (sym c.begins.ensures ∙ c.if-begins.false), c.if-begins.false)
