-- `classes::is_key` meets its contract: a letter is small or a capital, and the other tests are those of the definition. Assumes nothing.
use borrow.Author.Rules.{rules}
use Rattle.characters.proofs.Letters.{key-folded}
use Rattle.characters.proofs.classes.is_key.Goals as goal

pub returns-then-within : goal.returns-then-within
returns-then-within c = rw (key-folded c.args.b (search rules)) (search rules)

pub returns-then-within-2 : goal.returns-then-within-2
returns-then-within-2 c = rw (key-folded c.args.b (search rules)) (search rules)

pub returns-else-within-2 : goal.returns-else-within-2
returns-else-within-2 c = rw (key-folded c.args.b (search rules)) (search rules)
