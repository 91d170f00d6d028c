-- `form::is_key` meets its contract: the name is what `read_name` reads. Assumes nothing.
use Rattle.line.specs.Form.{key_form}
use borrow.Author.Rules.{rules}
use Rattle.line.proofs.form.is_key.Goals as goal

pub returns : goal.returns
unfolding key_form
returns c = rw (← c.read_name.ensures) (search rules)
