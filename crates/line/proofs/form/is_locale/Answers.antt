-- `form::is_locale` meets its contract: the locale is what `locale_at` reads. Assumes nothing.
use Rattle.line.specs.Form.{locale_form}
use mathlib.Core.Path.{sym, ◌∙◌}
use borrow.Author.Rules.{rules}
use Rattle.line.proofs.Locales.{locale-by}
use Rattle.line.proofs.form.is_locale.Goals as goal

pub returns-then-is_empty : goal.returns-then-is_empty
unfolding locale_form
returns-then-is_empty c = rw (sym c.is_empty.ensures ∙ c.if-is_empty.true, c.if-is_empty.true)

pub returns-else-is_empty : goal.returns-else-is_empty
unfolding locale_form
returns-else-is_empty c = rw (sym c.is_empty.ensures ∙ c.if-is_empty.false, locale-by c.args.s.now, ← c.locale_at.ensures) (search rules)
