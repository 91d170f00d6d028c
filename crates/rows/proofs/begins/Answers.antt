-- `rows::begins` meets its contract: a shorter line does not begin so, and of another the front is compared. Assumes nothing.
use mathlib.Core.Path.{sym, ◌∙◌}
use borrow.Author.Tests.{lt-leb}
use lib.ListN.{length}
use Rattle.base.proofs.Tests.{pointwise_same, same-sym}
use Rattle.rows.proofs.Reading.{too_short}
use Rattle.rows.proofs.begins.Goals as goal

pub returns-then-key-l : goal.returns-then-key-l
returns-then-key-l c = c.eq.ensures ∙ pointwise_same _ _ ∙ same-sym _ _

pub returns-else-key-l : goal.returns-else-key-l
returns-else-key-l c =
    let a = c.args in
    lt-leb (length a.key.now) (length a.l.now) c.if-key-l.false ∙ sym (too_short a.key.now a.l.now c.if-key-l.false)
