-- `header` meets its contract: a name without a mark does not stand before, and any other is looked for. Assumes nothing.
use mathlib.Core.Path.{refl, sym, ◌∙◌}
use lib.ListN.{take}
use Rattle.base.proofs.Tests.{pointwise_same}
use Rattle.rows.specs.Rows.{read_rows}
use Rattle.rows.specs.Title.{same_title, find_row, Group}
use Rattle.rows.proofs.Told.{found-there}
use Rattle.wellformed.specs.Pass.{title_after}
use Rattle.wellformed.proofs.header.Goals as goal

pub returns-then-first : goal.returns-then-first
unfolding title_after same_title
returns-then-first c = (rw (c.if-first.true, ← pointwise_same, ← c.eq.ensures) c.refuse_unless.ensures, c.mark-there.ensures.1)

pub returns-then-there : goal.returns-then-there
unfolding title_after
returns-then-there c =
    let t = found-there (find_row (read_rows (take c.args.p c.args.file.now)) (Group c.args.name.now)) c.is_some-again.ensures c.find_group.ensures in
    (rw (c.if-first.false, t) c.refuse_unless-then-there.ensures, c.mark-there.ensures.1)

pub returns : goal.returns
unfolding title_after
returns c =
    (rw (c.if-first.false, c.requires.3 (sym c.mark-there.ensures.0 ∙ c.if-there.false)) refl, c.mark-there.ensures.1)
