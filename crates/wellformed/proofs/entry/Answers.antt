-- `entry` meets its contract: a name without a mark does not stand before, and any other is looked for. Assumes nothing.
use mathlib.Core.Path.{refl, sym, ◌∙◌}
use lib.ListN.{take}
use lib.Seq.{length-take-le}
use borrow.Author.Tests.{eq-eqb, ne_eqb}
use Rattle.rows.specs.Rows.{read_rows}
use Rattle.rows.specs.Title.{same_title, find_row, Key}
use Rattle.rows.proofs.Told.{found-there}
use Rattle.wellformed.specs.Pass.{title_after}
use Rattle.wellformed.proofs.entry.Goals as goal

pub returns-then-tag-eq0 : goal.returns-then-tag-eq0
unfolding title_after same_title
returns-then-tag-eq0 c = (rw (eq-eqb _ _ c.if-tag-eq0.true) refl, c.mark-there.ensures.1)

pub returns-then-there : goal.returns-then-there
unfolding title_after
returns-then-there c =
    let t = found-there (find_row (read_rows (take c.args.p c.args.file.now)) (Key c.bytes-own.result.now c.args.name.now)) c.is_some-again.ensures c.find_key.ensures in
    (rw (ne_eqb _ _ c.if-tag-eq0.false, ← c.bytes-own.ensures, t) c.refuse_unless.ensures, c.mark-there.ensures.1)

pub returns : goal.returns
unfolding title_after
returns c =
    (rw (ne_eqb _ _ c.if-tag-eq0.false, c.requires.4 (sym c.mark-there.ensures.0 ∙ c.if-there.false)) refl, c.mark-there.ensures.1)

pub slice_bounds-find_key-end : goal.slice_bounds-find_key-end
slice_bounds-find_key-end c = sym (length-take-le c.args.p c.args.file.now c.requires.0)
