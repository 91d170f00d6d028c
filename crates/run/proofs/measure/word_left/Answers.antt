-- `measure::word_left` meets its contract: each form takes the room of what its argument becomes. Assumes nothing.
use native.Mathlib.Omega.{arith}
use mathlib.Core.Path.{sym, ◌∙◌}
use Rattle.base.proofs.Lists.{length_part}
use Rattle.command.proofs.Parting.{quote-ends}
use Rattle.run.specs.Run.{run_of}
use Rattle.run.specs.Step.{put_of, items_in}
use Rattle.text.proofs.RoomLaws.{spend-zero}
use Rattle.run.proofs.Listing.{items-length}
use Rattle.run.proofs.Arguments.{files-records, icon-records, quoted-records, dropped-records, bare-records}
use borrow.Author.Rules.{rules}
use Rattle.run.proofs.measure.word_left.Goals as goal

pub slice_bounds-text_left-end : goal.slice_bounds-text_left-end
slice_bounds-text_left-end c =
    omega (arith, quote-ends c.args.word.now (search rules) c.bare_end-closing.ensures)

pub text_left-requires : goal.text_left-requires
text_left-requires c =
    let q = quote-ends c.args.word.now (search rules) c.bare_end-closing.ensures in
    omega (arith, length_part 1 c.bare_end-closing.result c.args.word.now q.1)

pub returns-then-is_dropped : goal.returns-then-is_dropped
returns-then-is_dropped c =
    let a = c.args in
    rw (dropped-records (run_of (put_of a.item.now a.name.now a.location.now) (items_in a.list.now) a.icon.now) a.word.now (sym c.in-Bare.is ∙ c.form_of.ensures) (sym c.is_dropped.ensures ∙ c.if-is_dropped.true))
    (sym (spend-zero a.left))

pub returns-in-Files : goal.returns-in-Files
returns-in-Files c =
    let a = c.args in
    rw (files-records (run_of (put_of a.item.now a.name.now a.location.now) (items_in a.list.now) a.icon.now) a.word.now (sym c.in-Files.is ∙ c.form_of.ensures), items-length 3 a.list.now c.requires.2)
    c.spend.ensures

pub returns-in-Icon : goal.returns-in-Icon
returns-in-Icon c =
    let a = c.args in
    rw (icon-records (run_of (put_of a.item.now a.name.now a.location.now) (items_in a.list.now) a.icon.now) a.word.now (sym c.in-Icon.is ∙ c.form_of.ensures))
    c.icon_left.ensures

pub returns-in-Quoted : goal.returns-in-Quoted
returns-in-Quoted c =
    let a = c.args in
    rw (quoted-records (run_of (put_of a.item.now a.name.now a.location.now) (items_in a.list.now) a.icon.now) a.word.now (sym c.in-Quoted.is ∙ c.form_of.ensures) c.bare_end-closing.ensures)
    c.text_left.ensures

pub returns-else-is_dropped : goal.returns-else-is_dropped
returns-else-is_dropped c =
    let a = c.args in
    rw (bare-records (run_of (put_of a.item.now a.name.now a.location.now) (items_in a.list.now) a.icon.now) a.word.now (sym c.in-Bare.is ∙ c.form_of.ensures) (sym c.is_dropped.ensures ∙ c.if-is_dropped.false))
    c.text_left-in-Bare.ensures
