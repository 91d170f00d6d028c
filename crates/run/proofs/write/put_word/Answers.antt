-- `write::put_word` meets its contract: each form writes what its argument becomes. Assumes nothing.
use native.Mathlib.Omega.{arith}
use mathlib.Core.Path.{sym, ◌∙◌}
use Rattle.base.proofs.Lists.{length_part}
use Rattle.command.proofs.Parting.{quote-ends}
use Rattle.run.proofs.Listing.{length-one}
use Rattle.run.proofs.Arguments.{files-records, icon-records, quoted-records, dropped-records, bare-records}
use Rattle.run.proofs.Writing.{wrote_none}
use borrow.Author.Rules.{rules}
use Rattle.run.proofs.write.put_word.Goals as goal

pub put_items-requires : goal.put_items-requires
put_items-requires c =
    let e = sym c.in-Files.is ∙ c.form_of.ensures in
    (c.requires.2, rw files-records at c.requires.3)

pub put_icon-requires : goal.put_icon-requires
put_icon-requires c =
    let e = sym c.in-Icon.is ∙ c.form_of.ensures in
    rw icon-records at c.requires.3

pub slice_bounds-put_text-end : goal.slice_bounds-put_text-end
slice_bounds-put_text-end c =
    omega (arith, quote-ends c.args.word.now (search rules) c.bare_end-closing.ensures)

pub put_text-requires : goal.put_text-requires
put_text-requires c =
    let e = sym c.in-Quoted.is ∙ c.form_of.ensures in
    let h = c.bare_end-closing.ensures in
    let q = quote-ends c.args.word.now (search rules) h in
    (omega (arith, length_part 1 c.bare_end-closing.result c.args.word.now q.1), rw (quoted-records _ _ e h, length-one) at c.requires.3)

pub returns-then-is_dropped : goal.returns-then-is_dropped
returns-then-is_dropped c =
    let e = sym c.in-Bare.is ∙ c.form_of.ensures in
    let d = sym c.is_dropped.ensures ∙ c.if-is_dropped.true in
    rw dropped-records (wrote_none c.args.out.now)

pub put_text-requires-in-Bare : goal.put_text-requires-in-Bare
put_text-requires-in-Bare c =
    let e = sym c.in-Bare.is ∙ c.form_of.ensures in
    let d = sym c.is_dropped.ensures ∙ c.if-is_dropped.false in
    (c.requires.1, rw (bare-records, length-one) at c.requires.3)

pub returns-in-Files : goal.returns-in-Files
returns-in-Files c =
    let e = sym c.in-Files.is ∙ c.form_of.ensures in
    rw files-records c.put_items.ensures

pub returns-in-Icon : goal.returns-in-Icon
returns-in-Icon c =
    let e = sym c.in-Icon.is ∙ c.form_of.ensures in
    rw icon-records c.put_icon.ensures

pub returns-in-Quoted : goal.returns-in-Quoted
returns-in-Quoted c =
    let e = sym c.in-Quoted.is ∙ c.form_of.ensures in
    let h = c.bare_end-closing.ensures in
    rw (quoted-records _ _ e h) c.put_text.ensures

pub returns-else-is_dropped : goal.returns-else-is_dropped
returns-else-is_dropped c =
    let e = sym c.in-Bare.is ∙ c.form_of.ensures in
    let d = sym c.is_dropped.ensures ∙ c.if-is_dropped.false in
    rw bare-records c.put_text-in-Bare.ensures
