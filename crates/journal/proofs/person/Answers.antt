-- `journal::person` meets its contract: what is asked first, and the person in the record. Assumes nothing.
use mathlib.Core.Path.{◌∙◌, sym}
use lib.Seq.{length-take-le}
use Rattle.journal.proofs.Opened.{opened-bounds}
use Rattle.journal.proofs.Persons.{person-refused, person-by, opened-edits}
use Rattle.journal.proofs.person.Goals as goal

pub returns-then-not-opens : goal.returns-then-not-opens
returns-then-not-opens c = person-refused _ _ (sym c.opens.ensures ∙ c.if-not-opens.true)

pub slice_bounds-person_in-end : goal.slice_bounds-person_in-end
slice_bounds-person_in-end c =
    let e = c in
    let b = opened-bounds _ (sym e.opens.ensures ∙ e.if-not-opens.false) in
    sym (length-take-le _ _ b.used-fits)

pub person_in-requires : goal.person_in-requires
person_in-requires c = let e = c in opened-edits _ (sym e.opens.ensures ∙ e.if-not-opens.false)

pub returns : goal.returns
returns c =
    let e = c in
    person-by _ _ (sym e.opens.ensures ∙ e.if-not-opens.false) c.person_in.ensures
