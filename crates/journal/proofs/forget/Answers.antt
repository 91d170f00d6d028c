-- `journal::forget` meets its contract: what is asked first, the oldest records, and one move. Assumes nothing.
use mathlib.Core.Path.{◌∙◌, sym}
use lib.Seq.{length-take-le}
use Rattle.fault.proofs.Answers.{handed-on}
use Rattle.journal.proofs.Opened.{opened-bounds, opened-sound}
use Rattle.journal.proofs.Ends.{forgets-refused, forget-unopened, forget-fewer, forget_goes, forgets-done}
use Rattle.journal.proofs.forget.Goals as goal

pub returns-then-not-opens : goal.returns-then-not-opens
returns-then-not-opens c = forgets-refused _ _ (forget-unopened _ _ (sym c.opens.ensures ∙ c.if-not-opens.true))

pub slice_bounds-oldest_end-end : goal.slice_bounds-oldest_end-end
slice_bounds-oldest_end-end c = (opened-bounds _ (sym c.opens.ensures ∙ c.if-not-opens.false)).used-fits

pub slice_bounds-oldest_end-end-2 : goal.slice_bounds-oldest_end-end-2
slice_bounds-oldest_end-end-2 c =
    let e = c in
    let b = opened-bounds _ (sym e.opens.ensures ∙ e.if-not-opens.false) in
    sym (length-take-le _ _ b.used-fits)

pub oldest_end-requires : goal.oldest_end-requires
oldest_end-requires c = let e = c in opened-sound _ (sym e.opens.ensures ∙ e.if-not-opens.false)

pub returns-in_err-gone : goal.returns-in_err-gone
returns-in_err-gone c =
    let few = forget-fewer _ _ (sym c.opens.ensures ∙ c.if-not-opens.false) c.oldest_end.result (sym c.ok_or.ensures.value ∙ c.in_err-gone.was) c.oldest_end.ensures in
    rw (handed-on _ c.from_residual.ensures.1) (forgets-refused _ _ few)

pub drop_front-requires : goal.drop_front-requires
drop_front-requires c =
    let g = forget_goes _ _ (sym c.opens.ensures ∙ c.if-not-opens.false) (rw (c.ok_or.ensures.ok_part, c.in_ok-gone.was) at c.oldest_end.ensures) in
    (g.stands, g.bounds.standing-fits, g.bounds.used-fits)

pub returns : goal.returns
returns c =
    let g = forget_goes _ _ (sym c.opens.ensures ∙ c.if-not-opens.false) (rw (c.ok_or.ensures.ok_part, c.in_ok-gone.was) at c.oldest_end.ensures) in
    forgets-done _ _ g c.drop_front.ensures
