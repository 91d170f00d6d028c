-- `edit::carry_out` meets its contract: the target's edit is the request's. Assumes nothing.
use mathlib.Core.Path.{refl, sym}
use lib.Seq.{length-take-le}
use Rattle.fault.proofs.Answers.{handed-on}
use Rattle.edit.proofs.carry_out.Goals as goal

pub apply-requires : goal.apply-requires
apply-requires c = (c.requires.size_fits, c.requires.size_bound, c.requires.standing_bound, rw (length-take-le c.args.size c.args.file.now c.requires.size_fits) at c.in_ok-t.ensures.inside)

pub returns : goal.returns
returns c =
    rw (← c.in_ok-t.ensures.is) c.apply.ensures

pub returns-in_err-t : goal.returns-in_err-t
returns-in_err-t c = rw (handed-on _ c.from_residual.ensures.1, ← c.in_err-t.ensures.is) (record { answer = refl; file_is = refl; journal_is = refl })

pub slice_bounds-find_target-end-2 : goal.slice_bounds-find_target-end-2
slice_bounds-find_target-end-2 c = sym (length-take-le c.args.size c.args.file.now c.requires.size_fits)

pub find_target-requires : goal.find_target-requires
find_target-requires c = c.requires.no_bad_line
