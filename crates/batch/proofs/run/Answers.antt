-- `batch::run` meets its contract: the requests before the place are done, and those from there on decide. Assumes nothing.
use native.Mathlib.Omega.{arith}
use borrow.Author.Rules.{rules}
use mathlib.Core.Path.{refl, sym, ◌∙◌}
use Rattle.record.proofs.Place.{Stands, front-damaged, front-record}
use Rattle.journal.specs.Journal.{Person}
use Rattle.edit.specs.Calls.{lent}
use Rattle.edit.proofs.Opening.{opened-fits}
use Rattle.batch.proofs.Running.{run-begin, run-damaged, run-done, run-stopped, run-next}
use Rattle.batch.proofs.run.Goals as goal
use Rattle.batch.proofs.run.Goals.{In-Some}

pub loop-at-init : goal.loop-at-init
loop-at-init c = (run-begin (lent c.args.file.now c.args.size c.args.journal.now c.args.used c.args.standing) (Person c.args.person) c.args.list.now c.requires.opens c.requires.list_reads, refl, refl)

-- the record that stands at the place
stands : (c : In-Some) → Stands c.args.list.now c.loop-at.at c.in-Some.field-0.kind c.in-Some.field-0.end
stands c = front-record _ _ (sym c.read.ensures ∙ c.in-Some.is)

pub returns-in_default : goal.returns-in_default
returns-in_default c =
    run-damaged c.loop-at.invariant.0 c.loop-at-test.true (front-damaged _ _ (sym c.read.ensures ∙ c.in_default.is))

pub returns-in-Err : goal.returns-in-Err
returns-in-Err c = record { is = run-stopped c.loop-at.invariant.0 (stands (goal.at.returns-in-Err c).In-Some) c.in-Err.ensures }

pub loop-at-preserved : goal.loop-at-preserved
loop-at-preserved c =
    (run-next c.loop-at.invariant.0 (stands (goal.at.loop-at-preserved c).In-Some) (search rules) c.in-Ok.ensures, search rules, search rules)

pub returns : goal.returns
returns c = record { is = run-done c.loop-at.invariant.0 c.loop-at-test.false }

pub shape_of-file-in_default : goal.shape_of-file-in_default
shape_of-file-in_default c = c.loop-at.invariant.1

pub shape_of-journal-in_default : goal.shape_of-journal-in_default
shape_of-journal-in_default c = c.loop-at.invariant.2

pub overflow_add-from : goal.overflow_add-from
overflow_add-from c = let r = stands (goal.at.overflow_add-from c).In-Some in omega arith

pub slice_bounds-body-count : goal.slice_bounds-body-count
slice_bounds-body-count c = (stands (goal.at.slice_bounds-body-count c).In-Some).head-inside

pub slice_bounds-body-start : goal.slice_bounds-body-start
slice_bounds-body-start c = (stands (goal.at.slice_bounds-body-start c).In-Some).head-inside

pub slice_bounds-body-end : goal.slice_bounds-body-end
slice_bounds-body-end c = (stands (goal.at.slice_bounds-body-end c).In-Some).inside

pub make-requires : goal.make-requires
make-requires c = (opened-fits (lent c.loop-at.file c.loop-at.left.size c.loop-at.journal c.loop-at.left.used c.loop-at.left.standing) (rw c.loop-at.invariant.0.opens)).ready

pub overflow_add-done : goal.overflow_add-done
overflow_add-done c = let r = stands (goal.at.overflow_add-done c).In-Some in let w = c.loop-at.invariant.0 in omega arith

pub loop-at-smaller : goal.loop-at-smaller
loop-at-smaller c = let r = stands (goal.at.loop-at-smaller c).In-Some in omega arith

pub shape_of-file : goal.shape_of-file
shape_of-file c = c.loop-at.invariant.1

pub shape_of-journal : goal.shape_of-journal
shape_of-journal c = c.loop-at.invariant.2
