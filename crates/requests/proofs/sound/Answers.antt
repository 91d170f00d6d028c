-- `requests::sound` meets its contract: the records from the place on decide. Assumes nothing.
use native.Mathlib.Omega.{arith}
use mathlib.Core.Path.{◌∙◌, sym}
use Prim.Native.Nat.{ℕ}
use mathlib.Core.List.{List}
use Rattle.record.proofs.Place.{Stands, front-damaged, front-record}
use Rattle.requests.proofs.Judging.{judge-long, judge-begin, judge-damaged, judge-other, judge-next, judge-done}
use Rattle.requests.proofs.sound.Goals as goal
use Rattle.requests.proofs.sound.Goals.{In-Some}

abbrev list_of : In-Some → List ℕ
list_of c = c.args.list.now

abbrev at_of : In-Some → ℕ
at_of c = c.loop-at.at

pub returns-in_default : goal.returns-in_default
returns-in_default c =
    judge-damaged c.loop-at.invariant c.loop-at-test.true (front-damaged _ _ (sym c.read.ensures ∙ c.in_default.is))

-- the record that stands at the place
stands : (c : In-Some) → Stands (list_of c) (at_of c) c.in-Some.field-0.kind c.in-Some.field-0.end
stands c = front-record _ _ (sym c.read.ensures ∙ c.in-Some.is)

pub returns-else-is_request : goal.returns-else-is_request
returns-else-is_request c =
    judge-other c.loop-at.invariant (stands (goal.at.returns-else-is_request c).In-Some) (sym c.if-is_request.false ∙ c.is_request.ensures)

pub loop-at-smaller : goal.loop-at-smaller
loop-at-smaller c = let r = stands (goal.at.loop-at-smaller c).In-Some in omega arith

pub loop-at-preserved : goal.loop-at-preserved
loop-at-preserved c =
    judge-next c.loop-at.invariant (stands (goal.at.loop-at-preserved c).In-Some) (sym c.if-is_request.true ∙ c.is_request.ensures)

pub returns-then-list-gt-LIST_MOST : goal.returns-then-list-gt-LIST_MOST
returns-then-list-gt-LIST_MOST c = judge-long _ c.if-list-gt-LIST_MOST.true

pub loop-at-init : goal.loop-at-init
loop-at-init c = judge-begin _ c.if-list-gt-LIST_MOST.false

pub overflow_add-from : goal.overflow_add-from
overflow_add-from c = let r = stands (goal.at.overflow_add-from c).In-Some in omega arith

pub slice_bounds-is_request-count : goal.slice_bounds-is_request-count
slice_bounds-is_request-count c = (stands (goal.at.slice_bounds-is_request-count c).In-Some).head-inside

pub slice_bounds-is_request-start : goal.slice_bounds-is_request-start
slice_bounds-is_request-start c = (stands (goal.at.slice_bounds-is_request-start c).In-Some).head-inside

pub slice_bounds-is_request-end : goal.slice_bounds-is_request-end
slice_bounds-is_request-end c = (stands (goal.at.slice_bounds-is_request-end c).In-Some).inside

pub returns : goal.returns
returns c = judge-done c.loop-at.invariant c.loop-at-test.false
