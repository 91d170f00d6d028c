-- `value_is` meets its contract: the value stands in the file where it is told. Assumes nothing.
use mathlib.Core.Path.{◌∙◌}
use Rattle.base.proofs.Tests.{pointwise_same}
use Rattle.complete.proofs.Keys.{KeyRow, key_row, key-none}
use Rattle.complete.specs.Complete.{value_is}
use Rattle.complete.proofs.value_is.Goals as goal
use Rattle.complete.proofs.value_is.Goals.{In-Some}

-- the row of the key
row : (c : In-Some) → KeyRow c.args.file.now c.args.key.now c.in-Some.row
row c =
    let a = c.args in
    key_row a.file.now a.key.now c.find_key.ensures c.in-Some.is

pub returns-in-Some : goal.returns-in-Some
unfolding value_is
returns-in-Some c =
    let k = row (goal.at.returns-in-Some c).In-Some in
    rw (k.found, ← k.value-is) (c.eq.ensures ∙ pointwise_same _ _)

pub returns-in-None : goal.returns-in-None
unfolding value_is
returns-in-None c =
    let a = c.args in
    rw (key-none a.file.now a.key.now c.find_key.ensures c.in-None.is)

pub slice_bounds-eq-count : goal.slice_bounds-eq-count
slice_bounds-eq-count c = (row (goal.at.slice_bounds-eq-count c).In-Some).value-le

pub slice_bounds-eq-start : goal.slice_bounds-eq-start
slice_bounds-eq-start c = (row (goal.at.slice_bounds-eq-start c).In-Some).value-le

pub slice_bounds-eq-end : goal.slice_bounds-eq-end
slice_bounds-eq-end c = (row (goal.at.slice_bounds-eq-end c).In-Some).end-le
