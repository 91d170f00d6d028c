-- `complete_rows` meets its contract: the calls that led to each return say which answer the definition has. Assumes nothing.
use Rattle.complete.proofs.Keys.{KeyRow, key_row, key-none, complete-type}
use Rattle.complete.specs.Complete.{complete_rows}
use Rattle.base.specs.Lists.{ascii}
use Rattle.complete.proofs.complete_rows.Goals as goal
use Rattle.complete.proofs.complete_rows.Goals.{In-Some}

-- the row of Type
row : (c : In-Some) → KeyRow c.args.file.now (ascii "Type") c.in-Some.row
row c = key_row c.args.file.now (ascii "Type") c.find_key.ensures c.in-Some.is

pub returns-in_default : goal.returns-in_default
unfolding complete_rows
returns-in_default c =
    rw (key-none c.args.file.now (ascii "Type") c.find_key.ensures c.in_default.is)

pub returns-then-not-is_type : goal.returns-then-not-is_type
returns-then-not-is_type c =
    let k = row (goal.at.returns-then-not-is_type c).In-Some in
    rw (complete-type _ k.found, ← k.value-is, ← c.is_type.ensures, c.if-not-is_type.true, ← k.line-is)

pub returns-then-not-has_keys : goal.returns-then-not-has_keys
returns-then-not-has_keys c =
    let k = row (goal.at.returns-then-not-has_keys c).In-Some in
    rw (complete-type _ k.found, ← k.value-is, ← c.is_type.ensures, c.if-not-is_type.false, ← c.has_keys.ensures, c.if-not-has_keys.true)

pub returns : goal.returns
returns c =
    let k = row (goal.at.returns c).In-Some in
    rw (complete-type _ k.found, ← k.value-is, ← c.is_type.ensures, c.if-not-is_type.false, ← c.has_keys.ensures, c.if-not-has_keys.false)
    c.check_booleans.ensures

pub slice_bounds-is_type-count : goal.slice_bounds-is_type-count
slice_bounds-is_type-count c = (row (goal.at.slice_bounds-is_type-count c).In-Some).value-le

pub slice_bounds-is_type-start : goal.slice_bounds-is_type-start
slice_bounds-is_type-start c = (row (goal.at.slice_bounds-is_type-start c).In-Some).value-le

pub slice_bounds-is_type-end : goal.slice_bounds-is_type-end
slice_bounds-is_type-end c = (row (goal.at.slice_bounds-is_type-end c).In-Some).end-le
