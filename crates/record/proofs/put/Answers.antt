-- `record::put` meets its contract: head and body, each through a tail, make the record. Assumes nothing.
use native.Mathlib.Omega.{arith}
use Rattle.record.specs.Record.{Rec}
use Rattle.record.proofs.Written.{record-written}
use Rattle.record.proofs.put.Goals as goal

pub returns : goal.returns
returns c =
    let p = c in
    let h = p in
    let s = h in
    let a = s.args in
    let r : Rec = record { kind = a.kind; body = a.body.now } in
    (omega arith, record-written a.out.now h.put_head.new.out p.copy.new.to a.at r s.requires h.put_head.ensures p.copy.ensures.is)

pub slice_bounds-put_head-count : goal.slice_bounds-put_head-count
slice_bounds-put_head-count c = omega arith

pub slice_bounds-put_head-start : goal.slice_bounds-put_head-start
slice_bounds-put_head-start c = omega arith

pub slice_bounds-put_head-end : goal.slice_bounds-put_head-end
slice_bounds-put_head-end c = omega arith

pub overflow_add-body : goal.overflow_add-body
overflow_add-body c = omega arith

pub overflow_add-from : goal.overflow_add-from
overflow_add-from c = omega arith

pub slice_bounds-copy-count : goal.slice_bounds-copy-count
slice_bounds-copy-count c = omega arith

pub slice_bounds-copy-start : goal.slice_bounds-copy-start
slice_bounds-copy-start c = omega arith

pub slice_bounds-copy-end : goal.slice_bounds-copy-end
slice_bounds-copy-end c = omega arith

pub overflow_add-result : goal.overflow_add-result
overflow_add-result c = omega arith

pub shape_of-out : goal.shape_of-out
shape_of-out c = omega arith
