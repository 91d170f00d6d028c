-- `list::put` meets its contract: the text and the head before it make the record. Assumes nothing.
use native.Mathlib.Omega.{arith}
use Rattle.record.specs.Record.{Rec}
use Rattle.record.proofs.Written.{body-then-head}
use Rattle.text.specs.Escape.{text_from}
use Rattle.text.specs.Step.{text_of}
use mathlib.Core.Bool.{false}
use Rattle.text.proofs.list.put.Goals as goal

pub returns : goal.returns
returns c =
    let p = c in
    let u = p in
    let s = u in
    let a = s.args in
    let r : Rec = record { kind = 2; body = text_of (text_from a.k a.raw.now false 0) } in
    (omega (arith, u.unescape-n.ensures.0), body-then-head a.out.now u.unescape-n.new.out p.put_head.new.out a.at r s.requires.1 u.unescape-n.ensures.0 u.unescape-n.ensures.1 p.put_head.ensures)
