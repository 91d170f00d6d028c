-- `requests::read` meets its contract: field by field, by the kind. Assumes nothing.
use mathlib.Core.Path.{sym}
use Rattle.requests.proofs.Bodies.{group-short, key-short, two-more, two, no_kind, text-short, three-more, three}
use Rattle.requests.proofs.read.Goals as goal

pub returns-in_err-group_end : goal.returns-in_err-group_end
returns-in_err-group_end c = rw c.from_residual.ensures (sym (group-short _ _ c.in_err-group_end.ensures))

pub returns-in_err-key_end : goal.returns-in_err-key_end
returns-in_err-key_end c = rw c.from_residual-in_err-key_end.ensures (sym (key-short _ _ c.in_ok-group_end.ensures c.in_err-key_end.ensures))

pub returns-then-key_end-body : goal.returns-then-key_end-body
returns-then-key_end-body c = sym (two-more _ _ c.in_ok-group_end.ensures c.in_ok-key_end.ensures c.if-kind-eq6.true c.if-key_end-body.true)

pub returns-then-kind-eq6 : goal.returns-then-kind-eq6
returns-then-kind-eq6 c = sym (two _ _ c.in_ok-group_end.ensures c.in_ok-key_end.ensures c.if-kind-eq6.true c.if-key_end-body.false)

pub returns-then-kind-ne5 : goal.returns-then-kind-ne5
returns-then-kind-ne5 c = sym (no_kind _ _ c.in_ok-group_end.ensures c.in_ok-key_end.ensures c.if-kind-eq6.false c.if-kind-ne5.true)

pub returns-in_err-text_end : goal.returns-in_err-text_end
returns-in_err-text_end c =
    rw c.from_residual-in_err-text_end.ensures (sym (text-short _ _ c.in_ok-group_end.ensures c.in_ok-key_end.ensures c.if-kind-ne5.false c.in_err-text_end.ensures))

pub returns-then-text_end-body : goal.returns-then-text_end-body
returns-then-text_end-body c =
    sym (three-more _ _ c.in_ok-group_end.ensures c.in_ok-key_end.ensures c.if-kind-ne5.false c.in_ok-text_end.ensures c.if-text_end-body.true)

pub returns : goal.returns
returns c = sym (three _ _ c.in_ok-group_end.ensures c.in_ok-key_end.ensures c.if-kind-ne5.false c.in_ok-text_end.ensures c.if-text_end-body.false)
