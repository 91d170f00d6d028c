-- `has_plain` meets its contract: the key is its own plain key, or that one is looked for. Assumes nothing.
use mathlib.Core.Path.{sym}
use lib.Seq.{length-take-le}
use Rattle.change.proofs.Aiming.{plain-le, plain-itself, plain-found}
use Rattle.change.proofs.has_plain.Goals as goal

pub returns : goal.returns
returns c =
    let s = c.args in
    plain-found s.key.now c.span_end-n.ensures s.file.now s.group.now c.if-n-key.false c.is_some.ensures c.find_key.ensures

pub returns-then-n-key : goal.returns-then-n-key
returns-then-n-key c = rw (plain-itself _ c.span_end-n.ensures c.if-n-key.true)

pub slice_bounds-find_key-end : goal.slice_bounds-find_key-end
slice_bounds-find_key-end c = let key = c.args.key.now in sym (length-take-le _ key (plain-le key c.span_end-n.ensures))
