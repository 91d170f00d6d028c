-- `write::put_icon` meets its contract: two records, the second behind the first, or none. Assumes nothing.
use mathlib.Core.Path.{ap}
use lib.ListN.{length}
use native.Mathlib.Omega.{arith}
use Rattle.base.specs.Lists.{ascii}
use Rattle.run.proofs.Listing.{list-none, length-one}
use Rattle.run.proofs.Arguments.{icon-none, icon-some}
use Rattle.run.proofs.Writing.{wrote_none, wrote_then, icon-two}
use Rattle.run.proofs.write.put_icon.Goals as goal

pub returns-then-icon-eq0 : goal.returns-then-icon-eq0
returns-then-icon-eq0 c = rw (icon-none c.args.icon.now c.if-icon-eq0.true, list-none 3) (wrote_none c.args.out.now)

pub put_argument-n-requires : goal.put_argument-n-requires
put_argument-n-requires c = omega (arith, icon-some c.args.icon.now c.if-icon-eq0.false)

pub slice_bounds-put_argument-count : goal.slice_bounds-put_argument-count
slice_bounds-put_argument-count c =
    omega (arith, icon-some c.args.icon.now c.if-icon-eq0.false, length-one 3 (ascii "--icon"), c.put_argument-n.ensures.long)

pub put_argument-requires : goal.put_argument-requires
put_argument-requires c =
    omega (arith, icon-some c.args.icon.now c.if-icon-eq0.false, length-one 3 (ascii "--icon"), c.put_argument-n.ensures.long)

pub returns : goal.returns
returns c =
    rw (icon-two c.args.icon.now c.if-icon-eq0.false) (wrote_then c.put_argument-n.ensures c.put_argument.ensures)

pub overflow_add-result : goal.overflow_add-result
overflow_add-result c = let w = wrote_then c.put_argument-n.ensures c.put_argument.ensures in omega (arith, w.long, ap length (icon-two c.args.icon.now c.if-icon-eq0.false))
