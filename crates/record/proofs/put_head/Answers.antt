-- `record::put_head` meets its contract: the two bytes of the kind behind the four of the length. Assumes nothing.
use Rattle.record.proofs.Written.{head-written}
use Rattle.record.proofs.put_head.Goals as goal

pub returns : goal.returns
returns c =
    let a = c.args in
    head-written a.out.now c.put_number.new.out _ a.size a.kind c.requires c.put_number.ensures (rw c.from.ensures at c.put_number-2.ensures)
