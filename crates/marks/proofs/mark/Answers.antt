-- `marks::mark` meets its contract: the bits of both hashes are asked and set. Assumes nothing.
use Rattle.marks.proofs.Table.{marked_by}
use Rattle.marks.proofs.mark.Goals as goal

pub returns : goal.returns
returns c =
    let a = c.args in
    marked_by a.marks.now a.tag a.x.now c.hash.ensures c.numbered-h.ensures c.rehash-g.ensures
    c.both-there.ensures c.set.ensures c.set-2.ensures
