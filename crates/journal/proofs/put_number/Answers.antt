-- `journal::put_number` meets its contract: four bytes at the front of a tail. Assumes nothing.
use Rattle.base.proofs.Over.{over-tail}
use Rattle.record.specs.Number.{little_endian}
use Rattle.journal.proofs.put_number.Goals as goal

pub returns : goal.returns
returns c =
    let p = c in
    let a = p.args in
    over-tail a.out.now a.at (little_endian 4 a.n) p.put_number.ensures
