-- `put_raw` meets its contract: what is written to a tail stands there. Assumes nothing.
use Rattle.base.proofs.Over.{write-lent}
use Rattle.change.proofs.put_raw.Goals as goal

pub returns : goal.returns
returns c =
    let s = c.args in
    write-lent s.out.now s.at _ c.write_raw-n.ensures.0 c.write_raw-n.ensures.1
