-- `in_runs` meets its contract: the tests that led to each return say which case of the definition holds. Assumes nothing.
use Rattle.exec.proofs.Asking.{runs-some}
use Rattle.exec.proofs.in_runs.Goals as goal

pub returns-then-count-eq0 : goal.returns-then-count-eq0
returns-then-count-eq0 c = rw c.if-count-eq0.true

pub returns-then-item : goal.returns-then-item
returns-then-item c = rw (runs-some c.args.item c.args.count c.if-count-eq0.false, c.if-item.true)

pub returns : goal.returns
returns c = rw (runs-some c.args.item c.args.count c.if-count-eq0.false, c.if-item.false)
