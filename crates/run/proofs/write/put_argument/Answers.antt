-- `write::put_argument` meets its contract: a list of one is its record. Assumes nothing.
use Rattle.run.proofs.Writing.{wrote-argument}
use Rattle.run.proofs.write.put_argument.Goals as goal

pub returns : goal.returns
returns c = wrote-argument c.args.argument.now c.put.ensures
