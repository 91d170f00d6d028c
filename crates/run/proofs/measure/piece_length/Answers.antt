-- `measure::piece_length` meets its contract: each arm is the case of its name. Assumes nothing.
use Rattle.run.specs.Run.{piece_bytes}
use Rattle.run.proofs.measure.piece_length.Goals as goal

pub returns-in-Byte : goal.returns-in-Byte
unfolding piece_bytes
returns-in-Byte c = rw c.in-Byte.is

pub returns-in-Item : goal.returns-in-Item
unfolding piece_bytes
returns-in-Item c = rw c.in-Item.is

pub returns-in-Name : goal.returns-in-Name
unfolding piece_bytes
returns-in-Name c = rw c.in-Name.is

pub returns-in-Location : goal.returns-in-Location
unfolding piece_bytes
returns-in-Location c = rw c.in-Location.is

pub returns-in-Vanished : goal.returns-in-Vanished
unfolding piece_bytes
returns-in-Vanished c = rw c.in-Vanished.is
