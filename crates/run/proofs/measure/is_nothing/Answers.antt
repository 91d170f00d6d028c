-- `measure::is_nothing` meets its contract: each arm is the case of its name. Assumes nothing.
use Rattle.run.specs.Run.{leaves_nothing}
use Rattle.run.proofs.measure.is_nothing.Goals as goal

pub returns-in-Vanished : goal.returns-in-Vanished
unfolding leaves_nothing
returns-in-Vanished c = rw c.in-Vanished.is

pub returns-in-Item : goal.returns-in-Item
unfolding leaves_nothing
returns-in-Item c = rw c.in-Item.is

pub returns-in-Byte : goal.returns-in-Byte
unfolding leaves_nothing
returns-in-Byte c = rw c.in-Byte.is

pub returns-in-Name : goal.returns-in-Name
unfolding leaves_nothing
returns-in-Name c = rw c.in-Name.is

pub returns-in-Location : goal.returns-in-Location
unfolding leaves_nothing
returns-in-Location c = rw c.in-Location.is
