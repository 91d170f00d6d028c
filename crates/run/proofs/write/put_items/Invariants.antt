-- `write::put_items` meets its contract: what is written and the items from the place on make the whole. Assumes nothing.
use Prim.Native.Nat.{◌-◌}
use lib.ListN.{length}
use Rattle.record.specs.Record.{list_of}
use Rattle.run.specs.Step.{items_in}
use Rattle.run.proofs.Filling.{Filling}
use Rattle.run.proofs.Writing.{Items, items_at}
use Rattle.run.proofs.write.put_items.Given as goal

abbrev pub invariant-loop-from : goal.invariant-loop-from
invariant-loop-from l = Items l.list l.from × Filling l.initial.out (list_of 3 (items_in l.list)) l.out l.at (list_of 3 (items_at l.list l.from))

abbrev pub decreases-loop-from : goal.decreases-loop-from
decreases-loop-from l = length l.list - l.from
