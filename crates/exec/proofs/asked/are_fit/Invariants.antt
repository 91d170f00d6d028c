-- `asked::are_fit` meets its contract: what is left of the items answers as all. Assumes nothing.
use mathlib.Core.Path.{◌≡◌}
use Prim.Native.Nat.{◌-◌}
use lib.ListN.{length}
use Rattle.base.specs.Lists.{all}
use Rattle.exec.specs.Expand.{fit_item}
use Rattle.run.specs.Step.{items_in}
use Rattle.run.proofs.Writing.{Items, items_at}
use Rattle.exec.proofs.asked.are_fit.Given as goal

abbrev pub invariant-loop-from : goal.invariant-loop-from
invariant-loop-from l = Items l.list l.from × (all fit_item (items_at l.list l.from) ≡ all fit_item (items_in l.list))

abbrev pub decreases-loop-from : goal.decreases-loop-from
decreases-loop-from l = length l.list - l.from
