-- `classes::plain_16` meets its contract: the flag says whether every byte passed is plain. Assumes nothing.
use mathlib.Core.Path.{◌≡◌}
use lib.ListN.{take}
use Rattle.base.specs.Lists.{all}
use Rattle.characters.specs.Class.{value_byte}
use Rattle.characters.proofs.classes.plain_16.Given as goal

abbrev pub invariant-loop-b : goal.invariant-loop-b
invariant-loop-b l = l.plain ≡ all value_byte (take l.b-index l.b-items)
