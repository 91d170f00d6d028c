-- `marks::hash` meets its contract: what the bytes left make of the hash is the whole answer. Assumes nothing.
use mathlib.Core.Path.{◌≡◌}
use lib.ListN.{length}
use Prim.Native.Nat.{◌-◌}
use Rattle.marks.specs.Marks.{word_at, hash_from, name_hash}
use Rattle.marks.proofs.hash.Given as goal

abbrev pub invariant-loop-rest : goal.invariant-loop-rest
invariant-loop-rest l = hash_from (word_at l.x (length l.x - 4)) l.rest l.h ≡ name_hash l.x

abbrev pub decreases-loop-rest : goal.decreases-loop-rest
decreases-loop-rest l = length l.rest
