-- `marks::hash` meets its contract: what the bytes left make of the hash is the whole answer. Assumes nothing.
use native.Mathlib.Omega.{arith}
use mathlib.Core.Path.{refl, sym, ◌∙◌}
use lib.ListN.{length, drop, length-drop}
use lib.Seq.{take_all}
use Prim.Native.Nat.{◌-◌}
use Rattle.marks.specs.Marks.{word_at, hash_from, name_hash}
use Rattle.marks.proofs.Bytes.{four, hash-end}
use Rattle.marks.proofs.hash.Goals as goal

pub loop-rest-init : goal.loop-rest-init
unfolding name_hash
loop-rest-init c = refl

pub loop-rest-preserved : goal.loop-rest-preserved
unfolding hash_from
loop-rest-preserved c =
    let r = c.loop-rest.rest.now in
    let d = length-drop 4 r in
    rw (take_all (length r - 4) (drop 4 r) (omega arith), c.hash_word-h.ensures, c.four.ensures.0) (rw (four r 0 (omega arith)) at c.loop-rest.invariant)

pub returns : goal.returns
returns c =
    let l = c.loop-rest in
    let x = c.args.x.now in
    c.hash_word.ensures ∙ rw c.last.ensures.0 (sym (hash-end (word_at x (length x - 4)) l.h l.rest.now (omega arith)) ∙ l.invariant)
