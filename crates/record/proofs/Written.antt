-- What the stores of a head and of a record leave. Assumes nothing.
use mathlib.Core.Path.{◌≡◌, ◌∙◌}
use mathlib.Core.List.{List}
use Prim.Native.Nat.{ℕ, ◌+◌, ◌≤◌}
use native.Mathlib.Omega.{arith}
use lib.ListN.{length}
use Rattle.base.specs.Over.{over, at_front}
use Rattle.base.proofs.Tail.{lent, back}
use Rattle.base.proofs.Over.{over-tail, over-then, over-before}
use Rattle.record.specs.Number.{little_endian}
use Rattle.record.specs.Record.{Rec, head_bytes, record_length, record_bytes}
use Rattle.record.proofs.Sizes.{length-head}

-- the kind's two bytes at the front of the tail behind the length's four
pub head-written : (out P Y : List ℕ) (size kind : ℕ) → 6 ≤ length out → P ≡ at_front out (little_endian 4 size) → Y ≡ at_front (lent 4 P) (little_endian 2 kind)
    → back 4 P Y ≡ at_front out (head_bytes size kind)
unfolding head_bytes little_endian
head-written out P Y size kind h p y =
    over-tail P 4 (little_endian 2 kind) y ∙ rw p (over-then out 0 (little_endian 4 size) (little_endian 2 kind) {n = 4} (omega arith) (omega arith))

-- a head written at the front of a tail, and then a body copied to the front of the tail behind it
pub record-written : (out Y Z : List ℕ) (at : ℕ) (r : Rec) → at + record_length r.body ≤ length out
    → Y ≡ at_front (lent at out) (head_bytes (record_length r.body) r.kind)
    → Z ≡ at_front (lent (at + 6) (back at out Y)) r.body
    → back (at + 6) (back at out Y) Z ≡ over out at (record_bytes r)
unfolding record_bytes
record-written out Y Z at r h y z =
    let head = head_bytes (record_length r.body) r.kind in
    let l = length-head (record_length r.body) r.kind in
    over-tail (back at out Y) (at + 6) r.body z
    ∙ rw (over-tail out at head y) (over-then out at head r.body {n = at + 6} (omega arith) (omega arith))

-- a body written to the front of a tail, and then the head to the front of the tail that starts six bytes before it
pub body-then-head : (out Y Z : List ℕ) (at : ℕ) (r : Rec) {n : ℕ} → at + record_length r.body ≤ length out → n ≡ length r.body
    → Y ≡ at_front (lent (at + 6) out) r.body
    → Z ≡ at_front (lent at (back (at + 6) out Y)) (head_bytes (6 + n) r.kind)
    → back at (back (at + 6) out Y) Z ≡ over out at (record_bytes r)
unfolding record_bytes
body-then-head out Y Z at r {n} h e y z =
    let l = length-head (6 + n) r.kind in
    over-tail (back (at + 6) out Y) at (head_bytes (6 + n) r.kind) z
    ∙ rw (over-tail out (at + 6) r.body y, over-before out at (head_bytes (6 + n) r.kind) r.body {n = at + 6} (omega arith) (omega arith), e)
