-- The tail moved, the new bytes written and zeros up to the old length: the buffer with the edited file. Assumes nothing.
use mathlib.Core.Path.{◌≡◌}
use mathlib.Core.List.{List, ◌++◌, append_assoc}
use Prim.Native.Nat.{ℕ, ◌+◌, ◌-◌, ◌≤◌, max}
use native.Mathlib.Omega.{arith}
use lib.ListN.{length, take, drop, replicate, length-append, length-drop, length-replicate}
use lib.Seq.{length-take-le, take-take, take-add, drop_at}
use Rattle.base.specs.Over.{over}
use Rattle.base.proofs.Over.{over-then, over-before}
use Rattle.splice.specs.Edit.{replaced, buffer_with}

module _ (b new : List ℕ) (size place old tail : ℕ) (fits : size ≤ length b) (parts : size ≡ place + old + tail) (room : place + length new + tail ≤ length b) where
  -- the file behind the replaced bytes
  kept : List ℕ
  kept = take tail (drop (place + old) b)

  length-kept : length kept ≡ tail
  unfolding kept
  length-kept = length-take-le tail (drop (place + old) b) (simp length-drop (omega arith))

  edited : replaced place old new (take size b) ≡ take place b ++ (new ++ kept)
  unfolding replaced kept
  edited =
      rw (
        take-take place size b (omega arith),
        parts,
        take-add (place + old) tail b,
        drop_at (take (place + old) b) (take tail (drop (place + old) b)) (place + old) (length-take-le (place + old) b (omega arith)),
      )

  length-edited : length (replaced place old new (take size b)) ≡ place + length new + tail
  length-edited =
      let k = length-kept in
      let p = length-take-le place b (omega arith) in
      rw edited (simp length-append (omega arith))

  pub whole : over (over (over b (place + length new) (take tail (drop (place + old) b))) place new) (place + length new + tail) (replicate (size - (place + length new + tail)) 0)
      ≡ buffer_with b size (replaced place old new (take size b))
  unfolding buffer_with kept
  whole =
      let k = length-kept in
      let end : ℕ = place + length new + tail in
      let zeros : List ℕ = replicate (size - end) 0 in
      let z : length zeros ≡ size - end = length-replicate (size - end) 0 in
      let n : length (new ++ kept) ≡ length new + tail = rw length-append (omega arith) in
      let m : place + length ((new ++ kept) ++ zeros) ≡ max size end = simp length-append (omega arith) in
      rw (
        over-before b place new kept {n = place + length new} (omega arith) (omega arith),
        over-then b place (new ++ kept) zeros {n = end} (omega arith) (omega arith),
        m,
        length-edited,
        edited,
      )
      (simp append_assoc)
