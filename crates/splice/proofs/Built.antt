-- A file copied to the front of a buffer and edited there. Assumes nothing.
use mathlib.Core.Path.{◌≡◌}
use mathlib.Core.List.{List}
use Prim.Native.Nat.{ℕ, ◌+◌, ◌-◌, ◌≤◌}
use native.Mathlib.Omega.{arith}
use lib.ListN.{length, take, drop, length-append, length-drop}
use lib.Seq.{length-take-le, take-append_seam}
use Rattle.base.specs.Over.{over}
use Rattle.splice.specs.Edit.{replaced, buffer_with}
use Rattle.splice.proofs.Splits.{buffer-content}

-- the length of a file with bytes replaced
pub replaced-length : (place old : ℕ) (new file : List ℕ) → place + old ≤ length file → length (replaced place old new file) ≡ length file - old + length new
unfolding replaced
replaced-length place old new file h = simp (length-append, length-drop) (omega (arith, length-take-le place file (omega arith)))

-- the edited file stands at the buffer's front
pub built : (space file new : List ℕ) (place old n : ℕ) → place + old ≤ length file → n ≡ length file - old + length new
    → take n (buffer_with (over space 0 file) (length file) (replaced place old new (take (length file) (over space 0 file)))) ≡ replaced place old new file
built space file new place old n h e =
    let f : take (length file) (over space 0 file) ≡ file = take-append_seam file (drop (0 + length file) space) in
    rw (f, e, ← replaced-length place old new file h) (buffer-content (over space 0 file) (length file) (replaced place old new file))
