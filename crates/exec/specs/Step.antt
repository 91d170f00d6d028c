-- What the inner functions of this crate answer, by the definition of the expansion. Assumes nothing.
use Rattle.std.specs.Prelude.{◌≡◌, ℕ, ◌≤◌, List, length}
use Rattle.base.specs.Over.{at_front}
use Rattle.fault.specs.Answer.{Answer, then}
use Rattle.text.specs.Step.{text_of}

-- a text was read to the start of a buffer s with room for it, which became t: how long it is, or its refusal
pub record ReadTo (a : Answer (List ℕ)) (s : List ℕ) (r : Answer ℕ) (t : List ℕ) : Type 0 where
  pub tells : r ≡ then length a
  pub is : t ≡ at_front s (text_of a)
  pub fits : length (text_of a) ≤ length s
