-- What a write leaves in a buffer. Assumes nothing.
use Rattle.std.specs.Prelude.{◌≡◌, ℕ, ◌+◌, List, ◌++◌, length, take, drop}

-- a buffer with x written from a place on
abbrev pub over : List ℕ → ℕ → List ℕ → List ℕ
over s at x = take at s ++ (x ++ drop (at + length x) s)

-- a buffer with x written at its start
abbrev pub at_front : List ℕ → List ℕ → List ℕ
at_front s x = x ++ drop (length x) s

-- a buffer s became t: x was written from a place up to n
pub record WroteAt (s : List ℕ) (at : ℕ) (x : List ℕ) (n : ℕ) (t : List ℕ) : Type 0 where
  pub ends : n ≡ at + length x
  pub is : t ≡ over s at x
