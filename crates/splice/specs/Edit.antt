-- An edit of a file: old bytes at a place become new ones (01, "Edits and the journal"). Assumes nothing.
use Rattle.std.specs.Prelude.{ℕ, ◌+◌, ◌-◌, max, Bool, ◌&&◌, List, ◌++◌, length, take, drop, replicate, leb}
use Rattle.base.specs.Lists.{same, part}

-- the bytes at a place that go, and those that come in their stead
pub record Edit : Type 0 where
  pub place : ℕ
  pub old : List ℕ
  pub new : List ℕ

-- a file in which so many bytes at a place became the new ones
unfoldable pub replaced : ℕ → ℕ → List ℕ → List ℕ → List ℕ
replaced place old new file = take place file ++ (new ++ drop (place + old) file)

-- the file after the edit
unfoldable pub spliced : Edit → List ℕ → List ℕ
spliced e file = replaced e.place (length e.old) e.new file

-- the edit that takes it back
abbrev pub turned : Edit → Edit
turned e = record { place = e.place; old = e.new; new = e.old }

-- these bytes stand at a place, all inside the file
unfoldable pub stands_at : ℕ → List ℕ → List ℕ → Bool
stands_at place old file = leb (place + length old) (length file) && same (part place (place + length old) file) old

-- an edit's old bytes stand at its place
unfoldable pub stands : Edit → List ℕ → Bool
stands e file = stands_at e.place e.old file

-- A buffer whose first bytes were a file, or a journal, of this length and now are another: zeros up to the old length, then its own bytes.
unfoldable pub buffer_with : List ℕ → ℕ → List ℕ → List ℕ
buffer_with buffer size file = file ++ (replicate (size - length file) 0 ++ drop (max size (length file)) buffer)
