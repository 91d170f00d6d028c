-- What the functions of this crate answer, by the definitions of the four calls. Assumes nothing.
use Rattle.std.specs.Prelude.{◌≡◌, ℕ, ◌≤◌, true, List, length, take, Ok, Err}
use Rattle.base.specs.Bounds.{file_most, journal_most}
use Rattle.fault.specs.Answer.{Answer}
use Rattle.rows.specs.Find.{none_bad}
use Rattle.splice.specs.Edit.{Edit, buffer_with}
use Rattle.journal.specs.declared.Way.{Way}
use Rattle.journal.specs.declared.Way.TheVariants as way
use Rattle.edit.specs.Calls.{State, undo, redo}
use Rattle.edit.specs.declared.Edited.{Edited}

-- an answer without its value
abbrev pub passed : {A : Type 0} → Answer A → Answer (Unit {0})
passed (Ok a) = Ok tt
passed (Err f) = Err f

-- what a set or remove needs of a file and a journal that were opened: the file lies in its buffer, is not too long and has no bad line, and what
-- stands is not too long
pub record Ready (file : List ℕ) (size standing : ℕ) : Type 0 where
  pub size_fits : size ≤ length file
  pub size_bound : size ≤ file_most
  pub standing_bound : standing ≤ journal_most
  pub no_bad_line : none_bad (take size file) ≡ true

-- the edit by which some bytes at a place go and others come
abbrev pub swap : ℕ → List ℕ → List ℕ → Edit
swap place gone come = record { place = place; old = gone; new = come }

-- the numbers that go with a file
abbrev pub numbers : ℕ → ℕ → List ℕ → Edited
numbers used standing file = record { size = length file; used = used; standing = standing }

-- the buffer of a file that became another, if it did
abbrev pub became : List ℕ → ℕ → Answer (List ℕ) → List ℕ
became buffer size (Ok file) = buffer_with buffer size file
became buffer size (Err f) = buffer

-- undo or redo, by the way through the journal
abbrev pub undo_or_redo : Way → State → Answer State
undo_or_redo way.Undo s = undo s
undo_or_redo way.Redo s = redo s
