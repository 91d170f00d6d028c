-- Demand 3: over any list of calls the lent buffers tell what the book tells, and hold its file (01, "Edits and the journal"; 02, A9 and A10).
-- Assumes nothing.
use Rattle.std.specs.Prelude.{◌≡◌, ℕ, Bool, true, List, [], ◌∷◌, ◌++◌, length, eqb, leb, Ok, Err}
use Rattle.base.specs.Lists.{all}
use Rattle.fault.specs.declared.Fault.{Fault}
use Rattle.fault.specs.Table.{number_of, place_of, byte_of}
use Rattle.fault.specs.Answer.{Answer, then, at_exit}
use Rattle.wellformed.specs.WellFormed.{well_formed}
use Rattle.journal.specs.Journal.{person_of, kind_of}
use Rattle.journal.specs.Lent.{Lent, forget}
use Rattle.edit.specs.Calls.{State, content, journal_of, request, undo, redo}
use Rattle.demands.specs.Book.{Call, Do, Undo, Redo, Forget, Book, book_file, book_standing, book_call}

-- the journal is another; the file is neither lent nor changed
abbrev pub with_journal : State → Lent → State
with_journal s j = record { file = s.file; size = s.size; journal = j.journal; used = j.used; standing = j.standing }

-- a call on the buffers
abbrev pub state_call : State → Call → Answer State
state_call s (Do q) = request s q
state_call s Undo = undo s
state_call s Redo = redo s
state_call s (Forget k) = then (with_journal s) (forget (journal_of s) k)

-- the person's number has at most two bytes, as set and remove take it
abbrev pub person_fits : Call → Bool
person_fits (Do q) = leb (person_of q.author) 65535
person_fits Undo = true
person_fits Redo = true
person_fits (Forget k) = true

-- a call writes records of this kind alone: 1 without a person, as 01's calls, and 4 with one; undo, redo and forget write none
abbrev pub writes_kind : ℕ → Call → Bool
writes_kind kind (Do q) = eqb (kind_of q.author) kind
writes_kind kind Undo = true
writes_kind kind Redo = true
writes_kind kind (Forget k) = true

-- what the caller is told: accepted, or a refusal's number, place and byte
pub data Told : Type 0 where
  Accepted : Told
  Refused : ℕ → ℕ → ℕ → Told

-- what a refusal tells
abbrev pub told_of : Fault → Told
told_of f = Refused (number_of f) (place_of f) (byte_of f)

-- what an answer tells
abbrev pub told : {A : Type 0} → Answer A → Told
told (Ok a) = Accepted
told (Err f) = told_of f

-- what is told over a list of calls, each on what the one before left
unfoldable pub told_over : {A : Type 0} → (A → Call → Answer A) → A → List Call → List Told
told_over call a [] = []
told_over call a (c ∷ cs) = told (call a c) ∷ told_over call (at_exit a (call a c)) cs

-- what the last of them left
unfoldable pub left_by : {A : Type 0} → (A → Call → Answer A) → A → List Call → A
left_by call a [] = a
left_by call a (c ∷ cs) = left_by call (at_exit a (call a c)) cs

-- the start: a file in its buffer, and an empty journal in its own
abbrev pub start_state : List ℕ → List ℕ → List ℕ → State
start_state start rest journal = record { file = start ++ rest; size = length start; journal = journal; used = 0; standing = 0 }

-- the book of that start: the starting file and both buffers' sizes
abbrev pub start_book : List ℕ → ℕ → ℕ → Book
start_book start file_room journal_room = record { start = start; file_room = file_room; journal_room = journal_room; standing = []; waiting = [] }

-- over a list of calls the buffers told what the book tells, the file's bytes are the book's file, and the standing number is the book's
pub record AsInTheBook (b : Book) (calls : List Call) (tolds : List Told) (s : State) : Type 0 where
  pub tells : tolds ≡ told_over book_call b calls
  pub file_is : content s ≡ book_file (left_by book_call b calls)
  pub standing_is : s.standing ≡ book_standing (left_by book_call b calls)

-- Demand 3: from any well-formed file and an empty journal, over any list of calls by persons whose numbers have two bytes. Where the first of
-- them are 01's, the others start from the file and the journal of kind 1 that these left in the same two buffers, and their edits count, each
-- with its own record's length, until they are forgotten.
unfoldable pub Demand3 : Type 0
Demand3 = (start rest journal : List ℕ) (calls : List Call) → well_formed start ≡ true → all person_fits calls ≡ true →
    let s : State = start_state start rest journal in
    AsInTheBook (start_book start (length (start ++ rest)) (length journal)) calls (told_over state_call s calls) (left_by state_call s calls)
