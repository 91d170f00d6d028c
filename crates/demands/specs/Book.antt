-- The book of demand 3: fed the starting file, both buffers' sizes and the calls, it keeps two lists of requests (01, "Edits and the journal";
-- 02, A9 and A10). Assumes nothing.
use Rattle.std.specs.Prelude.{ℕ, ◌+◌, ◌≡◌, length, leb, Ok, Err}
use mathlib.Core.List.{List, [], ◌∷◌, reverse_aux}
use Rattle.fault.specs.declared.Fault.{Fault}
use Rattle.fault.specs.declared.Fault.TheVariants.{NoRoom, NothingLeft, JournalFull}
use Rattle.fault.specs.Table.{place_of, byte_of}
use Rattle.fault.specs.Answer.{Answer, ◌>>=◌, need, then, at_exit}
use Rattle.splice.specs.Edit.{spliced}
use Rattle.change.specs.Change.{Request, edit_of}
use Rattle.journal.specs.Journal.{Authored, by, edit_length, oldest, newer}
use Rattle.edit.specs.Calls.{file_fits, record_fits}

-- The calls: a set or remove with its author, an undo, a redo, and to forget so many of the oldest. A set or remove without a person is 01's
-- call, whose record is of kind 1.
pub data Call : Type 0 where
  Do : Authored Request → Call
  Undo : Call
  Redo : Call
  Forget : ℕ → Call

-- the book: the starting file, both buffers' sizes, and two lists of requests: standing, the last first, and waiting, the first first
pub record Book : Type 0 where
  pub start : List ℕ
  pub file_room : ℕ
  pub journal_room : ℕ
  pub standing : List (Authored Request)
  pub waiting : List (Authored Request)

-- the starting bytes after the standing requests, in order
unfoldable pub file_after : List ℕ → List (Authored Request) → List ℕ
file_after start [] = start
file_after start (q ∷ qs) = let file : List ℕ = file_after start qs in at_exit file (then (λ e. spliced e file) (edit_of file q.what))

-- the sum of those requests' record lengths, each its own record's
unfoldable pub records_after : List ℕ → List (Authored Request) → ℕ
records_after start [] = 0
records_after start (q ∷ qs) = records_after start qs + at_exit 0 (then (λ e. edit_length (by q.author e)) (edit_of (file_after start qs) q.what))

-- the book's file
abbrev pub book_file : Book → List ℕ
book_file b = file_after b.start b.standing

-- the book's standing number
abbrev pub book_standing : Book → ℕ
book_standing b = records_after b.start b.standing

-- the book's requests in order: those standing from the first on, then those waiting
abbrev pub in_order : Book → List (Authored Request)
in_order b = reverse_aux b.standing b.waiting

-- the book with other lists
abbrev pub with_lists : Book → List (Authored Request) → List (Authored Request) → Book
with_lists b standing waiting =
    record { start = b.start; file_room = b.file_room; journal_room = b.journal_room; standing = standing; waiting = waiting }

-- set, remove: the first of 7, 10, 8, 6, 17, 11, 13 that applies refuses; else the request becomes the last standing, and none waits
unfoldable pub book_request : Book → Authored Request → Answer Book
book_request b q = do
  e ← edit_of (book_file b) q.what
  _ ← need (file_fits b.file_room (spliced e (book_file b))) NoRoom
  _ ← need (record_fits b.journal_room (book_standing b) (by q.author e)) JournalFull
  Ok (with_lists b (q ∷ b.standing) [])

-- undo: 12 if none stands; else the last standing becomes the first waiting
abbrev pub book_undo : Book → List (Authored Request) → Answer Book
book_undo b [] = Err NothingLeft
book_undo b (q ∷ qs) = Ok (with_lists b qs (q ∷ b.waiting))

-- redo: 12 if none waits; else the first waiting becomes the last standing
abbrev pub book_redo : Book → List (Authored Request) → Answer Book
book_redo b [] = Err NothingLeft
book_redo b (q ∷ qs) = Ok (with_lists b (q ∷ b.standing) qs)

-- the book without its oldest requests: they leave the standing list, and the starting bytes are those after them
abbrev pub without_oldest : Book → ℕ → Book
without_oldest b k =
    record {
      start = file_after b.start (oldest k b.standing);
      file_room = b.file_room;
      journal_room = b.journal_room;
      standing = newer k b.standing;
      waiting = b.waiting;
    }

-- forget: 12 if fewer stand; else the oldest are gone
unfoldable pub book_forget : Book → ℕ → Answer Book
book_forget b k = do
  _ ← need (leb k (length b.standing)) NothingLeft
  Ok (without_oldest b k)

-- a call to the book
abbrev pub book_call : Book → Call → Answer Book
book_call b (Do q) = book_request b q
book_call b Undo = book_undo b b.standing
book_call b Redo = book_redo b b.waiting
book_call b (Forget k) = book_forget b k

-- a refusal has place 0 and byte 0
unfoldable pub BookRefusesAtZero : Type 0
BookRefusesAtZero = (b : Book) (c : Call) (f : Fault) → book_call b c ≡ Err f → (place_of f ≡ 0) × (byte_of f ≡ 0)
