-- Forgetting the oldest edits: what it keeps, what later calls answer, and the room that it frees (02, A10). Here s is what is lent, t what an
-- accepted call to forget leaves, and u and v what a set or remove leaves without forgetting and after it. Assumes nothing.
use Rattle.std.specs.Prelude.{◌≡◌, ℕ, ◌+◌, ◌-◌, ◌<◌, length, drop, Ok, Err}
use Rattle.fault.specs.declared.Fault.{Fault}
use Rattle.fault.specs.declared.Fault.TheVariants.{NothingLeft, JournalFull}
use Rattle.fault.specs.Answer.{Answer, ◌>>=◌, need, at_exit}
use Rattle.splice.specs.Edit.{Edit}
use Rattle.change.specs.Change.{Request, edit_of}
use Rattle.journal.specs.Journal.{Authored, by, Journal, newer}
use Rattle.journal.specs.Lent as alone
use Rattle.journal.specs.Lent.{Lent, used_of, person, forget}
use Rattle.edit.specs.Calls.{State, content, journal_of, opened, record_fits, request, undo, redo}
use Rattle.demands.specs.Book.{Forget, Book, book_file, book_call}
use Rattle.demands.specs.Demand3.{state_call, told}

-- ---- what is kept

-- no byte of the file's buffer changes, nor the file's length, nor the book's file
unfoldable pub ForgetKeepsFile : Type 0
ForgetKeepsFile =
    ((s : State) (k : ℕ) → let t : State = at_exit s (state_call s (Forget k)) in (t.file ≡ s.file) × (t.size ≡ s.size))
    × ((b : Book) (k : ℕ) → book_file (at_exit b (book_call b (Forget k))) ≡ book_file b)

-- the newer edits that stand, and all that wait, are as they were
unfoldable pub ForgetKeepsOthers : Type 0
ForgetKeepsOthers = (s t : Lent) (k : ℕ) (j : Journal) → alone.opened s ≡ Ok j → forget s k ≡ Ok t
    → alone.opened t ≡ Ok (record { stand = newer k j.stand; wait = j.wait })

-- the person told of record n is the one that was told of record k + n
unfoldable pub ForgetKeepsPersons : Type 0
ForgetKeepsPersons = (s t : Lent) (k n : ℕ) → forget s k ≡ Ok t → person t n ≡ person s (k + n)

-- to forget none changes nothing
unfoldable pub ForgetNone : Type 0
ForgetNone = (s : Lent) (j : Journal) → alone.opened s ≡ Ok j → forget s 0 ≡ Ok s

-- to forget some and then others is to forget all these, byte for byte and refusal for refusal
unfoldable pub ForgetInTurn : Type 0
ForgetInTurn = (s : Lent) (i k : ℕ) → (forget s i >>= λ t. forget t k) ≡ forget s (i + k)

-- ---- undo and redo

-- an answer tells what another does, and leaves what forgetting behind that one would
abbrev pub AsBefore : ℕ → Answer State → Answer State → Type 0
AsBefore k a b = (told a ≡ told b) × (a ≡ (b >>= λ u. state_call u (Forget k)))

-- while more stand than are forgotten, an undo answers as it would have
unfoldable pub UndoAfterForget : Type 0
UndoAfterForget = (s t : State) (k : ℕ) (j : Journal) → alone.opened (journal_of s) ≡ Ok j → state_call s (Forget k) ≡ Ok t → k < length j.stand
    → AsBefore k (undo t) (undo s)

-- where all that stood are forgotten, it finds nothing
unfoldable pub NoUndoAfterForget : Type 0
NoUndoAfterForget = (s t : State) (k : ℕ) (j : Journal) → alone.opened (journal_of s) ≡ Ok j → state_call s (Forget k) ≡ Ok t → k ≡ length j.stand
    → undo t ≡ (opened s >>= λ _. Err NothingLeft)

-- a redo answers as it would have
unfoldable pub RedoAfterForget : Type 0
RedoAfterForget = (s t : State) (k : ℕ) → state_call s (Forget k) ≡ Ok t → AsBefore k (redo t) (redo s)

-- ---- set and remove: room freed is room for 13

-- what was accepted is accepted, with the same file; the standing number is lower by what was forgotten, and the records are the same without it
unfoldable pub AcceptedAfterForget : Type 0
AcceptedAfterForget = (s t u : State) (k : ℕ) (q : Authored Request) → state_call s (Forget k) ≡ Ok t → request s q ≡ Ok u
    → (v : State) × (request t q ≡ Ok v) × (v.file ≡ u.file) × (v.size ≡ u.size) × (v.standing + s.standing ≡ u.standing + t.standing)
    × (used_of (journal_of v) ≡ drop (s.standing - t.standing) (used_of (journal_of u)))

-- what was refused with another number than 13 is refused so
unfoldable pub RefusedAfterForget : Type 0
RefusedAfterForget = (s t : State) (k : ℕ) (q : Authored Request) (f : Fault) → state_call s (Forget k) ≡ Ok t → request s q ≡ Err f → (f ≡ JournalFull → ⊥)
    → request t q ≡ Err f

-- what was refused with 13 is accepted, unless its record does not fit behind those that still stand: then it is refused with 13
unfoldable pub RoomAfterForget : Type 0
RoomAfterForget = (s t : State) (k : ℕ) (q : Authored Request) (e : Edit) → state_call s (Forget k) ≡ Ok t → request s q ≡ Err JournalFull
    → edit_of (content s) q.what ≡ Ok e → told (request t q) ≡ told (need (record_fits (length s.journal) t.standing (by q.author e)) JournalFull)
