-- Set, remove, undo and redo on two lent buffers and three numbers (01, "Edits and the journal"; 02, A9). Assumes nothing.
use Rattle.std.specs.Prelude.{◌≡◌, ℕ, ◌+◌, ◌-◌, Bool, ◌&&◌, List, length, take, leb, Ok}
use Rattle.base.specs.Bounds.{file_most, journal_most}
use Rattle.base.specs.Over.{over}
use Rattle.fault.specs.declared.Fault.TheVariants.{Damaged, NoRoom, NothingLeft, JournalFull}
use Rattle.fault.specs.Answer.{Answer, ◌>>=◌, need, some_or, then, at_exit}
use Rattle.record.specs.Record.{record_bytes}
use Rattle.wellformed.specs.Check.{check}
use Rattle.wellformed.specs.WellFormed.{well_formed}
use Rattle.splice.specs.Edit.{Edit, spliced, turned, stands, buffer_with}
use Rattle.change.specs.Change.{Request, edit_of}
use Rattle.journal.specs.Journal.{Authored, by, Journal, edit_record, edit_length, next_of}
use Rattle.journal.specs.Lent as journal
use Rattle.journal.specs.Lent.{Lent, numbers_fit, journal_in}
use Rattle.edit.specs.declared.Edited.{Edited}

-- what is lent: the file's buffer and length, the journal's buffer, bytes used and bytes standing
pub record State : Type 0 where
  pub file : List ℕ
  pub size : ℕ
  pub journal : List ℕ
  pub used : ℕ
  pub standing : ℕ

-- buffers and numbers as what is lent
abbrev pub lent : List ℕ → ℕ → List ℕ → ℕ → ℕ → State
lent file size journal used standing = record { file = file; size = size; journal = journal; used = used; standing = standing }

-- the file's bytes
abbrev pub content : State → List ℕ
content s = take s.size s.file

-- the journal's part of what is lent
abbrev pub journal_of : State → Lent
journal_of s = journal.lent s.journal s.used s.standing

-- the numbers fit the buffers
unfoldable pub lengths_fit : State → Bool
lengths_fit s = leb s.size (length s.file) && numbers_fit (journal_of s)

-- lengths, then the file's own faults
unfoldable pub file_checked : State → Answer (Unit {0})
file_checked s = do
  _ ← need (lengths_fit s) Damaged
  check (content s)

-- what every call asks first: lengths, the file's own faults, the journal
unfoldable pub opened : State → Answer Journal
opened s = do
  _ ← file_checked s
  journal_in (journal_of s)

-- the file fits its buffer
abbrev pub file_fits : ℕ → List ℕ → Bool
file_fits room file = leb (length file) room && leb (length file) file_most

-- the record fits the journal's buffer after what stands
abbrev pub record_fits : ℕ → ℕ → Authored Edit → Bool
record_fits room standing e = leb (standing + edit_length e) room && leb (standing + edit_length e) journal_most

-- an edit with its author: 11, then 13; else its record is written at standing, and both numbers are its end
unfoldable pub applied : State → Authored Edit → Answer State
applied s e = do
  let file = spliced e.what (content s)
  _ ← need (file_fits (length s.file) file) NoRoom
  _ ← need (record_fits (length s.journal) s.standing e) JournalFull
  let end = s.standing + edit_length e
  Ok (record {
    file = buffer_with s.file s.size file;
    size = length file;
    journal = over s.journal s.standing (record_bytes (edit_record e));
    used = end;
    standing = end;
  })

-- a request in what was opened before
abbrev pub request_opened : State → Authored Request → Answer State
request_opened s q = do
  e ← edit_of (content s) q.what
  applied s (by q.author e)

-- set and remove, with their author
unfoldable pub request : State → Authored Request → Answer State
request s q = do
  _ ← opened s
  request_opened s q

-- the file after an edit from the journal, in a buffer of so many bytes: 14 unless its old bytes stand there, 11, 14 unless it is well formed
unfoldable pub replayed_in : ℕ → List ℕ → Edit → Answer (List ℕ)
replayed_in room file e = do
  _ ← need (stands e file) Damaged
  _ ← need (file_fits room (spliced e file)) NoRoom
  _ ← need (well_formed (spliced e file)) Damaged
  Ok (spliced e file)

-- the lent things with that file and another standing number
abbrev pub with_file : State → ℕ → List ℕ → State
with_file s standing₁ file = lent (buffer_with s.file s.size file) (length file) s.journal s.used standing₁

-- an edit from the journal
unfoldable pub replayed : State → Edit → ℕ → Answer State
replayed s e standing₁ = then (with_file s standing₁) (replayed_in (length s.file) (content s) e)

-- undo: 12 if nothing stands; the latest edit turned round, and its record no longer stands
unfoldable pub undo : State → Answer State
undo s = do
  j ← opened s
  e ← some_or (next_of j.stand) NothingLeft
  replayed s (turned e.what) (s.standing - edit_length e)

-- redo: 12 if nothing waits; the next edit again, and its record stands
unfoldable pub redo : State → Answer State
redo s = do
  j ← opened s
  e ← some_or (next_of j.wait) NothingLeft
  replayed s e.what (s.standing + edit_length e)

-- ---- what a call answers and leaves

-- the three numbers of what is lent
abbrev pub numbers_of : State → Edited
numbers_of s = record { size = s.size; used = s.used; standing = s.standing }

-- a call that answers so and leaves these bytes in both buffers
pub record Made (s : State) (a : Answer State) (r : Answer Edited) (file journal : List ℕ) : Type 0 where
  pub answer : r ≡ then numbers_of a
  pub file_is : file ≡ (at_exit s a).file
  pub journal_is : journal ≡ (at_exit s a).journal
