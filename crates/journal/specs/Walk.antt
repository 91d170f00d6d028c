-- What the functions of this crate answer, by the definitions of the journal. Assumes nothing.
use Rattle.std.specs.Prelude.{◌≡◌, ℕ, ◌+◌, ◌-◌, ◌≤◌, ◌<◌, List, ◌++◌, length, Option, Some, None, Ok, Err}
use Rattle.base.specs.Lists.{part}
use Rattle.fault.specs.declared.Fault.TheVariants.{Damaged, NothingLeft}
use Rattle.fault.specs.Answer.{Answer, ◌>>=◌, some_or, then}
use Rattle.record.specs.Number.{little_endian}
use Rattle.record.specs.Record.{head_bytes, read_records}
use Rattle.record.specs.Walk.{read_at}
use Rattle.splice.specs.Edit.{Edit}
use Rattle.journal.specs.Journal.{Author, Authored, by, kind_of, author_bytes, front_length, edit_length, lengths, Journal, oldest, edit_in, read_edit, read_journal, next_of}
use Rattle.journal.specs.Lent.{person_in}
use Rattle.journal.specs.declared.Way.{Way}
use Rattle.journal.specs.declared.Way.TheVariants as way
use Rattle.journal.specs.declared.Record.{Record}

-- ---- answers

-- an edit, and where its record begins and ends
pub record Placed : Type 0 where
  pub start : ℕ
  pub end : ℕ
  pub edit : Edit

-- the one whose record ends at a place, and the one whose record begins there
abbrev pub ending_at : ℕ → Authored Edit → Placed
ending_at at e = record { start = at - edit_length e; end = at; edit = e.what }

abbrev pub starting_at : ℕ → Authored Edit → Placed
starting_at at e = record { start = at; end = at + edit_length e; edit = e.what }

-- the edit of a record, with its bytes among those used
abbrev pub with_bytes : List ℕ → Record → Edit
with_bytes used r = record { place = r.place; old = part r.old r.new used; new = part r.new r.end used }

-- the edit that an answer names in the used bytes, and where its record begins and ends
abbrev pub placed : List ℕ → Answer Record → Answer Placed
placed used a = then (λ r. record { start = r.start; end = r.end; edit = with_bytes used r }) a

-- the latest edit that stands
abbrev pub latest : List ℕ → ℕ → Answer Placed
latest used standing = some_or (read_journal used standing) Damaged >>= λ j. then (ending_at standing) (some_or (next_of j.stand) NothingLeft)

-- the next edit that waits
abbrev pub waiting : List ℕ → ℕ → Answer Placed
waiting used standing = some_or (read_journal used standing) Damaged >>= λ j. then (starting_at standing) (some_or (next_of j.wait) NothingLeft)

-- the edit that comes next on the way
abbrev pub next_on : Way → List ℕ → ℕ → Answer Placed
next_on way.Undo used standing = latest used standing
next_on way.Redo used standing = waiting used standing

-- the old and new bytes that an answer names stand one after the other among so many
abbrev pub Within : ℕ → Answer Record → Type 0
Within size (Ok r) = (r.old ≤ r.new) × (r.new ≤ r.end) × (r.end ≤ size)
Within size (Err f) = Unit

-- ---- writing

-- the record of an edit up to its new bytes, of which only the number is given
unfoldable pub edit_front : Author → ℕ → List ℕ → ℕ → List ℕ
edit_front author place old new =
    head_bytes (front_length author + length old + new) (kind_of author)
    ++ (author_bytes author ++ (little_endian 4 place ++ (little_endian 4 (length old) ++ (little_endian 4 new ++ old))))

-- ---- one record

-- the edit in the record at a place; none: damaged
abbrev pub edit_at : List ℕ → ℕ → Option (Authored Edit)
edit_at s at = read_at read_edit s at

-- what is read of an edit's bytes, which stand from a place up to the record's end; where the record starts is handed on
abbrev pub ReadsBytes : List ℕ → (start from end : ℕ) → Answer Record → Type 0
ReadsBytes s start from end (Err f) = (f ≡ Damaged) × (edit_in (part from end s) ≡ None)
ReadsBytes s start from end (Ok r) =
    (r.start ≡ start) × (r.end ≡ end) × (edit_in (part from end s) ≡ Some (with_bytes s r)) × (r.old ≡ from + 12) × (r.old ≤ r.new) × (r.new ≤ r.end)

-- the record at a place holds an edit, whose old and new bytes stand one after the other up to its end
pub record HoldsEdit (s : List ℕ) (at : ℕ) (r : Record) : Type 0 where
  pub author : Author
  pub starts : r.start ≡ at
  pub edit : edit_at s at ≡ Some (by author (with_bytes s r))
  pub head : r.old ≡ at + front_length author
  pub old_bytes : r.old ≤ r.new
  pub new_bytes : r.new ≤ r.end
  pub inside : r.end ≤ length s

-- what is read at a place: an edit, none though there are bytes, or the end
abbrev pub Reads : List ℕ → ℕ → Answer (Option Record) → Type 0
Reads s at (Err f) = (f ≡ Damaged) × (at < length s) × (edit_at s at ≡ None)
Reads s at (Ok None) = length s ≤ at
Reads s at (Ok (Some r)) = HoldsEdit s at r

-- ---- all records

-- the edits whose records fill the bytes; none: damaged
abbrev pub edits : List ℕ → Option (List (Authored Edit))
edits s = read_records read_edit s

-- the record of the latest edit begins at a place and ends at another; where there is none, that is the start
abbrev pub Latest : List ℕ → ℕ → ℕ → Option (Authored Edit) → Type 0
Latest s last end None = end ≡ 0
Latest s last end (Some e) = (edit_at s last ≡ Some e) × (last + edit_length e ≡ end)

-- the record of the next edit begins at a place; where there is none, that is the end
abbrev pub Follows : List ℕ → ℕ → Option (Authored Edit) → Type 0
Follows s at None = length s ≤ at
Follows s at (Some e) = edit_at s at ≡ Some e

-- a sound journal, and where its latest record that stands begins
pub record Parted (s : List ℕ) (standing last : ℕ) : Type 0 where
  pub journal : Journal
  pub reads : read_journal s standing ≡ Some journal
  pub latest_at : Latest s last standing (next_of journal.stand)
  pub next_at : Follows s standing (next_of journal.wait)

-- what a walk over the records finds
abbrev pub Walks : List ℕ → ℕ → Answer ℕ → Type 0
Walks s standing (Err f) = (f ≡ Damaged) × (read_journal s standing ≡ None)
Walks s standing (Ok last) = Parted s standing last

-- what is told of the n-th record
abbrev pub TellsPerson : List ℕ → ℕ → Answer ℕ → Type 0
TellsPerson s n r = (es : List (Authored Edit)) → edits s ≡ Some es → r ≡ person_in es n

-- where the records of the oldest k of those that stand end, or that fewer stand
abbrev pub OldestIn : List (Authored Edit) → ℕ → Option ℕ → Type 0
OldestIn stand k (Some n) = (k ≤ length stand) × (n ≡ lengths (oldest k stand))
OldestIn stand k None = length stand < k

-- so of the bytes of a sound journal
abbrev pub EndsOldest : List ℕ → ℕ → ℕ → Option ℕ → Type 0
EndsOldest s standing k r = (j : Journal) → read_journal s standing ≡ Some j → OldestIn j.stand k r
