-- Who made which edit: the person told of a record is the one given to the call that made it (02, A9). Assumes nothing.
use Rattle.std.specs.Prelude.{◌≡◌, ℕ, suc, ◌<◌, true, List, ◌++◌, length, Ok, Err}
use Rattle.base.specs.Bounds.{journal_most}
use Rattle.base.specs.Choice.{there}
use Rattle.base.specs.Lists.{all}
use Rattle.fault.specs.declared.Fault.TheVariants.{NothingLeft}
use Rattle.fault.specs.Answer.{at_exit}
use Rattle.record.specs.Record.{read_list}
use Rattle.wellformed.specs.WellFormed.{well_formed}
use Rattle.change.specs.Change.{Request}
use Rattle.journal.specs.Journal.{Authored, person_of, Journal}
use Rattle.journal.specs.Lent.{used_of, person_in, person}
use Rattle.edit.specs.Calls.{State, journal_of, opened, request, undo, redo}
use Rattle.demands.specs.Book.{Call, Do, Book, in_order, book_call}
use Rattle.demands.specs.Demand3.{state_call, person_fits, writes_kind, left_by, start_state, start_book}

-- Over any list of calls, as in demand 3: the person told of record n is that of the book's request n, those standing first, then those
-- waiting; and there is no other record.
unfoldable pub PersonsAsInTheBook : Type 0
PersonsAsInTheBook = (start rest journal : List ℕ) (calls : List Call) (n : ℕ) → well_formed start ≡ true → all person_fits calls ≡ true →
    let s : State = left_by state_call (start_state start rest journal) calls in
    let b : Book = left_by book_call (start_book start (length (start ++ rest)) (length journal)) calls in
    person (journal_of s) n ≡ person_in (in_order b) n

-- The same of one set or remove on any journal, also one that others wrote: the record behind those that stood is told by the person of the
-- call, these are told as before, and no record follows.
unfoldable pub PersonTold : Type 0
PersonTold = (s t : State) (q : Authored Request) (j : Journal) → person_fits (Do q) ≡ true → opened s ≡ Ok j → request s q ≡ Ok t
    → (person (journal_of t) (length j.stand) ≡ Ok (person_of q.author))
    × ((n : ℕ) → n < length j.stand → person (journal_of t) n ≡ person (journal_of s) n)
    × (person (journal_of t) (suc (length j.stand)) ≡ Err NothingLeft)

-- undo and redo change no person
unfoldable pub PersonsStay : Type 0
PersonsStay = (s : State) (n : ℕ)
    → (person (journal_of (at_exit s (undo s))) n ≡ person (journal_of s) n) × (person (journal_of (at_exit s (redo s))) n ≡ person (journal_of s) n)

-- calls that write records of one kind leave records of that kind alone: 01's calls of kind 1, those by persons of kind 4
unfoldable pub RecordsOfOneKind : Type 0
RecordsOfOneKind = (start rest journal : List ℕ) (kind : ℕ) (calls : List Call) → well_formed start ≡ true → all person_fits calls ≡ true
    → all (writes_kind kind) calls ≡ true →
    let s : State = left_by state_call (start_state start rest journal) calls in
    there (read_list kind journal_most (used_of (journal_of s))) ≡ true
