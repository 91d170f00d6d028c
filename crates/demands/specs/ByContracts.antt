-- Demand 3 of calls that met their contracts: those of the functions of `edit`, of `journal::forget` and of `batch::batch`, and those of the
-- functions that a C program calls. They may start from what 01's calls and forgetting left (02, A4, A9 and A10). Assumes nothing.
use Rattle.std.specs.Prelude.{◌≡◌, ℕ, zero, suc, true, List, [], ◌∷◌, ◌++◌, length, Ok, Err}
use Rattle.base.specs.Lists.{all}
use Rattle.wellformed.specs.WellFormed.{well_formed}
use Rattle.fault.specs.Answer.{Answer, at_exit}
use Rattle.journal.specs.Journal.{Author}
use Rattle.journal.specs.Lent as alone
use Rattle.journal.specs.Lent.{Lent, forget, left_in, Forgets}
use Rattle.journal.specs.declared.Forgot.{Forgot}
use Rattle.edit.specs.Calls.{State, journal_of, lent, Made}
use Rattle.edit.specs.declared.Edited.{Edited}
use Rattle.batch.specs.Batch as many
use Rattle.batch.specs.Batch.{batch, batch_of}
use Rattle.batch.specs.declared.Batched.{Batched}
use Rattle.abi.specs.Abi.{Called, CalledOnJournal, CalledBatch}
use Rattle.demands.specs.Book.{Call, Forget, Book, book_call}
use Rattle.demands.specs.Demand3.{with_journal, state_call, person_fits, writes_kind, Told, Accepted, Refused, told, left_by, start_state, start_book, AsInTheBook}
use Rattle.demands.specs.Batches.{each_told, batch_told, InPlaceOf}

-- Calls in turn on the same buffers: what is lent at first, the calls, what each told, and what is lent at last. `step s cs xs t` says that a call
-- lent s told xs and left t; cs is that call alone, or the calls that take a batch's place.
pub data Chain (step : State → List Call → List Told → State → Type 0) : State → List Call → List Told → State → Type 0 where
  no_call : {s : State} → Chain step s [] [] s
  one_call : {s t u : State} {cs ds : List Call} {xs ys : List Told} → step s cs xs t → Chain step t ds ys u → Chain step s (cs ++ ds) (xs ++ ys) u

-- demand 3 of every chain of such calls, from what 01's calls and forgetting left from any well-formed file and an empty journal; these may
-- be none
abbrev pub Demand3Of : (State → List Call → List Told → State → Type 0) → Type 0
Demand3Of step = (start rest journal : List ℕ) (olds calls : List Call) (tolds : List Told) (s : State) → well_formed start ≡ true
    → all (writes_kind 1) olds ≡ true → all person_fits calls ≡ true
    → Chain step (left_by state_call (start_state start rest journal) olds) calls tolds s →
    let b : Book = left_by book_call (start_book start (length (start ++ rest)) (length journal)) olds in
    AsInTheBook b calls tolds s

-- what is lent to the next call: both buffers, and the answer's numbers, or the old ones where it was refused
abbrev pub after : State → Answer Edited → List ℕ → List ℕ → State
after s (Ok n) file journal = lent file n.size journal n.used n.standing
after s (Err f) file journal = lent file s.size journal s.used s.standing

-- the same of forgetting, to which the journal alone is lent
abbrev pub after_forgot : State → Answer Forgot → List ℕ → State
after_forgot s r journal = with_journal s (at_exit (alone.lent journal s.used s.standing) (left_in journal r))

-- a call that answered r and left these buffers, as the contracts of set, remove, undo and redo promise, that of forget, and that of batch
pub data ByContract : State → List Call → List Told → State → Type 0 where
  made : {s : State} {c : Call} {r : Answer Edited} {file journal : List ℕ}
      → Made s (state_call s c) r file journal → ByContract s (c ∷ []) (told r ∷ []) (after s r file journal)
  forgot : {s : State} {k : ℕ} {r : Answer Forgot} {journal : List ℕ}
      → Forgets (journal_of s) k r journal → ByContract s (Forget k ∷ []) (told r ∷ []) (after_forgot s r journal)
  batched : {s : State} {author : Author} {list : List ℕ} {r : Batched} {file journal : List ℕ} {cs : List Call} {xs : List Told}
      → many.Made (batch s author list) r file journal → InPlaceOf s author list (batch_told (batch_of r file journal)) cs xs
      → ByContract s cs xs (batch_of r file journal).state

-- what a C program is told: 0 is accepted
abbrev pub told_in : ℕ → ℕ → ℕ → Told
told_in zero place byte = Accepted
told_in (suc code) place byte = Refused (suc code) place byte

-- a call that returned this code and left these numbers and buffers, as the contracts of the exported functions promise
pub data ByExport : State → List Call → List Told → State → Type 0 where
  called : {s : State} {c : Call} {code place byte size used standing : ℕ} {file journal : List ℕ}
      → Called s (state_call s c) code place byte size used standing file journal
      → ByExport s (c ∷ []) (told_in code place byte ∷ []) (lent file size journal used standing)
  forgotten : {s : State} {k code place : ℕ} {j : Lent}
      → CalledOnJournal (journal_of s) (forget (journal_of s) k) code place j → ByExport s (Forget k ∷ []) (told_in code place 0 ∷ []) (with_journal s j)
  called_batch : {s : State} {author : Author} {list : List ℕ} {code place byte done size used standing : ℕ} {file journal : List ℕ} {cs : List Call} {xs : List Told}
      → CalledBatch (batch s author list) code place byte done size used standing file journal → InPlaceOf s author list (each_told done (told_in code place byte)) cs xs
      → ByExport s cs xs (lent file size journal used standing)

-- demand 3 of calls of set, remove, undo, redo, forget and batch
unfoldable pub Demand3OfContracts : Type 0
Demand3OfContracts = Demand3Of ByContract

-- demand 3 of calls of kveldrim_set, kveldrim_remove, kveldrim_undo, kveldrim_redo, kveldrim_forget and kveldrim_batch
unfoldable pub Demand3OfExports : Type 0
Demand3OfExports = Demand3Of ByExport
