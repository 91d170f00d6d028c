-- A batch, many set and remove requests in one call, is the single calls tried, and tells by how many the standing records grew (02, A4).
-- Assumes nothing.
use Rattle.std.specs.Prelude.{◌≡◌, ℕ, ◌+◌, ◌<◌, List, [], ◌∷◌, ◌++◌, map, length, take, replicate, Some, None, Ok, Err}
use Rattle.fault.specs.declared.Fault.{Fault}
use Rattle.fault.specs.Answer.{unless}
use Rattle.change.specs.Change.{Request}
use Rattle.journal.specs.Journal.{Author, by, person_of, Journal}
use Rattle.edit.specs.Calls.{State, opened}
use Rattle.batch.specs.Batch.{Batch, nothing, listed, batch}
use Rattle.demands.specs.Book.{Call, Do}
use Rattle.demands.specs.Demand3.{state_call, Told, Accepted, Refused, told, told_over, left_by}

-- what is told of each call tried, by how many were done and what was told at last: accepted for each done, then the refusal
abbrev pub each_told : ℕ → Told → List Told
each_told done Accepted = replicate done Accepted
each_told done (Refused number place byte) = replicate done Accepted ++ (Refused number place byte ∷ [])

-- what a batch tells of them
abbrev pub batch_told : Batch → List Told
batch_told b = each_told b.done (told (unless b.stopped))

-- the single calls tried, those done and the refused one too: as many as are told of
abbrev pub tried : Author → List Request → List Told → List Call
tried author qs tolds = map (λ q. Do (by author q)) (take (length tolds) qs)

-- the calls that take a batch's place, and what is told of them; none where it is refused at first, for lengths, file, journal or list
pub data InPlaceOf (s : State) (author : Author) (list : List ℕ) (tolds : List Told) : List Call → List Told → Type 0 where
  read : {qs : List Request} → listed s list ≡ Ok qs → InPlaceOf s author list tolds (tried author qs tolds) tolds
  unread : {f : Fault} → listed s list ≡ Err f → InPlaceOf s author list tolds [] []

-- over a list of calls the buffers tell this and are left so
pub record AsTheCalls (s : State) (calls : List Call) (tolds : List Told) (t : State) : Type 0 where
  pub tells : tolds ≡ told_over state_call s calls
  pub leaves : t ≡ left_by state_call s calls

-- a batch tells and leaves what the calls in its place do
unfoldable pub BatchIsCalls : Type 0
BatchIsCalls = (s : State) (author : Author) (list : List ℕ) (calls : List Call) (tolds : List Told) →
    let b : Batch = batch s author list in
    InPlaceOf s author list (batch_told b) calls tolds → AsTheCalls s calls tolds b.state

-- it does all that its list asks for unless one is refused
unfoldable pub BatchDoesAll : Type 0
BatchDoesAll = (s : State) (author : Author) (list : List ℕ) (qs : List Request) → listed s list ≡ Ok qs
    → (batch s author list).stopped ≡ None → (batch s author list).done ≡ length qs

-- a batch refused at first has nothing done
unfoldable pub BatchRefusedAtFirst : Type 0
BatchRefusedAtFirst = (s : State) (author : Author) (list : List ℕ) (f : Fault) → listed s list ≡ Err f → batch s author list ≡ nothing s (Some f)

-- the number done is by how many the standing records grew, in any journal, also one that others wrote
unfoldable pub BatchGrew : Type 0
BatchGrew = (s : State) (author : Author) (list : List ℕ) (j : Journal) → person_of author < 65536 → opened s ≡ Ok j →
    let b : Batch = batch s author list in
    (k : Journal) × (opened b.state ≡ Ok k) × (length k.stand ≡ length j.stand + b.done)
