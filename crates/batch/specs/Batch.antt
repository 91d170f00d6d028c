-- Many set and remove requests in one call: what the single calls would do in turn, up to the first refused one (02, A4). Assumes nothing.
use Rattle.std.specs.Prelude.{◌≡◌, ℕ, suc, List, [], ◌∷◌, map, Option, Some, None, Ok, Err}
use Rattle.base.specs.Choice.{maybe}
use Rattle.fault.specs.declared.Fault.{Fault}
use Rattle.fault.specs.declared.Fault.TheVariants.{Damaged}
use Rattle.fault.specs.Answer.{Answer, ◌>>=◌, some_or}
use Rattle.requests.specs.Requests.{Asked, read_requests}
use Rattle.change.specs.Change.{Request, Set, Remove}
use Rattle.journal.specs.Journal.{Author, by}
use Rattle.edit.specs.Calls.{State, opened, request, lent}
use Rattle.batch.specs.declared.Batched.{Batched}

-- a set where there is a text, else a remove
abbrev pub request_of : Asked → Request
request_of a = maybe a.text (Remove a.group a.key) (λ text. Set a.group a.key text)

-- the requests of a list, once the faults of lengths, file, journal and list are excluded
unfoldable pub listed : State → List ℕ → Answer (List Request)
listed s list = do
  _ ← opened s
  asked ← some_or (read_requests list) Damaged
  Ok (map request_of asked)

-- how many were done, the refusal of the one that stopped the rest, and what is lent then
pub record Batch : Type 0 where
  pub done : ℕ
  pub stopped : Option Fault
  pub state : State

-- nothing was done
abbrev pub nothing : State → Option Fault → Batch
nothing s stopped = record { done = 0; stopped = stopped; state = s }

-- one more was done
abbrev pub one_more : Batch → Batch
one_more b = record { done = suc b.done; stopped = b.stopped; state = b.state }

-- after a request: go on with what it leaves, or stop where it was refused
abbrev pub after : State → Answer State → (State → Batch) → Batch
after s (Ok t) rest = one_more (rest t)
after s (Err f) rest = nothing s (Some f)

-- the single calls in turn, all by one author
unfoldable pub in_turn : Author → List Request → State → Batch
in_turn author [] s = nothing s None
in_turn author (q ∷ qs) s = after s (request s (by author q)) (in_turn author qs)

-- the same of a list that may be refused
abbrev pub begun : State → Author → Answer (List Request) → Batch
begun s author (Ok qs) = in_turn author qs s
begun s author (Err f) = nothing s (Some f)

-- the call
unfoldable pub batch : State → Author → List ℕ → Batch
batch s author list = begun s author (listed s list)

-- what an answer says, with what both buffers hold then
abbrev pub batch_of : Batched → List ℕ → List ℕ → Batch
batch_of r file journal = record { done = r.done; stopped = r.stopped; state = lent file r.left.size journal r.left.used r.left.standing }

-- a call that answers so and leaves these bytes in both buffers
pub record Made (b : Batch) (r : Batched) (file journal : List ℕ) : Type 0 where
  pub is : batch_of r file journal ≡ b
