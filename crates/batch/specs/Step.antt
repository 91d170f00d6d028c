-- What the functions of this crate answer, by the definition of the batch. Assumes nothing.
use Rattle.std.specs.Prelude.{◌≡◌, ℕ, List, Some}
use Rattle.fault.specs.Answer.{Answer}
use Rattle.requests.specs.Requests.{Asked, read_request}
use Rattle.journal.specs.Journal.{Author, by}
use Rattle.edit.specs.Calls.{lent, request_opened, Made}
use Rattle.edit.specs.declared.Edited.{Edited}
use Rattle.batch.specs.Batch.{request_of}

-- the edit that a record asks for, in a file and a journal that were opened before
abbrev pub MadeOf : (kind : ℕ) (body : List ℕ) (author : Author) (file : List ℕ) (size : ℕ) (journal : List ℕ) (standing : ℕ) (r : Answer Edited) (file₁ journal₁ : List ℕ) → Type 0
MadeOf kind body author file size journal standing r file₁ journal₁ =
    (a : Asked) → read_request (record { kind = kind; body = body }) ≡ Some a
    → Made (lent file size journal 0 standing) (request_opened (lent file size journal 0 standing) (by author (request_of a))) r file₁ journal₁
