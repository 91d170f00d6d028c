-- How an answer is told to a C program: a refusal's number, or 0; its place; its byte; and a number that is written only where it is given.
-- Assumes nothing.
use Rattle.std.specs.Prelude.{◌≡◌, ℕ, List, Ok, Err}
use Rattle.fault.specs.Table.{number_of, place_of, byte_of}
use Rattle.fault.specs.Answer.{Answer, unless, at_exit}
use Rattle.entry.specs.declared.Ends.{Ends}
use Rattle.journal.specs.Lent.{Lent}
use Rattle.edit.specs.declared.Edited.{Edited}
use Rattle.edit.specs.Calls.{State, lent}
use Rattle.batch.specs.Batch.{Batch}

-- the number of the C interface, raised whenever a call is new or its signature changes
abbrev pub abi : ℕ
abi = 5

-- the refusal's number, 0 if accepted
abbrev pub code_of : {A : Type 0} → Answer A → ℕ
code_of (Ok a) = 0
code_of (Err f) = number_of f

-- the refusal's place, 0 if accepted
abbrev pub place_in : {A : Type 0} → Answer A → ℕ
place_in (Ok a) = 0
place_in (Err f) = place_of f

-- the refusal's byte, 0 if accepted
abbrev pub byte_in : {A : Type 0} → Answer A → ℕ
byte_in (Ok a) = 0
byte_in (Err f) = byte_of f

-- a number of the answer; as it was where refused
abbrev pub written_in : {A : Type 0} → (A → ℕ) → Answer A → ℕ → ℕ
written_in h (Ok a) old = h a
written_in h (Err f) old = old

-- what a C program sees of a call: the code that it returned, the place and the byte
pub record Returned {A : Type 0} (a : Answer A) (code place byte : ℕ) : Type 0 where
  pub code_is : code ≡ code_of a
  pub place_is : place ≡ place_in a
  pub byte_is : byte ≡ byte_in a

-- and of a call that answers with one number, the bytes written or a person: that number
pub record ReturnedNumber (a : Answer ℕ) (code place byte number₀ number : ℕ) : Type 0 where
  pub returned : Returned a code place byte
  pub number_is : number ≡ written_in (λ n. n) a number₀

-- of a call that finds a value: its two ends
pub record ReturnedEnds (a : Answer Ends) (code place byte from₀ from to₀ to : ℕ) : Type 0 where
  pub returned : Returned a code place byte
  pub from_is : from ≡ written_in (λ e. e.from) a from₀
  pub to_is : to ≡ written_in (λ e. e.to) a to₀

-- of a call that edits: the three numbers and both buffers, as it returns
pub record Called (s : State) (a : Answer State) (code place byte size used standing : ℕ) (file journal : List ℕ) : Type 0 where
  pub returned : Returned a code place byte
  pub size_is : size ≡ (at_exit s a).size
  pub used_is : used ≡ (at_exit s a).used
  pub standing_is : standing ≡ (at_exit s a).standing
  pub file_is : file ≡ (at_exit s a).file
  pub journal_is : journal ≡ (at_exit s a).journal

-- of the call with many requests: the refusal that stopped it, how many were done, and the three numbers and both buffers then
pub record CalledBatch (b : Batch) (code place byte done size used standing : ℕ) (file journal : List ℕ) : Type 0 where
  pub returned : Returned (unless b.stopped) code place byte
  pub done_is : done ≡ b.done
  pub left : lent file size journal used standing ≡ b.state

-- of the call that forgets, which tells no byte: the journal with its two numbers, as it returns
pub record CalledOnJournal (s : Lent) (a : Answer Lent) (code place : ℕ) (t : Lent) : Type 0 where
  pub returned : Returned a code place 0
  pub left : t ≡ at_exit s a

-- the three numbers by what the call answered
pub record ReturnedNumbers (a : Answer Edited) (code place byte size₀ size used₀ used standing₀ standing : ℕ) : Type 0 where
  pub returned : Returned a code place byte
  pub size_is : size ≡ written_in (λ n. n.size) a size₀
  pub used_is : used ≡ written_in (λ n. n.used) a used₀
  pub standing_is : standing ≡ written_in (λ n. n.standing) a standing₀
