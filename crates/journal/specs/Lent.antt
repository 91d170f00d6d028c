-- The person of a record, and forgetting the oldest edits: calls to which the journal alone is lent (02, A9 and A10). Assumes nothing.
use Rattle.std.specs.Prelude.{◌≡◌, ℕ, ◌-◌, Bool, ◌&&◌, List, length, take, drop, leb, Ok, slice_get}
use Rattle.base.specs.Bounds.{journal_most}
use Rattle.fault.specs.declared.Fault.TheVariants.{Damaged, NothingLeft}
use Rattle.fault.specs.Answer.{Answer, ◌>>=◌, need, some_or, then, at_exit}
use Rattle.splice.specs.Edit.{buffer_with}
use Rattle.journal.specs.Journal.{Authored, person_of, lengths, Journal, oldest, in_order, read_journal}
use Rattle.journal.specs.declared.Forgot.{Forgot}

-- what is lent: the journal's buffer, bytes used and bytes standing
pub record Lent : Type 0 where
  pub journal : List ℕ
  pub used : ℕ
  pub standing : ℕ

-- a buffer with its two numbers
abbrev pub lent : List ℕ → ℕ → ℕ → Lent
lent journal used standing = record { journal = journal; used = used; standing = standing }

-- the used bytes
abbrev pub used_of : Lent → List ℕ
used_of s = take s.used s.journal

-- the numbers fit the buffer
unfoldable pub numbers_fit : Lent → Bool
numbers_fit s = leb s.used (length s.journal) && leb s.used journal_most && leb s.standing s.used

-- the journal in it, or that it is damaged
abbrev pub journal_in : Lent → Answer Journal
journal_in s = some_or (read_journal (used_of s) s.standing) Damaged

-- what is asked first: lengths, the journal
unfoldable pub opened : Lent → Answer Journal
opened s = do
  _ ← need (numbers_fit s) Damaged
  journal_in s

-- ---- the person of a record

-- the person of the n-th of some edits, or requests, from 0: 12 without it
abbrev pub person_in : {A : Type 0} → List (Authored A) → ℕ → Answer ℕ
person_in xs n = then (λ x. person_of x.author) (some_or (slice_get xs n) NothingLeft)

-- the person of record n, standing or waiting
unfoldable pub person : Lent → ℕ → Answer ℕ
person s n = do
  j ← opened s
  person_in (in_order j) n

-- ---- forgetting

-- without so many bytes at the front: the others move there, zeros stand up to the old used length, and both numbers fall
abbrev pub without : ℕ → Lent → Lent
without gone s = lent (buffer_with s.journal s.used (drop gone (used_of s))) (s.used - gone) (s.standing - gone)

-- forget the oldest k that stand: 12 if fewer stand; their records go
unfoldable pub forget : Lent → ℕ → Answer Lent
forget s k = do
  j ← opened s
  _ ← need (leb k (length j.stand)) NothingLeft
  Ok (without (lengths (oldest k j.stand)) s)

-- what an answer says, with the bytes left in the buffer
abbrev pub left_in : List ℕ → Answer Forgot → Answer Lent
left_in journal r = then (λ n. lent journal n.used n.standing) r

-- a call that answers so and leaves these bytes in the buffer
pub record Forgets (s : Lent) (k : ℕ) (r : Answer Forgot) (journal : List ℕ) : Type 0 where
  pub answer : left_in journal r ≡ forget s k
  pub journal_is : journal ≡ (at_exit s (forget s k)).journal
