-- What a call to which the journal alone is lent asks first. Assumes nothing.
use Rattle.std.specs.Prelude.{Option, Some, None, Ok, Err}
use mathlib.Core.Path.{◌≡◌, refl}
use mathlib.Core.Bool.{true, false}
use Rattle.base.specs.Choice.{there}
use Rattle.base.proofs.Tests.{no, by-test}
use Rattle.fault.specs.declared.Fault.TheVariants.{Damaged}
use Rattle.fault.specs.Answer.{some_or, accepted}
use Rattle.fault.proofs.Answers.{need-given, some_is, accepted-given}
use Rattle.journal.specs.Journal.{Journal, read_journal}
use Rattle.journal.specs.Lent.{Lent, used_of, numbers_fit, journal_in, opened}
use Rattle.journal.proofs.Numbers.{Bounds, numbers-bounds, bounds-fit}

-- what an opened journal says
pub record Opened (s : Lent) (j : Journal) : Type 0 where
  pub bounds : Bounds s
  pub reads : read_journal (used_of s) s.standing ≡ Some j

pub opened-says : (s : Lent) (j : Journal) → opened s ≡ Ok j → Opened s j
unfolding opened
opened-says s j h =
    let a = need-given (numbers_fit s) Damaged (λ _. journal_in s) j h in
    record { bounds = numbers-bounds s a.0; reads = some_is (read_journal (used_of s) s.standing) Damaged j a.1 }

-- a journal is opened by its numbers and its edits
pub opened-by : (s : Lent) (j : Journal) → Opened s j → opened s ≡ Ok j
unfolding opened
opened-by s j o = rw (bounds-fit s o.bounds, o.reads)

-- ---- whether it is opened

pub opened-unfit : (s : Lent) → numbers_fit s ≡ false → false ≡ accepted (opened s)
unfolding opened
opened-unfit s h = rw h

pub opened-fit : (s : Lent) → numbers_fit s ≡ true → there (read_journal (used_of s) s.standing) ≡ accepted (opened s)
unfolding opened
opened-fit s h = rw h (go (read_journal (used_of s) s.standing))
  where
    go : (o : Option Journal) → there o ≡ accepted (some_or o Damaged)
    go None = refl
    go (Some j) = refl

pub opened-refused : (s : Lent) → accepted (opened s) ≡ false → opened s ≡ Err Damaged
unfolding opened
opened-refused s h = by-test (numbers_fit s) (λ t. rw t (go (read_journal (used_of s) s.standing) (rw t at h))) (λ t. rw t)
  where
    go : (o : Option Journal) → accepted (some_or o Damaged) ≡ false → some_or o Damaged ≡ Err Damaged
    go None e = refl
    go (Some j) e = no (cc)

-- an opened journal has its bounds and is sound
pub opened-bounds : (s : Lent) → accepted (opened s) ≡ true → Bounds s
opened-bounds s h = let j = accepted-given (opened s) h in (opened-says s j.0 j.1).bounds

pub opened-sound : (s : Lent) → accepted (opened s) ≡ true → there (read_journal (used_of s) s.standing) ≡ true
opened-sound s h = let j = accepted-given (opened s) h in rw (opened-says s j.0 j.1).reads
