-- What the three numbers say of what is lent. Assumes nothing.
use Rattle.std.specs.Prelude.{Option, Some, None, Ok, Err}
use mathlib.Core.Path.{◌≡◌, refl, sym}
use Prim.Native.Nat.{◌≤◌, ◌<◌}
use mathlib.Core.Bool.{true, false, ◌&&◌, false≢true}
use native.Mathlib.Omega.{arith}
use lib.ListN.{length, take}
use lib.Dec.{leb}
use lib.Seq.{length-take-le}
use borrow.Author.Tests.{leb-true, le-leb, lt-leb}
use Rattle.base.specs.Choice.{there}
use Rattle.base.proofs.Tests.{no, and_both}
use Rattle.fault.specs.declared.Fault.{Fault}
use Rattle.fault.specs.declared.Fault.TheVariants.{Damaged}
use Rattle.fault.specs.Answer.{Answer, ◌>>=◌, some_or}
use Rattle.fault.proofs.Answers.{need-given}
use Rattle.rows.specs.Title.{desktop_entry}
use Rattle.wellformed.specs.Check.{check}
use Rattle.wellformed.proofs.Accepts.{check-good}
use Rattle.journal.specs.Journal.{Journal, read_journal}
use Rattle.journal.specs.Lent.{numbers_fit, journal_in}
use Rattle.journal.proofs.Numbers.{Bounds, numbers-bounds}
use Rattle.edit.specs.Calls.{State, content, journal_of, lengths_fit, opened, file_checked}
use Rattle.edit.specs.Step.{passed, Ready}

module _ (s : State) where
  pub size-over : length s.file < s.size → Err Damaged ≡ file_checked s
  unfolding file_checked lengths_fit
  size-over h = rw (lt-leb s.size (length s.file) h)

  module _ (a : s.size ≤ length s.file) where
    pub numbers-over : numbers_fit (journal_of s) ≡ false → Err Damaged ≡ file_checked s
    unfolding file_checked lengths_fit
    numbers-over h = rw (le-leb s.size (length s.file) a, h)

    pub lengths-fit : numbers_fit (journal_of s) ≡ true → file_checked s ≡ check (content s)
    unfolding file_checked lengths_fit
    lengths-fit h = rw (le-leb s.size (length s.file) a, h)

-- ---- what is known once the numbers fit and the file is well formed

-- the numbers lie in their bounds, no line of the file is bad, and it is not too long
pub record Fits (s : State) : Type 0 where
  pub numbers : Bounds (journal_of s)
  pub ready : Ready s.file s.size s.standing

pub ready-fits : (s : State) → Ok tt ≡ file_checked s → Fits s
unfolding file_checked lengths_fit
ready-fits s e =
    let b = need-given (leb s.size (length s.file) && numbers_fit (journal_of s)) Damaged (λ _. check (content s)) tt (sym e) in
    let a = and_both (leb s.size (length s.file)) (numbers_fit (journal_of s)) b.0 in
    let f = leb-true s.size (length s.file) a.0 in
    let g = check-good desktop_entry (content s) (sym b.1) in
    let n = numbers-bounds (journal_of s) a.1 in
    record {
      numbers = n;
      ready = record {
        size_fits = f;
        size_bound = omega (arith, length-take-le s.size s.file f, g.1);
        standing_bound = omega (arith, n.standing-fits, n.used-bound);
        no_bad_line = g.0;
      };
    }

module _ (s : State) where
  pub opened-refused : {f : Fault} → Err f ≡ file_checked s → Err f ≡ passed (opened s)
  unfolding opened
  opened-refused e = rw (← e)

  journal-there : (o : Option Journal) → there o ≡ true → Ok tt ≡ passed (some_or o Damaged)
  journal-there (Some j) e = refl
  journal-there None e = absurd (false≢true e)

  journal-none : (o : Option Journal) → there o ≡ false → Err Damaged ≡ passed (some_or o Damaged)
  journal-none (Some j) e = absurd (false≢true (sym e))
  journal-none None e = refl

  module _ (e : Ok tt ≡ file_checked s) where
    pub opened-sound : there (read_journal (take s.used s.journal) s.standing) ≡ true → Ok tt ≡ passed (opened s)
    unfolding opened
    opened-sound q = rw (← e) (journal-there (read_journal (take s.used s.journal) s.standing) q)

    pub opened-damaged : there (read_journal (take s.used s.journal) s.standing) ≡ false → Err Damaged ≡ passed (opened s)
    unfolding opened
    opened-damaged q = rw (← e) (journal-none (read_journal (take s.used s.journal) s.standing) q)

  -- what was opened was ready
  pub opened-ready : Ok tt ≡ passed (opened s) → Ok tt ≡ file_checked s
  unfolding opened
  opened-ready q = go (file_checked s) (sym q)
    where
      go : (a : Answer (Unit {0})) → passed (a >>= λ _. journal_in (journal_of s)) ≡ Ok tt → Ok tt ≡ a
      go (Ok tt) h = refl
      go (Err f) h = no (cc)

pub opened-fits : (s : State) → Ok tt ≡ passed (opened s) → Fits s
opened-fits s e = ready-fits s (opened-ready s e)
