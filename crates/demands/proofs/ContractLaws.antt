-- Calls that met their contracts tell what the definitions tell and leave what these leave, so demand 3 holds of them. Assumes nothing.
use Rattle.std.specs.Prelude.{Ok, Err}
use mathlib.Core.Path.{◌≡◌, refl, sym, ap, ◌∙◌}
use Prim.Native.Nat.{ℕ}
use mathlib.Core.Bool.{true, false≢true}
use mathlib.Core.List.{List, ◌++◌}
use lib.ListN.{length}
use lib.Dec.{eqb}
use Rattle.base.proofs.Tests.{all_weaker}
use Rattle.fault.specs.declared.Fault.{Fault}
use Rattle.fault.specs.declared.Fault.TheVariants.{TooLong, BadLine, FirstGroup, RepeatedGroup, RepeatedKey, NoPlainKey, BadArgument, Missing, BadEscape, UnfitText, NoRoom, NothingLeft, JournalFull, Damaged, BadExec, BadCode, PostfixesRemain, Incomplete}
use Rattle.fault.specs.Table.{number_of, place_of, byte_of}
use Rattle.fault.specs.Answer.{Answer, then, at_exit}
use Rattle.journal.specs.Journal.{Author, NoPerson, Person, by, kind_of}
use Rattle.journal.specs.Lent as alone
use Rattle.journal.specs.Lent.{Lent, forget}
use Rattle.edit.specs.Calls.{State, content, journal_of, Made}
use Rattle.edit.specs.declared.Edited.{Edited}
use Rattle.edit.proofs.Applying.{made-done, made-refused}
use Rattle.batch.specs.Batch.{Batch, batch}
use Rattle.abi.specs.Abi.{code_of, place_in, byte_in, Returned}
use Rattle.demands.specs.Book.{Call, Do, Undo, Redo, Forget, book_call}
use Rattle.demands.specs.Demand3.{with_journal, state_call, person_fits, writes_kind, Told, told_of, told, told_over, left_by, start_state, start_book}
use Rattle.demands.specs.Batches.{each_told, batch_told, InPlaceOf, AsTheCalls, BatchIsCalls}
use Rattle.demands.specs.ByContracts.{Chain, no_call, one_call, Demand3Of, after, ByContract, made, forgot, batched, told_in, ByExport, called, forgotten, called_batch, Demand3OfContracts, Demand3OfExports}
use Rattle.demands.proofs.Agreement.{agrees, start-rep, as-in-the-book}
use Rattle.demands.proofs.BatchLaws.{single-call, more-calls, batch-is-calls}

-- ---- chains of calls that do as the definitions say

-- 01's calls name nobody
old-fits : (c : Call) → writes_kind 1 c ≡ true → person_fits c ≡ true
old-fits (Do q) e = by-author q.author e
  where
    by-author : (a : Author) → eqb (kind_of a) 1 ≡ true → person_fits (Do (by a q.what)) ≡ true
    by-author NoPerson e = refl
    by-author (Person n) e = absurd (false≢true e)
old-fits Undo e = refl
old-fits Redo e = refl
old-fits (Forget k) e = refl

module _ (step : State → List Call → List Told → State → Type 0)
    (defined : (s : State) (cs : List Call) (xs : List Told) (t : State) → step s cs xs t → AsTheCalls s cs xs t) where
  follows : {s : State} {cs : List Call} {xs : List Told} {u : State} → Chain step s cs xs u → AsTheCalls s cs xs u
  unfolding told_over left_by
  follows no_call = record { tells = refl; leaves = refl }
  follows (one_call {s} {t} {cs = cs} {xs = xs} d h) = more-calls (defined s cs xs t d) (follows h)

  demand3-of : Demand3Of step
  demand3-of start rest journal olds calls tolds s h o p k =
      let w = follows k in
      let begun = agrees olds (start_state start rest journal) (start_book start (length (start ++ rest)) (length journal)) (all_weaker (writes_kind 1) person_fits old-fits olds o) (start-rep start rest journal h) in
      let d = as-in-the-book calls (left_by state_call (start_state start rest journal) olds) (left_by book_call (start_book start (length (start ++ rest)) (length journal)) olds) p begun.rep-after in
      record { tells = w.tells ∙ d.tells; file_is = ap content w.leaves ∙ d.file_is; standing_is = ap (λ (t : State). t.standing) w.leaves ∙ d.standing_is }

-- ---- the functions of `edit`

-- what a call that met its contract told and left
as-made : {s : State} {a : Answer State} (r : Answer Edited) {file journal : List ℕ} → Made s a r file journal → (told r ≡ told a) × (after s r file journal ≡ at_exit s a)
as-made {s} (Ok n) m = let e = sym (made-done m) in (ap told e, ap (at_exit s) e)
as-made {s} (Err f) m =
    let e = made-refused m in
    (ap told (sym e.0), (λ i. record { file = e.1 i; size = s.size; journal = e.2 i; used = s.used; standing = s.standing }) ∙ ap (at_exit s) (sym e.0))

-- ---- `journal::forget`

told-then : {A B : Type 0} (h : A → B) (a : Answer A) → told a ≡ told (then h a)
told-then h (Ok x) = refl
told-then h (Err f) = refl

leaves-forgot : (s : State) (a : Answer Lent) (journal : List ℕ) → journal ≡ (at_exit (journal_of s) a).journal
    → with_journal s (at_exit (alone.lent journal s.used s.standing) a) ≡ at_exit s (then (with_journal s) a)
leaves-forgot s (Ok t) journal h = refl
leaves-forgot s (Err f) journal h = rw h

-- ---- `batch::batch`

as-batch : {s t : State} {author : Author} {list : List ℕ} {cs : List Call} {tolds xs : List Told}
    → tolds ≡ batch_told (batch s author list) → t ≡ (batch s author list).state → InPlaceOf s author list tolds cs xs → AsTheCalls s cs xs t
unfolding BatchIsCalls
as-batch {s} {author = author} {list = list} {cs = cs} {xs = xs} e f p = rw f (batch-is-calls s author list cs xs (rw e at p))

pub demand3-of-contracts : Demand3OfContracts
unfolding Demand3OfContracts
demand3-of-contracts = demand3-of ByContract defined
  where
    defined : (s : State) (cs : List Call) (xs : List Told) (t : State) → ByContract s cs xs t → AsTheCalls s cs xs t
    defined _ _ _ _ (made {r = r} m) = let w = as-made r m in single-call w.0 w.1
    defined _ _ _ _ (forgot {s} {k} {r} {journal} m) =
        single-call
        (told-then (λ n. alone.lent journal n.used n.standing) r ∙ ap told m.answer ∙ told-then (with_journal s) (forget (journal_of s) k))
        (ap (λ (a : Answer Lent). with_journal s (at_exit (alone.lent journal s.used s.standing) a)) m.answer ∙ leaves-forgot s (forget (journal_of s) k) journal m.journal_is)
    defined _ _ _ _ (batched m p) = as-batch (ap batch_told m.is) (ap (λ (b : Batch). b.state) m.is) p

-- ---- the exported functions

-- no refusal's number is 0
refused-in : (f : Fault) → told_in (number_of f) (place_of f) (byte_of f) ≡ told_of f
refused-in TooLong = refl
refused-in (BadLine line byte) = refl
refused-in (FirstGroup line) = refl
refused-in (RepeatedGroup line) = refl
refused-in (RepeatedKey line) = refl
refused-in (NoPlainKey line) = refl
refused-in BadArgument = refl
refused-in Missing = refl
refused-in (BadEscape at) = refl
refused-in UnfitText = refl
refused-in NoRoom = refl
refused-in NothingLeft = refl
refused-in JournalFull = refl
refused-in Damaged = refl
refused-in (BadExec at) = refl
refused-in (BadCode at) = refl
refused-in PostfixesRemain = refl
refused-in (Incomplete line) = refl

told_in_lem : {A : Type 0} (a : Answer A) → told_in (code_of a) (place_in a) (byte_in a) ≡ told a
told_in_lem (Ok t) = refl
told_in_lem (Err f) = refused-in f

told-returned : {A : Type 0} (a : Answer A) {code place byte : ℕ} → Returned a code place byte → told_in code place byte ≡ told a
told-returned a w = rw (w.code_is, w.place_is, w.byte_is) (told_in_lem a)

left-forgot : (s : State) (a : Answer Lent) → with_journal s (at_exit (journal_of s) a) ≡ at_exit s (then (with_journal s) a)
left-forgot s (Ok t) = refl
left-forgot s (Err f) = refl

pub demand3-of-exports : Demand3OfExports
unfolding Demand3OfExports
demand3-of-exports = demand3-of ByExport defined
  where
    defined : (s : State) (cs : List Call) (xs : List Told) (t : State) → ByExport s cs xs t → AsTheCalls s cs xs t
    defined _ _ _ _ (called {s} {c} m) =
        single-call
        (told-returned (state_call s c) m.returned)
        (λ i. record { file = m.file_is i; size = m.size_is i; journal = m.journal_is i; used = m.used_is i; standing = m.standing_is i })
    defined _ _ _ _ (forgotten {s} {k} m) =
        let a : Answer Lent = forget (journal_of s) k in
        single-call (told-returned a m.returned ∙ told-then (with_journal s) a) (ap (with_journal s) m.left ∙ left-forgot s a)
    defined _ _ _ _ (called_batch m p) = as-batch (λ i. each_told (m.done_is i) (told-returned _ m.returned i)) m.left p
