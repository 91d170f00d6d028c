-- Undo and redo by their steps: what is lent is in order, the journal names an edit, and the edit is made. Assumes nothing.
use Rattle.std.specs.Prelude.{Option, Some, None, Ok, Err}
use mathlib.Core.Path.{◌≡◌, refl, sym, ◌∙◌}
use mathlib.Core.List.{List}
use Prim.Native.Nat.{ℕ, ◌+◌, ◌-◌}
use lib.ListN.{length, take}
use Rattle.base.proofs.Tests.{no}
use Rattle.fault.specs.declared.Fault.{Fault}
use Rattle.fault.specs.declared.Fault.TheVariants.{NothingLeft}
use Rattle.fault.specs.Answer.{Answer, ◌>>=◌, some_or, then, at_exit}
use Rattle.splice.specs.Edit.{Edit, turned}
use Rattle.journal.specs.Journal.{Authored, Journal, edit_length, next_of}
use Rattle.journal.specs.Lent.{journal_in}
use Rattle.journal.specs.Walk.{Placed, ending_at, starting_at, next_on}
use Rattle.journal.specs.declared.Way.{Way}
use Rattle.journal.specs.declared.Way.TheVariants.{Undo, Redo}
use Rattle.edit.specs.Calls.{State, content, journal_of, opened, replayed, undo, redo, file_checked, replayed_in, with_file, Made, numbers_of}
use Rattle.edit.specs.Step.{numbers, became, undo_or_redo}
use Rattle.edit.specs.declared.Edited.{Edited}

-- ---- the edit is made, with numbers

module _ (room : ℕ) (file : List ℕ) (e : Edit) (used standing : ℕ) where
  pub refused-too : {f : Fault} → Err f ≡ then length (replayed_in room file e) → Err f ≡ then (numbers used standing) (replayed_in room file e)
  refused-too {f} = go (replayed_in room file e)
    where
      go : (a : Answer (List ℕ)) → Err f ≡ then length a → Err f ≡ then (numbers used standing) a
      go (Ok g) h = no (cc)
      go (Err g) h = cc

  pub numbers-too : {n : ℕ}
      → Ok n ≡ then length (replayed_in room file e)
      → Ok (record { size = n; used = used; standing = standing }) ≡ then (numbers used standing) (replayed_in room file e)
  numbers-too {n} = go (replayed_in room file e)
    where
      go : (a : Answer (List ℕ)) → Ok n ≡ then length a → Ok (record { size = n; used = used; standing = standing }) ≡ then (numbers used standing) a
      go (Ok g) h = let z : n ≡ length g = cc in rw z
      go (Err g) h = no (cc)

module _ (s : State) (e : Edit) (standing : ℕ) where
  pub replayed-numbers : then numbers_of (replayed s e standing) ≡ then (numbers s.used standing) (replayed_in (length s.file) (content s) e)
  unfolding replayed
  replayed-numbers = go (replayed_in (length s.file) (content s) e)
    where
      go : (a : Answer (List ℕ)) → then numbers_of (then (with_file s standing) a) ≡ then (numbers s.used standing) a
      go (Ok f) = refl
      go (Err f) = refl

  pub replayed-file : (at_exit s (replayed s e standing)).file ≡ became s.file s.size (replayed_in (length s.file) (content s) e)
  unfolding replayed
  replayed-file = go (replayed_in (length s.file) (content s) e)
    where
      go : (a : Answer (List ℕ)) → (at_exit s (then (with_file s standing) a)).file ≡ became s.file s.size a
      go (Ok f) = refl
      go (Err f) = refl

  -- the journal stays as it is
  replayed-journal : (at_exit s (replayed s e standing)).journal ≡ s.journal
  unfolding replayed
  replayed-journal = go (replayed_in (length s.file) (content s) e)
    where
      go : (a : Answer (List ℕ)) → (at_exit s (then (with_file s standing) a)).journal ≡ s.journal
      go (Ok f) = refl
      go (Err f) = refl

turned-journal : (s : State) (a : Answer Journal) (pick : Journal → Option (Authored Edit)) (turn : Edit → Edit) (n : Authored Edit → ℕ)
    → (at_exit s (a >>= λ j. (some_or (pick j) NothingLeft >>= λ e. replayed s (turn e.what) (n e)))).journal ≡ s.journal
turned-journal s (Err f) pick turn n = refl
turned-journal s (Ok j) pick turn n = go (pick j)
  where
    go : (o : Option (Authored Edit)) → (at_exit s (some_or o NothingLeft >>= λ e. replayed s (turn e.what) (n e))).journal ≡ s.journal
    go None = refl
    go (Some e) = replayed-journal s (turn e.what) (n e)

-- ---- a call by its steps

-- A call asks whether what is lent is in order, then for an edit; it makes that edit or the same turned round, with another standing number.
pub record Steps (s : State) (from : Answer Placed) (turn : Edit → Edit) (number : Placed → ℕ) (call : Answer State) : Type 0 where
  pub is : call ≡ (file_checked s >>= λ _. from >>= λ p. replayed s (turn p.edit) (number p))
  pub keeps : s.journal ≡ (at_exit s call).journal

-- the first of some of the journal's edits, and where its record is
abbrev asked : State → (Journal → List (Authored Edit)) → (Authored Edit → Placed) → Answer Placed
asked s which place = journal_in (journal_of s) >>= λ j. then place (some_or (next_of (which j)) NothingLeft)

asked-steps : (s : State) (which : Journal → List (Authored Edit)) (place : Authored Edit → Placed) (make : Placed → Answer State)
    → (opened s >>= λ j. some_or (next_of (which j)) NothingLeft >>= λ e. make (place e)) ≡ (file_checked s >>= λ _. asked s which place >>= make)
unfolding opened
asked-steps s which place make = by_all (file_checked s) (journal_in (journal_of s))
  where
    by_next : (o : Option (Authored Edit)) → (some_or o NothingLeft >>= λ e. make (place e)) ≡ (then place (some_or o NothingLeft) >>= make)
    by_next None = refl
    by_next (Some e) = refl

    by_all : (a : Answer (Unit {0})) (o : Answer Journal)
        → ((a >>= λ _. o) >>= λ j. some_or (next_of (which j)) NothingLeft >>= λ e. make (place e))
        ≡ (a >>= λ _. (o >>= λ j. then place (some_or (next_of (which j)) NothingLeft)) >>= make)
    by_all (Ok tt) (Ok j) = by_next (next_of (which j))
    by_all (Ok tt) (Err f) = refl
    by_all (Err f) o = refl

-- an undo turns the edit round and stands where its record starts; a redo makes it and stands where it ends
abbrev pub turn_on : Way → Edit → Edit
turn_on Undo e = turned e
turn_on Redo e = e

abbrev pub standing_on : Way → Placed → ℕ
standing_on Undo p = p.start
standing_on Redo p = p.end

pub way-steps : (way : Way) (s : State) → Steps s (next_on way (take s.used s.journal) s.standing) (turn_on way) (standing_on way) (undo_or_redo way s)
unfolding undo redo
way-steps Undo s = record {
  is = asked-steps s (λ j. j.stand) (ending_at s.standing) (λ p. replayed s (turned p.edit) p.start);
  keeps = sym (turned-journal s (opened s) (λ j. next_of j.stand) turned (λ e. s.standing - edit_length e));
}
way-steps Redo s = record {
  is = asked-steps s (λ j. j.wait) (starting_at s.standing) (λ p. replayed s p.edit p.end);
  keeps = sym (turned-journal s (opened s) (λ j. next_of j.wait) (λ e. e) (λ e. s.standing + edit_length e));
}

-- what the call answers and leaves
module _ {s : State} {from : Answer Placed} {turn : Edit → Edit} {number : Placed → ℕ} {call : Answer State} (w : Steps s from turn number call) where
  refused-so : {f : Fault} → call ≡ Err f → Made s call (Err f) s.file s.journal
  refused-so e = record { answer = rw e; file_is = rw e; journal_is = w.keeps }

  pub made-unready : {f : Fault} → Err f ≡ file_checked s → Made s call (Err f) s.file s.journal
  made-unready e = refused-so (w.is ∙ rw (← e))

  module _ (r : Ok tt ≡ file_checked s) where
    pub made-unread : {f : Fault} → Err f ≡ from → Made s call (Err f) s.file s.journal
    made-unread g = refused-so (w.is ∙ rw (← r, ← g))

    pub made_again : {p : Placed} {x : Answer Edited} {file : List ℕ} → Ok p ≡ from
        → x ≡ then (numbers s.used (number p)) (replayed_in (length s.file) (content s) (turn p.edit))
        → file ≡ became s.file s.size (replayed_in (length s.file) (content s) (turn p.edit))
        → Made s call x file s.journal
    made_again {p} g a b =
        let e : Edit = turn p.edit in
        let i : call ≡ replayed s e (number p) = w.is ∙ rw (← r, ← g) in
        record { answer = a ∙ sym (rw i (replayed-numbers s e (number p))); file_is = b ∙ sym (rw i (replayed-file s e (number p))); journal_is = w.keeps }
