-- The edits of some bytes, record by record. Assumes nothing.
use Rattle.std.specs.Prelude.{Option, Some, None, option_map}
use mathlib.Core.Path.{◌≡◌, refl, sym, ◌∙◌}
use mathlib.Core.Bool.{Bool, true, false}
use mathlib.Core.List.{List, [], ◌∷◌}
use Prim.Native.Nat.{ℕ, ◌+◌, ◌<◌}
use native.Mathlib.Omega.{arith}
use borrow.Author.Tests.{eqb-true, leb-true, leb-false}
use lib.ListN.{length, take, drop, length-drop}
use lib.Dec.{eqb, leb}
use Rattle.base.specs.Choice.{pick, maybe}
use Rattle.base.specs.Lists.{part}
use Rattle.base.proofs.Lists.{length_part}
use Rattle.base.proofs.Tests.{no, by-test, mapped}
use Rattle.record.specs.Number.{number_in}
use Rattle.record.specs.Record.{Rec, record_length, length_at, record_at, whole}
use Rattle.record.proofs.Place.{whole-bounds}
use Rattle.record.specs.Walk.{read_at}
use Rattle.record.proofs.Each.{each-done, each-damaged, each_step}
use Rattle.splice.specs.Edit.{Edit}
use Rattle.journal.specs.Journal.{NoPerson, Person, Authored, by, edit_length, edit_in, read_edit, next_of, parted_at, read_journal}
use Rattle.journal.specs.Walk.{edit_at, edits, Follows}

-- a choice that gave something passed its test
picked : {A : Type 0} (t : Bool) {x y : A} → pick t (Some x) None ≡ Some y → (t ≡ true) × (x ≡ y)
picked true h = (refl, cc)
picked false h = no (cc)

-- an edit is as long as its record
in-length : (s : List ℕ) {e : Edit} → edit_in s ≡ Some e → 12 + length e.old + length e.new ≡ length s
unfolding edit_in
in-length s h =
    let old : ℕ = number_in (part 4 8 s) in
    let new : ℕ = number_in (part 8 12 s) in
    let p = picked (eqb (length s) (12 + old + new)) h in
    let n : length s ≡ 12 + old + new = eqb-true _ _ p.0 in
    rw (← p.1, length-drop) (omega (arith, length_part 12 (12 + old) s (omega arith)))

pub read_length : (r : Rec) {e : Authored Edit} → read_edit r ≡ Some e → edit_length e ≡ record_length r.body
unfolding read_edit
read_length r {e} h =
    by-test (eqb r.kind 1)
    (λ t. let m = mapped (by NoPerson) (edit_in r.body) (rw t at h) in rw (← m.2) (omega (arith, in-length r.body m.1)))
    (λ t. by-test (eqb r.kind 4)
    (λ u. let m = mapped (by (Person (number_in (take 2 r.body)))) (edit_in (drop 2 r.body)) (rw (t, u) at h) in
    rw (← m.2) (omega (arith, in-length (drop 2 r.body) m.1, length-drop 2 r.body)))
    (λ u. let z : None ≡ Some e = rw (t, u) at h in no (cc)))

head_of : (e : Authored Edit) (o : Option (List (Authored Edit))) {es : List (Authored Edit)} → option_map (λ fs. e ∷ fs) o ≡ Some es → next_of es ≡ Some e
head_of e None h = no (cc)
head_of e (Some fs) {es} h = let z : e ∷ fs ≡ es = cc in rw (← z)

module _ (s : List ℕ) (at : ℕ) where
  -- its record is as long
  pub at_length : {e : Authored Edit} → edit_at s at ≡ Some e → edit_length e ≡ length_at (drop at s)
  unfolding read_at
  at_length {e} h =
      by-test (whole (drop at s))
      (λ w.
      let b = whole-bounds (drop at s) w in
      omega (arith, read_length (record_at (drop at s)) (rw w at h), length_part 6 (length_at (drop at s)) (drop at s) b.1))
      (λ w. let z : None ≡ Some e = rw w at h in no (cc))

  -- an edit, and those behind its record
  pub edits-step : {e : Authored Edit} → edit_at s at ≡ Some e → edits (drop at s) ≡ option_map (λ es. e ∷ es) (edits (drop (at + edit_length e) s))
  edits-step {e} h = let n = at_length h in each_step read_edit s at h ∙ rw (← n)

  -- the first of them
  pub edits-first : (es : List (Authored Edit)) → edits (drop at s) ≡ Some es → Follows s at (next_of es)
  edits-first es h =
      by-test (leb (length s) at)
      (λ t. let l = leb-true _ _ t in let z : es ≡ [] = cc (each-done read_edit s at l) in rw z l)
      (λ t. go (edit_at s at) refl (leb-false _ _ t))
    where
      go : (o : Option (Authored Edit)) → edit_at s at ≡ o → at < length s → Follows s at (next_of es)
      go None e l = no (cc (each-damaged read_edit s at l e))
      go (Some f) e l = rw (head_of f (edits (drop (at + edit_length f) s)) (sym (edits-step e) ∙ h)) e

-- a journal by the edits of its bytes
pub journal-by : (s : List ℕ) (standing : ℕ) → read_journal s standing ≡ maybe (edits s) None (parted_at standing [])
unfolding read_journal
journal-by s standing = refl
