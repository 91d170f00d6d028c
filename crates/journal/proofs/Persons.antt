-- The person in the n-th record of a journal. Assumes nothing.
use Rattle.std.specs.Prelude.{Some, None, Ok, Err, slice_get}
use mathlib.Core.Path.{◌≡◌, sym, ap, ◌∙◌}
use mathlib.Core.Bool.{true, false}
use mathlib.Core.List.{List, [], ◌∷◌}
use Prim.Native.Nat.{ℕ, zero, suc, ◌+◌, ◌-◌, ◌≤◌}
use native.Mathlib.Omega.{arith}
use borrow.Author.Tests.{eqb-true, eqb-false, leb-true, leb-false}
use lib.ListN.{length, take, drop}
use lib.Seq.{drop-drop}
use lib.Dec.{eqb, leb}
use Rattle.base.specs.Choice.{there}
use Rattle.base.specs.Lists.{part}
use Rattle.base.proofs.Tests.{no, by-test, mapped}
use Rattle.fault.specs.declared.Fault.TheVariants.{Damaged, NothingLeft}
use Rattle.fault.specs.Answer.{Answer, accepted}
use Rattle.fault.proofs.Answers.{accepted-given}
use Rattle.record.specs.declared.Bounds.{Bounds}
use Rattle.record.specs.Number.{number_in}
use Rattle.record.specs.Record.{Rec, record_length, cut, read_each}
use Rattle.record.specs.Walk.{bounds_from, nth_of, read_at}
use Rattle.record.proofs.Place.{Stands}
use Rattle.record.proofs.Cut.{cut-some, cut-some-at}
use Rattle.record.proofs.Seek.{first-bounds}
use Rattle.splice.specs.Edit.{Edit}
use Rattle.journal.specs.Journal.{read_edit, NoPerson, Person, Authored, by, person_of, edit_in, in_order}
use Rattle.journal.specs.Lent.{Lent, used_of, opened, person_in, person}
use Rattle.journal.specs.Walk.{edit_at, edits}
use Rattle.journal.proofs.Read.{edit-other, edit-bare, edit-person, edit-stub}
use Rattle.journal.proofs.Joined.{cons, none_read, of, journal-says}
use Rattle.journal.proofs.Opened.{opened-says, opened-refused}

-- ---- the record

-- the body that starts at a place is that of the n-th edit's record
pub record Found (s : List ℕ) (es : List (Authored Edit)) (n from : ℕ) : Type 0 where
  pub at : ℕ
  pub kind : ℕ
  pub end : ℕ
  pub edit : Authored Edit
  pub begins : from ≡ at + 6
  pub stands : Stands s at kind end
  pub holds : edit_at s at ≡ Some edit
  pub is : slice_get es n ≡ Some edit

found_from : (s : List ℕ) (at : ℕ) (rs : List Rec) (es : List (Authored Edit)) (n : ℕ) {b : Bounds} → cut (drop at s) ≡ Some rs → read_each read_edit rs ≡ Some es
    → bounds_from rs n at ≡ Some b → Found s es n b.from
unfolding bounds_from read_at
found_from s at [] es n c r h = no (cc)
found_from s at (q ∷ qs) es zero c r h =
    let w = cut-some (drop at s) c in
    let k = cons q qs es r in
    record { at = at; kind = q.kind; end = at + record_length q.body; edit = k.edit; begins = (first-bounds q qs at h).0; stands = (cut-some-at s at c).stands; holds = rw (w.0, w.1) k.reads; is = ap (λ (x : List (Authored Edit)). slice_get x 0) k.is }
found_from s at (q ∷ qs) es (suc n) c r h =
    let k = cons q qs es r in
    let f = found_from s (at + record_length q.body) qs k.others n (cut-some-at s at c).others k.reads-others h in
    record { at = f.at; kind = f.kind; end = f.end; edit = f.edit; begins = f.begins; stands = f.stands; holds = f.holds; is = ap (λ (x : List (Authored Edit)). slice_get x (suc n)) k.is ∙ f.is }

missing-from : (rs : List Rec) (es : List (Authored Edit)) (n at : ℕ) → read_each read_edit rs ≡ Some es → bounds_from rs n at ≡ None → slice_get es n ≡ None
unfolding bounds_from
missing-from [] es n at r h = rw (none_read r)
missing-from (q ∷ qs) es zero at r h = no (cc)
missing-from (q ∷ qs) es (suc n) at r h =
    let k = cons q qs es r in
    rw k.is (missing-from qs k.others n (at + record_length q.body) k.reads-others h)

module _ (s : List ℕ) (n : ℕ) (es : List (Authored Edit)) (e : edits s ≡ Some es) where
  pub person-found : {b : Bounds} → nth_of s n ≡ Some b → Found s es n b.from
  unfolding nth_of
  person-found h =
      let o = of s es e in
      found_from s 0 o.records es n o.cuts o.reads (rw o.cuts at h)

  pub person-missing : nth_of s n ≡ None → Err NothingLeft ≡ person_in es n
  unfolding nth_of
  person-missing h =
      let o = of s es e in
      rw (missing-from o.records es n 0 o.reads (rw o.cuts at h))

-- ---- its person

module _ {s : List ℕ} {es : List (Authored Edit)} {n from : ℕ} (f : Found s es n from) where
  pub kind-inside : (2 ≤ from) × (from - 2 + 2 ≤ length s)
  kind-inside = (omega (arith, f.begins), omega (arith, f.begins, f.stands.head-inside, f.stands.inside))

  pub kind-there : number_in (take 2 (drop (from - 2) s)) ≡ f.kind
  kind-there =
      let z : from - 2 ≡ f.at + 4 = omega (arith, f.begins) in
      rw (z, ← drop-drop 4 f.at s) (sym f.stands.has-kind)

  -- room for the person's two bytes
  pub person-inside : f.kind ≡ 4 → from + 2 ≤ f.end
  person-inside k =
      by-test (leb (f.at + 8) f.end)
      (λ t. omega (arith, f.begins, leb-true (f.at + 8) f.end t))
      (λ t. no (cc (f.holds, edit-stub f.stands k (leb-false (f.at + 8) f.end t))))

  person-is : {m : ℕ} → m ≡ person_of f.edit.author → Ok m ≡ person_in es n
  person-is h = rw (f.is, h)

  pub person-four : f.kind ≡ 4 → Ok (number_in (take 2 (drop from s))) ≡ person_in es n
  person-four k =
      let p = edit-person f.stands k (omega (arith, f.begins, person-inside k)) in
      let m = mapped (by (Person (number_in (take 2 (drop (f.at + 6) s))))) (edit_in (part (f.at + 8) f.end s)) (sym p ∙ f.holds) in
      person-is (rw (← m.2, f.begins))

  pub person-other : (f.kind ≡ 4 → ⊥) → Ok 0 ≡ person_in es n
  person-other k =
      by-test (eqb f.kind 1)
      (λ t.
      let p = edit-bare f.stands (eqb-true f.kind 1 t) in
      let m = mapped (by NoPerson) (edit_in (part (f.at + 6) f.end s)) (sym p ∙ f.holds) in
      person-is (rw (← m.2)))
      (λ t. no (cc (f.holds, edit-other f.stands (eqb-false f.kind 1 t) k)))

-- ---- the call

module _ (s : Lent) (n : ℕ) where
  pub person-refused : accepted (opened s) ≡ false → Err Damaged ≡ person s n
  unfolding person
  person-refused h = rw (opened-refused s h)

  pub person-by : {x : Answer ℕ} → accepted (opened s) ≡ true → ((es : List (Authored Edit)) → edits (used_of s) ≡ Some es → x ≡ person_in es n) → x ≡ person s n
  unfolding person
  person-by h t =
      let j = accepted-given (opened s) h in
      rw j.1 (t (in_order j.0) (journal-says (used_of s) s.standing j.0 (opened-says s j.0 j.1).reads).edits_are)

-- the journal in an opened buffer has edits
pub opened-edits : (s : Lent) → accepted (opened s) ≡ true → there (edits (used_of s)) ≡ true
opened-edits s h =
    let j = accepted-given (opened s) h in
    rw (journal-says (used_of s) s.standing j.0 (opened-says s j.0 j.1).reads).edits_are
