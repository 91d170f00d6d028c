-- Where the records of a journal's oldest edits end, and the call that forgets them. Assumes nothing.
use Rattle.std.specs.Prelude.{Option, Some, None, Ok, Err, ok_or}
use mathlib.Core.Path.{◌≡◌, sym, ap, ◌∙◌}
use mathlib.Core.Bool.{true, false}
use mathlib.Core.List.{List, [], ◌∷◌, reverse_aux}
use Prim.Native.Nat.{ℕ, zero, suc, ◌+◌, ◌-◌, ◌≤◌, ◌<◌}
use native.Mathlib.Omega.{arith}
use borrow.Author.Tests.{leb-true, leb-false}
use lib.ListN.{length, take, drop, length-drop}
use lib.Dec.{leb}
use Rattle.base.proofs.Tests.{no, by-test}
use Rattle.fault.specs.declared.Fault.{Fault}
use Rattle.fault.specs.declared.Fault.TheVariants.{Damaged, NothingLeft}
use Rattle.fault.specs.Answer.{accepted}
use Rattle.fault.proofs.Answers.{accepted-given}
use Rattle.record.specs.declared.Bounds as found
use Rattle.record.specs.Record.{Rec, record_length, read_each}
use Rattle.record.specs.Walk.{bounds_from, nth_of}
use Rattle.record.proofs.Seek.{first-bounds}
use Rattle.splice.specs.Edit.{Edit, replaced, buffer_with}
use Rattle.journal.specs.Journal.{read_edit, Authored, lengths, Journal, oldest, in_order, read_journal}
use Rattle.journal.specs.Lent.{Lent, lent, used_of, opened, without, forget, Forgets}
use Rattle.journal.specs.Walk.{EndsOldest}
use Rattle.journal.specs.declared.Forgot.{Forgot}
use Rattle.journal.proofs.Numbers.{Bounds}
use Rattle.journal.proofs.Records.{front-least, lengths-reverse, lengths-parted, order-parted, order-take}
use Rattle.journal.proofs.Edits.{read_length}
use Rattle.journal.proofs.Joined.{cons, none_read, of, journal-says}
use Rattle.journal.proofs.Opened.{opened-says, opened-refused}
use Rattle.journal.proofs.Forgotten.{forget-shut, forget-is, forget-lacks}

-- ---- where the first records end

end-from : (rs : List Rec) (es : List (Authored Edit)) (n at : ℕ) {b : found.Bounds} → read_each read_edit rs ≡ Some es → bounds_from rs n at ≡ Some b
    → (b.to ≡ at + lengths (take (suc n) es)) × (n < length es)
unfolding bounds_from
end-from [] es n at r h = no (cc)
end-from (q ∷ qs) es zero at r h =
    let k = cons q qs es r in
    let l = (first-bounds q qs at h).1 in
    rw k.is (omega (arith, l, read_length q k.reads), omega arith)
end-from (q ∷ qs) es (suc n) at r h =
    let k = cons q qs es r in
    let i = end-from qs k.others n (at + record_length q.body) k.reads-others h in
    rw k.is (omega (arith, i.0, read_length q k.reads), omega (arith, i.1))

fewer-from : (rs : List Rec) (es : List (Authored Edit)) (n at : ℕ) → read_each read_edit rs ≡ Some es → bounds_from rs n at ≡ None → length es ≤ n
unfolding bounds_from
fewer-from [] es n at r h = rw (none_read r) (omega arith)
fewer-from (q ∷ qs) es zero at r h = no (cc)
fewer-from (q ∷ qs) es (suc n) at r h =
    let k = cons q qs es r in
    rw k.is (omega (arith, fewer-from qs k.others n (at + record_length q.body) k.reads-others h))

-- ---- of those that stand and those that wait

length-order : (es ws : List (Authored Edit)) → length (reverse_aux es ws) ≡ length es + length ws
length-order [] ws = omega arith
length-order (e ∷ es) ws = length-order es (e ∷ ws) ∙ omega arith

-- the first k are the oldest k of those that stand
first-stand : (k : ℕ) (es ws : List (Authored Edit)) → k ≤ length es → lengths (take k (reverse_aux es ws)) ≡ lengths (oldest k es)
first-stand k es ws h =
    let m : ℕ = length es - k in
    let n : k ≡ length (drop m es) + 0 = omega (arith, length-drop m es) in
    ap (λ (xs : List (Authored Edit)). lengths (take k xs)) (order-parted m es ws)
    ∙ ap (λ (l : ℕ). lengths (take l (reverse_aux (drop m es) (reverse_aux (take m es) ws)))) n
    ∙ ap lengths (order-take (drop m es) (reverse_aux (take m es) ws) 0)
    ∙ lengths-reverse (drop m es) []
    ∙ omega arith

-- more than stand take more bytes
first-wait : (k : ℕ) (es ws : List (Authored Edit)) → length es < k → k ≤ length es + length ws → lengths es < lengths (take k (reverse_aux es ws))
first-wait k es [] h l = absurd (omega arith)
first-wait k es (w ∷ ws) h l =
    let m : ℕ = k - length es - 1 in
    let z : k ≡ length es + suc m = omega arith in
    let e = order-take es (w ∷ ws) (suc m) in
    omega (arith, ap (λ (n : ℕ). lengths (take n (reverse_aux es (w ∷ ws)))) z, ap lengths e, lengths-reverse es (w ∷ take m ws), front-least w.author)

module _ (s : List ℕ) (standing k : ℕ) (j : Journal) (h : read_journal s standing ≡ Some j) where
  -- no record k: fewer stand
  pub oldest-missing : 0 < k → nth_of s (k - 1) ≡ None → length j.stand < k
  unfolding nth_of
  oldest-missing p e =
      let w = journal-says s standing j h in
      let o = of s (in_order j) w.edits_are in
      omega (arith, fewer-from o.records (in_order j) (k - 1) 0 o.reads (rw o.cuts at e), length-order j.stand j.wait)

  module _ {b : found.Bounds} (p : 0 < k) (e : nth_of s (k - 1) ≡ Some b) where
    ends : (b.to ≡ lengths (take k (in_order j))) × (k ≤ length j.stand + length j.wait)
    unfolding nth_of
    ends =
        let w = journal-says s standing j h in
        let o = of s (in_order j) w.edits_are in
        let i = end-from o.records (in_order j) (k - 1) 0 o.reads (rw o.cuts at e) in
        let z : suc (k - 1) ≡ k = omega arith in
        (omega (arith, i.0, ap (λ (n : ℕ). lengths (take n (in_order j))) z), omega (arith, i.1, length-order j.stand j.wait))

    -- record k ends behind those that stand: fewer do
    pub oldest-beyond : standing < b.to → length j.stand < k
    oldest-beyond l =
        by-test (leb k (length j.stand))
        (λ t. absurd (omega (arith, ends.0, first-stand k j.stand j.wait (leb-true k (length j.stand) t), lengths-parted (length j.stand - k) j.stand, (journal-says s standing j h).standing)))
        (λ t. leb-false k (length j.stand) t)

    -- it ends among them
    pub oldest-ends : b.to ≤ standing → (k ≤ length j.stand) × (b.to ≡ lengths (oldest k j.stand))
    oldest-ends l =
        by-test (leb k (length j.stand))
        (λ t. let i = leb-true k (length j.stand) t in (i, ends.0 ∙ first-stand k j.stand j.wait i))
        (λ t. absurd (omega (arith, ends.0, first-wait k j.stand j.wait (leb-false k (length j.stand) t) ends.1, (journal-says s standing j h).standing)))

-- ---- the call

-- how many bytes go, in an opened journal
pub record Goes (s : Lent) (k gone : ℕ) : Type 0 where
  pub is : forget s k ≡ Ok (without gone s)
  pub stands : gone ≤ s.standing
  pub bounds : Bounds s

module _ (s : Lent) (k : ℕ) where
  pub forgets-refused : {f : Fault} → forget s k ≡ Err f → Forgets s k (Err f) s.journal
  forgets-refused e = record { answer = sym e; journal_is = rw e }

  pub forget-unopened : accepted (opened s) ≡ false → forget s k ≡ Err Damaged
  forget-unopened h = forget-shut s k (opened-refused s h)

  module _ (h : accepted (opened s) ≡ true) where
    pub forget-fewer : {f : Fault} (o : Option ℕ) → ok_or o NothingLeft ≡ Err f → EndsOldest (used_of s) s.standing k o → forget s k ≡ Err f
    forget-fewer {f} None e q =
        let j = accepted-given (opened s) h in
        let z : NothingLeft ≡ f = cc in
        forget-lacks s k j.0 j.1 (q j.0 (opened-says s j.0 j.1).reads) ∙ ap Err z
    forget-fewer (Some n) e q = no (cc)

    pub forget_goes : {gone : ℕ} → EndsOldest (used_of s) s.standing k (Some gone) → Goes s k gone
    forget_goes f =
        let j = accepted-given (opened s) h in
        let o = opened-says s j.0 j.1 in
        let g = f j.0 o.reads in
        record {
          is = forget-is s k j.0 j.1 g.0 ∙ rw g.1;
          stands = omega (arith, g.1, lengths-parted (length j.0.stand - k) j.0.stand, (journal-says (used_of s) s.standing j.0 o.reads).standing);
          bounds = o.bounds;
        }

  pub forgets-done : {gone : ℕ} {n : Forgot} {journal : List ℕ} → Goes s k gone → lent journal n.used n.standing ≡ without gone s → Forgets s k (Ok n) journal
  forgets-done g e = record { answer = ap Ok e ∙ sym g.is; journal_is = ap (λ (t : Lent). t.journal) e ∙ rw g.is }

-- a move to the front is all that it takes
pub front-dropped : (s : Lent) (gone : ℕ) {journal : List ℕ} → journal ≡ buffer_with s.journal s.used (replaced 0 gone [] (used_of s))
    → lent journal (s.used - gone) (s.standing - gone) ≡ without gone s
unfolding replaced
front-dropped s gone e = let z : 0 + gone ≡ gone = omega arith in rw (e, z)
