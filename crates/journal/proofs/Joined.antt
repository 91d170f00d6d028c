-- A sound journal taken apart and put together, whatever its bytes: what stands, what waits, without the oldest, and one edit more. Assumes nothing.
use Rattle.std.specs.Prelude.{Option, Some, None, option_map}
use mathlib.Core.Path.{◌≡◌, refl, sym, ap, ◌∙◌}
use Prim.Native.Nat.{ℕ, ◌+◌, ◌-◌, ◌≤◌}
use native.Mathlib.Omega.{arith}
use mathlib.Core.Bool.{Bool, true, false}
use mathlib.Core.List.{List, [], ◌∷◌, ◌++◌, append-nil, reverse, reverse_aux, reverse_aux-eq}
use lib.ListN.{length, take, drop}
use lib.Dec.{eqb, leb}
use borrow.Author.Tests.{eqb-true, leb-true}
use Rattle.base.specs.Choice.{pick, maybe}
use Rattle.base.proofs.Tests.{no}
use Rattle.record.specs.Record.{Rec, record_bytes, cut, read_each, read_records}
use Rattle.record.proofs.Back.{cut_record}
use Rattle.record.proofs.Sizes.{list_length}
use Rattle.record.proofs.Cut.{cut-none}
use Rattle.record.proofs.Parted.{cut-join, cut-parted, cut-length}
use Rattle.splice.specs.Edit.{Edit}
use Rattle.journal.specs.Journal.{Authored, edit_record, edit_length, lengths, read_edit, Journal, in_order, parted_at, read_journal}
use Rattle.journal.specs.Walk.{edits}
use Rattle.journal.proofs.Records.{Small, edit-fits, edit-back, parted, lengths-reverse, lengths-parted, order-parted}
use Rattle.journal.proofs.Edits.{read_length, journal-by}

-- ---- records that are read

-- a record and others, each read
pub record Cons (r : Rec) (rs : List Rec) (es : List (Authored Edit)) : Type 0 where
  pub edit : Authored Edit
  pub others : List (Authored Edit)
  pub is : es ≡ edit ∷ others
  pub reads : read_edit r ≡ Some edit
  pub reads-others : read_each read_edit rs ≡ Some others

pub cons : (r : Rec) (rs : List Rec) (es : List (Authored Edit)) → read_each read_edit (r ∷ rs) ≡ Some es → Cons r rs es
unfolding read_each
cons r rs es h = go (read_edit r) (read_each read_edit rs) refl refl h
  where
    go : (o : Option (Authored Edit)) (p : Option (List (Authored Edit))) → read_edit r ≡ o → read_each read_edit rs ≡ p → maybe o None (λ e. option_map (λ fs. e ∷ fs) p) ≡ Some es → Cons r rs es
    go None p x y z = no (cc)
    go (Some e) None x y z = no (cc)
    go (Some e) (Some fs) x y z = let i : e ∷ fs ≡ es = cc in record { edit = e; others = fs; is = sym i; reads = x; reads-others = y }

pub none_read : {es : List (Authored Edit)} → read_each read_edit [] ≡ Some es → es ≡ []
unfolding read_each
none_read h = cc

read_join : (rs qs : List Rec) (es fs : List (Authored Edit)) → read_each read_edit rs ≡ Some es → read_each read_edit qs ≡ Some fs → read_each read_edit (rs ++ qs) ≡ Some (es ++ fs)
unfolding read_each
read_join [] qs es fs h k = rw (none_read h) k
read_join (r ∷ rs) qs es fs h k = let c = cons r rs es h in rw (c.is, c.reads, read_join rs qs c.others fs c.reads-others k)

record Split (rs : List Rec) (es fs : List (Authored Edit)) : Type 0 where
  front : List Rec
  back : List Rec
  is : rs ≡ front ++ back
  reads-front : read_each read_edit front ≡ Some es
  reads_back : read_each read_edit back ≡ Some fs

read-split : (rs : List Rec) (es fs : List (Authored Edit)) → read_each read_edit rs ≡ Some (es ++ fs) → Split rs es fs
unfolding read_each
read-split rs [] fs h = record { front = []; back = rs; is = refl; reads-front = refl; reads_back = h }
read-split [] (e ∷ es) fs h = no (cc)
read-split (r ∷ rs) (e ∷ es) fs h =
    let c = cons r rs (e ∷ (es ++ fs)) h in
    let i = c.is in
    let x : e ≡ c.edit = cc in
    let y : c.others ≡ es ++ fs = cc in
    let s = read-split rs es fs (c.reads-others ∙ ap Some y) in
    record { front = r ∷ s.front; back = s.back; is = ap (λ (qs : List Rec). r ∷ qs) s.is; reads-front = rw (c.reads, s.reads-front) (ap (λ (d : Authored Edit). Some (d ∷ es)) (sym x)); reads_back = s.reads_back }

-- they are as long as their edits say
read-lengths : (rs : List Rec) (es : List (Authored Edit)) → read_each read_edit rs ≡ Some es → list_length rs ≡ lengths es
unfolding list_length
read-lengths [] es h = rw (none_read h)
read-lengths (r ∷ rs) es h = let c = cons r rs es h in rw c.is (omega (arith, read_length r c.reads, read-lengths rs c.others c.reads-others))

-- ---- bytes

-- the edits of some bytes, by their records
pub record Of (s : List ℕ) (es : List (Authored Edit)) : Type 0 where
  pub records : List Rec
  pub cuts : cut s ≡ Some records
  pub reads : read_each read_edit records ≡ Some es

pub of : (s : List ℕ) (es : List (Authored Edit)) → edits s ≡ Some es → Of s es
unfolding read_records
of s es h = go (cut s) refl h
  where
    go : (o : Option (List Rec)) → cut s ≡ o → maybe o None (read_each read_edit) ≡ Some es → Of s es
    go None x y = no (cc)
    go (Some rs) x y = record { records = rs; cuts = x; reads = y }

-- those of some bytes and then others
edits-join : (x y : List ℕ) (es fs : List (Authored Edit)) → edits x ≡ Some es → edits y ≡ Some fs → edits (x ++ y) ≡ Some (es ++ fs)
unfolding read_records
edits-join x y es fs h k =
    let a = of x es h in
    let b = of y fs k in
    rw (cut-join a.records x y a.cuts, b.cuts) (read_join a.records b.records es fs a.reads b.reads)

-- the first of them, and the others
edits-parted : (s : List ℕ) (es fs : List (Authored Edit)) → edits s ≡ Some (es ++ fs) → (edits (take (lengths es) s) ≡ Some es) × (edits (drop (lengths es) s) ≡ Some fs)
unfolding read_records
edits-parted s es fs h =
    let a = of s (es ++ fs) h in
    let b = read-split a.records es fs a.reads in
    let p = cut-parted b.front b.back s (a.cuts ∙ ap Some b.is) in
    rw (← read-lengths b.front es b.reads-front, p.0, p.1) (b.reads-front, b.reads_back)

-- they fill the bytes
edits-length : (s : List ℕ) (es : List (Authored Edit)) → edits s ≡ Some es → lengths es ≡ length s
edits-length s es h =
    let a = of s es h in
    sym (read-lengths a.records es a.reads) ∙ cut-length a.records s a.cuts

-- one edit's own record
edits-one : (e : Authored Edit) → Small e → edits (record_bytes (edit_record e)) ≡ Some (e ∷ [])
unfolding read_records read_each
edits-one e h =
    let c : cut (record_bytes (edit_record e)) ≡ Some (edit_record e ∷ []) = ap cut (sym (append-nil (record_bytes (edit_record e)))) ∙ cut_record (edit_record e) [] (edit-fits e h) ∙ rw cut-none in
    rw (c, edit-back e h)

-- ---- a journal

-- what a sound journal says: its edits in order, and how many bytes stand
pub record Says (s : List ℕ) (n : ℕ) (j : Journal) : Type 0 where
  pub edits_are : edits s ≡ Some (in_order j)
  pub standing : n ≡ lengths j.stand

parted-says : (n : ℕ) (stand es : List (Authored Edit)) (j : Journal) → parted_at n stand es ≡ Some j → (reverse_aux stand es ≡ in_order j) × (lengths stand + n ≡ lengths j.stand)
unfolding parted_at
parted-says n stand [] j h = go (eqb n 0) refl h
  where
    go : (t : Bool) → eqb n 0 ≡ t → pick t (Some (record { stand = stand; wait = [] })) None ≡ Some j → (reverse_aux stand [] ≡ in_order j) × (lengths stand + n ≡ lengths j.stand)
    go true z e = let i : record { stand = stand; wait = [] } ≡ j = cc in (ap in_order i, omega (arith, eqb-true n 0 z) ∙ ap (λ (k : Journal). lengths k.stand) i)
    go false z e = no (cc)
parted-says n stand (e ∷ es) j h = go (eqb n 0) (leb (edit_length e) n) refl refl h (parted-says (n - edit_length e) (e ∷ stand) es j)
  where
    go : (t u : Bool) → eqb n 0 ≡ t → leb (edit_length e) n ≡ u
        → pick t (Some (record { stand = stand; wait = e ∷ es })) (pick u (parted_at (n - edit_length e) (e ∷ stand) es) None) ≡ Some j
        → (parted_at (n - edit_length e) (e ∷ stand) es ≡ Some j → (reverse_aux stand (e ∷ es) ≡ in_order j) × (lengths stand + edit_length e + (n - edit_length e) ≡ lengths j.stand))
        → (reverse_aux stand (e ∷ es) ≡ in_order j) × (lengths stand + n ≡ lengths j.stand)
    go true u z y x ih = let i : record { stand = stand; wait = e ∷ es } ≡ j = cc in (ap in_order i, omega (arith, eqb-true n 0 z) ∙ ap (λ (k : Journal). lengths k.stand) i)
    go false true z y x ih = let p = ih x in (p.0, omega (arith, leb-true (edit_length e) n y, p.1))
    go false false z y x ih = no (cc)

pub journal-says : (s : List ℕ) (n : ℕ) (j : Journal) → read_journal s n ≡ Some j → Says s n j
journal-says s n j h = go (edits s) refl (sym (journal-by s n) ∙ h)
  where
    go : (o : Option (List (Authored Edit))) → edits s ≡ o → maybe o None (parted_at n []) ≡ Some j → Says s n j
    go None x y = no (cc)
    go (Some es) x y = let p = parted-says n [] es j y in record { edits_are = x ∙ ap Some p.0; standing = omega (arith, p.1) }

-- a sound journal by its edits
journal-of : (s : List ℕ) (es ws : List (Authored Edit)) → edits s ≡ Some (reverse_aux es ws) → read_journal s (lengths es) ≡ Some (record { stand = es; wait = ws })
journal-of s es ws h = journal-by s (lengths es) ∙ rw h (parted es ws)

-- the same edits, of which others stand
pub journal-parted : (s : List ℕ) (n : ℕ) (j : Journal) (es ws : List (Authored Edit)) → read_journal s n ≡ Some j → in_order j ≡ reverse_aux es ws
    → (read_journal s (lengths es) ≡ Some (record { stand = es; wait = ws })) × (lengths es ≤ length s)
journal-parted s n j es ws h i =
    let e : edits s ≡ Some (reverse_aux es ws) = (journal-says s n j h).edits_are ∙ ap Some i in
    (journal-of s es ws e, omega (arith, edits-length s (reverse_aux es ws) e, lengths-reverse es ws))

-- without its oldest edits: the others are as they were
pub journal-rest : (s : List ℕ) (n : ℕ) (j : Journal) (m : ℕ) → read_journal s n ≡ Some j
    → let gone : ℕ = lengths (drop m j.stand) in read_journal (drop gone s) (n - gone) ≡ Some (record { stand = take m j.stand; wait = j.wait })
journal-rest s n j m h =
    let w = journal-says s n j h in
    let old : List (Authored Edit) = drop m j.stand in
    let others : List (Authored Edit) = reverse_aux (take m j.stand) j.wait in
    let e : edits s ≡ Some (reverse old ++ others) = w.edits_are ∙ ap Some (order-parted m j.stand j.wait ∙ reverse_aux-eq old others) in
    let l : lengths (reverse old) ≡ lengths old = lengths-reverse old [] ∙ omega arith in
    let k : n - lengths old ≡ lengths (take m j.stand) = omega (arith, w.standing, lengths-parted m j.stand) in
    rw (k, ← l) (journal-of (drop (lengths (reverse old)) s) (take m j.stand) j.wait (edits-parted s (reverse old) others e).1)

-- one edit more behind those that stand, and none waits
pub journal-more : (s : List ℕ) (n : ℕ) (j : Journal) (e : Authored Edit) → read_journal s n ≡ Some j → Small e
    → read_journal (take n s ++ record_bytes (edit_record e)) (n + edit_length e) ≡ Some (record { stand = e ∷ j.stand; wait = [] })
journal-more s n j e h k =
    let w = journal-says s n j h in
    let es : List (Authored Edit) = j.stand in
    let l : n ≡ lengths (reverse es) = w.standing ∙ omega (arith, lengths-reverse es []) in
    let f : edits (take n s) ≡ Some (reverse es) = rw l (edits-parted s (reverse es) j.wait (w.edits_are ∙ ap Some (reverse_aux-eq es j.wait))).0 in
    let g : edits (take n s ++ record_bytes (edit_record e)) ≡ Some (reverse_aux (e ∷ es) []) = edits-join (take n s) (record_bytes (edit_record e)) (reverse es) (e ∷ []) f (edits-one e k) ∙ ap Some (sym (reverse_aux-eq es (e ∷ []))) in
    let m : n + edit_length e ≡ lengths (e ∷ es) = omega (arith, w.standing) in
    rw m (journal-of (take n s ++ record_bytes (edit_record e)) (e ∷ es) [] g)
