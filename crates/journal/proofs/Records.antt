-- The journal's records read back: one edit, a list of them, and where they are parted. Assumes nothing.
use Rattle.std.specs.Prelude.{Some}
use mathlib.Core.Path.{◌≡◌, refl, ap, ◌∙◌}
use Prim.Native.Nat.{ℕ, zero, suc, ◌+◌, ◌-◌, ◌≤◌, ◌<◌}
use native.Mathlib.Omega.{arith}
use mathlib.Core.List.{List, [], ◌∷◌, ◌++◌, append-nil, map, reverse_aux, reverse, reverse_aux-eq}
use lib.ListN.{length, take, drop, length-append}
use lib.Seq.{take-append_seam, drop-append_seam, take_at, drop_at}
use borrow.Author.Tests.{eq-eqb, ne_eqb, le-leb}
use Rattle.base.specs.Lists.{joined}
use Rattle.base.proofs.Lists.{map-append}
use Rattle.record.specs.Number.{little_endian, number_in}
use Rattle.record.specs.Record.{record_bytes, record_length, list_bytes, cut, read_each, read_records}
use Rattle.record.proofs.Numbers.{fits-two, fits-four, number-back, length-number}
use Rattle.record.proofs.Sizes.{length-record, list-cons, list-append}
use Rattle.record.proofs.Back.{Fits, fits, FitsAll, no_record, one_more, cut-back}
use Rattle.splice.specs.Edit.{Edit}
use Rattle.journal.specs.Journal.{Author, NoPerson, Person, Authored, by, person_of, kind_of, author_bytes, edit_bytes, edit_record, front_length, edit_length, lengths, edit_in, read_edit, parted_at, read_journal}

-- ---- one edit

-- an edit whose numbers a journal can hold
pub record Small (e : Authored Edit) : Type 0 where
  pub person-small : person_of e.author < 65536
  pub place-small : e.what.place ≤ 65536
  pub length-small : edit_length e ≤ 65536

module _ (e : Edit) where
  bytes-length : length (edit_bytes e) ≡ 12 + length e.old + length e.new
  unfolding edit_bytes little_endian
  bytes-length = simp length-append (omega arith)

  bytes_back : e.place ≤ 65536 → length e.old + length e.new ≤ 65536 → edit_in (edit_bytes e) ≡ Some e
  unfolding edit_in edit_bytes little_endian
  bytes_back s l =
      let p : number_in (little_endian 4 e.place) ≡ e.place = number-back 4 e.place (fits-four e.place (omega arith)) in
      let o : number_in (little_endian 4 (length e.old)) ≡ length e.old = number-back 4 (length e.old) (fits-four (length e.old) (omega arith)) in
      let n : number_in (little_endian 4 (length e.new)) ≡ length e.new = number-back 4 (length e.new) (fits-four (length e.new) (omega arith)) in
      let t : 12 + length e.old - 12 ≡ length e.old = omega arith in
      let d : 12 + length e.old ≡ suc (suc (suc (suc (suc (suc (suc (suc (suc (suc (suc (suc (length e.old)))))))))))) = omega arith in
      rw (p, o, n, eq-eqb (length (edit_bytes e)) (12 + length e.old + length e.new) bytes-length, t, take-append_seam e.old e.new, d, drop-append_seam e.old e.new)

-- a record's front: 18 bytes and those that name the author
pub front_length_lem : (a : Author) → front_length a ≡ 18 + length (author_bytes a)
front_length_lem NoPerson = refl
front_length_lem (Person n) = rw (length-number 2 n)

pub front-least : (a : Author) → 18 ≤ front_length a
front-least a = omega (arith, front_length_lem a)

pub record-length-is : (e : Authored Edit) → record_length (edit_record e).body ≡ edit_length e
unfolding edit_record
record-length-is e = simp length-append (omega (arith, bytes-length e.what, front_length_lem e.author))

pub edit-length : (e : Authored Edit) → length (record_bytes (edit_record e)) ≡ edit_length e
edit-length e = length-record (edit_record e) ∙ record-length-is e

pub edit-fits : (e : Authored Edit) → Small e → Fits (edit_record e)
unfolding edit_record
edit-fits e h = fits (edit_record e) (omega (arith, record-length-is e, h.length-small)) (by-author e.author)
  where
    by-author : (a : Author) → kind_of a < 65536
    by-author NoPerson = omega arith
    by-author (Person n) = omega arith

pub edit-back : (e : Authored Edit) → Small e → read_edit (edit_record e) ≡ Some e
unfolding read_edit edit_record
edit-back e h = by-author e.author h.person-small h.place-small h.length-small
  where
    by-author : (a : Author) → person_of a < 65536 → e.what.place ≤ 65536 → edit_length (by a e.what) ≤ 65536 → read_edit (edit_record (by a e.what)) ≡ Some (by a e.what)
    by-author NoPerson p s l = rw (bytes_back e.what s (omega arith))
    by-author (Person n) p s l =
        let i = number-back 2 n (fits-two n p) in
        rw (take_at (little_endian 2 n) (edit_bytes e.what) 2 (length-number 2 n), drop_at (little_endian 2 n) (edit_bytes e.what) 2 (length-number 2 n), i, bytes_back e.what s (omega arith))

-- ---- lists of edits

abbrev pub AllSmall : List (Authored Edit) → Type 0
AllSmall [] = Unit
AllSmall (e ∷ es) = Small e × AllSmall es

-- the bytes of edits one after another
abbrev pub recorded : List (Authored Edit) → List ℕ
recorded es = list_bytes (map edit_record es)

pub recorded-append : (es fs : List (Authored Edit)) → recorded (es ++ fs) ≡ recorded es ++ recorded fs
recorded-append es fs = ap list_bytes (map-append edit_record es fs) ∙ list-append (map edit_record es) (map edit_record fs)

pub recorded-one : (e : Authored Edit) → recorded (e ∷ []) ≡ record_bytes (edit_record e)
unfolding list_bytes joined
recorded-one e = append-nil (record_bytes (edit_record e))

pub recorded-length : (es : List (Authored Edit)) → length (recorded es) ≡ lengths es
recorded-length [] = unfold list_bytes joined in refl
recorded-length (e ∷ es) =
    let l = edit-length e in
    let i = recorded-length es in
    ap length (list-cons (edit_record e) (map edit_record es)) ∙ length-append (record_bytes (edit_record e)) (recorded es) ∙ omega arith

all_fit : (es : List (Authored Edit)) → AllSmall es → FitsAll (map edit_record es)
all_fit [] h = no_record
all_fit (e ∷ es) h = one_more (edit-fits e h.0) (all_fit es h.1)

pub edits-back : (es : List (Authored Edit)) → AllSmall es → read_each read_edit (map edit_record es) ≡ Some es
unfolding read_each
edits-back [] h = refl
edits-back (e ∷ es) h = rw (edit-back e h.0, edits-back es h.1)

-- ---- where they are parted: what stands is kept with the latest first

parted-step : (e : Authored Edit) (m : ℕ) (es ws : List (Authored Edit)) → parted_at (edit_length e + m) es (e ∷ ws) ≡ parted_at m (e ∷ es) ws
unfolding parted_at
parted-step e m es ws =
    let k : edit_length e + m - edit_length e ≡ m = omega arith in
    rw (ne_eqb (edit_length e + m) 0 (λ z. omega (arith, front-least e.author)), le-leb (edit_length e) (edit_length e + m) (omega arith), k)

parted-from : (es ws : List (Authored Edit)) (m : ℕ) → parted_at (lengths es + m) [] (reverse_aux es ws) ≡ parted_at m es ws
parted-from [] ws m = let z : 0 + m ≡ m = omega arith in rw z
parted-from (e ∷ es) ws m =
    let z : lengths es + edit_length e + m ≡ lengths es + (edit_length e + m) = omega arith in
    rw z (parted-from es (e ∷ ws) (edit_length e + m) ∙ parted-step e m es ws)

pub parted-here : (es ws : List (Authored Edit)) → parted_at 0 es ws ≡ Some (record { stand = es; wait = ws })
unfolding parted_at
parted-here es [] = refl
parted-here es (w ∷ ws) = refl

pub parted : (es ws : List (Authored Edit)) → parted_at (lengths es) [] (reverse_aux es ws) ≡ Some (record { stand = es; wait = ws })
parted es ws = let z : lengths es ≡ lengths es + 0 = omega arith in rw z (parted-from es ws 0 ∙ parted-here es ws)

pub small-reverse : (es ws : List (Authored Edit)) → AllSmall es → AllSmall ws → AllSmall (reverse_aux es ws)
small-reverse [] ws h k = k
small-reverse (e ∷ es) ws h k = small-reverse es (e ∷ ws) h.1 (h.0, k)

-- the records of edits one after another
pub recorded-back : (es : List (Authored Edit)) → AllSmall es → cut (recorded es) ≡ Some (map edit_record es)
recorded-back es h = cut-back (all_fit es h)

-- the journal of edits that stand and edits that wait
pub journal-back : (es ws : List (Authored Edit)) → AllSmall (reverse_aux es ws) → read_journal (recorded (reverse_aux es ws)) (lengths es) ≡ Some (record { stand = es; wait = ws })
unfolding read_journal read_records
journal-back es ws h = rw (recorded-back (reverse_aux es ws) h, edits-back (reverse_aux es ws) h) (parted es ws)

pub lengths-reverse : (es ws : List (Authored Edit)) → lengths (reverse_aux es ws) ≡ lengths es + lengths ws
lengths-reverse [] ws = omega arith
lengths-reverse (e ∷ es) ws = lengths-reverse es (e ∷ ws) ∙ omega arith

-- what stands comes first, and then what waits
pub recorded-parts : (es ws : List (Authored Edit)) → recorded (reverse_aux es ws) ≡ recorded (reverse es) ++ recorded ws
recorded-parts es ws = ap recorded (reverse_aux-eq es ws) ∙ recorded-append (reverse es) ws

-- one more that stands
pub recorded_more : (e : Authored Edit) (es : List (Authored Edit)) → recorded (reverse (e ∷ es)) ≡ recorded (reverse es) ++ record_bytes (edit_record e)
recorded_more e es = recorded-parts es (e ∷ []) ∙ ap (λ (s : List ℕ). recorded (reverse es) ++ s) (recorded-one e)

-- ---- the oldest of those that stand

pub lengths-parted : (n : ℕ) (es : List (Authored Edit)) → lengths es ≡ lengths (take n es) + lengths (drop n es)
lengths-parted zero es = omega arith
lengths-parted (suc n) [] = refl
lengths-parted (suc n) (e ∷ es) = omega (arith, lengths-parted n es)

-- they come first, and then the others
pub order-parted : (n : ℕ) (es ws : List (Authored Edit)) → reverse_aux es ws ≡ reverse_aux (drop n es) (reverse_aux (take n es) ws)
order-parted zero es ws = refl
order-parted (suc n) [] ws = refl
order-parted (suc n) (e ∷ es) ws = order-parted n es (e ∷ ws)

-- those that stand come first, and then as many as are left of those that wait
pub order-take : (es ws : List (Authored Edit)) (m : ℕ) → take (length es + m) (reverse_aux es ws) ≡ reverse_aux es (take m ws)
order-take [] ws m = let z : 0 + m ≡ m = omega arith in rw z
order-take (e ∷ es) ws m = let z : suc (length es) + m ≡ length es + suc m = omega arith in rw z (order-take es (e ∷ ws) (suc m))

-- without the oldest
pub recorded-rest : (n : ℕ) (es ws : List (Authored Edit)) → drop (lengths (drop n es)) (recorded (reverse_aux es ws)) ≡ recorded (reverse_aux (take n es) ws)
recorded-rest n es ws =
    let old : List (Authored Edit) = drop n es in
    let others : List (Authored Edit) = reverse_aux (take n es) ws in
    let l : length (recorded (reverse old)) ≡ lengths old = recorded-length (reverse old) ∙ lengths-reverse old [] ∙ omega arith in
    ap (drop (lengths old)) (ap recorded (order-parted n es ws) ∙ recorded-parts old others) ∙ drop_at (recorded (reverse old)) (recorded others) (lengths old) l
