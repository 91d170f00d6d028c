-- Forgetting the oldest edits: what a later set or remove answers, and the room that is freed. Assumes nothing.
use Rattle.std.specs.Prelude.{Option, Some, None, Ok, Err}
use mathlib.Core.Path.{◌≡◌, refl, sym, ap, ◌∙◌}
use Prim.Native.Nat.{ℕ, ◌+◌, ◌-◌, ◌≤◌}
use native.Mathlib.Omega.{arith}
use mathlib.Core.Bool.{Bool, true, false, false≢true}
use mathlib.Core.List.{List, [], ◌∷◌, ◌++◌}
use lib.ListN.{length, take, drop}
use lib.Seq.{length-take-le, take-take, drop-append-le}
use lib.Dec.{eqb, leb}
use borrow.Author.Tests.{le-leb}
use Rattle.base.specs.Bounds.{file_most}
use Rattle.base.specs.Choice.{pick, maybe}
use Rattle.base.specs.Lists.{any, first}
use Rattle.base.proofs.Parts.{drop-take}
use Rattle.base.proofs.Tests.{no}
use Rattle.fault.specs.declared.Fault.{Fault}
use Rattle.fault.specs.declared.Fault.TheVariants.{TooLong, FirstGroup, RepeatedGroup, RepeatedKey, NoPlainKey, Damaged, NoRoom, JournalFull}
use Rattle.fault.specs.Table.{number_of}
use Rattle.fault.specs.Answer.{Answer, ◌>>=◌, need, unless}
use Rattle.fault.proofs.Answers.{bind-given}
use Rattle.fault.proofs.Refusals.{IfRefused, if-bind, if-need, if-test, if_none}
use Rattle.line.specs.declared.Line.{Line}
use Rattle.line.specs.declared.Line.TheVariants.{Blank, Comment, Header, Entry, Bad}
use Rattle.rows.specs.Rows.{Row, read_rows}
use Rattle.rows.specs.Title.{desktop_entry, Title, Group, title, same_title, seeing}
use Rattle.record.specs.Record.{record_bytes}
use Rattle.wellformed.specs.Check.{title_fault, row_fault, earliest, is_group, no_plain, titled_as, plain_all, check_as}
use Rattle.splice.specs.Edit.{Edit, spliced}
use Rattle.change.specs.Change.{Request, edit_of}
use Rattle.journal.specs.Journal.{Authored, by, edit_record, edit_length, lengths, Journal, oldest}
use Rattle.journal.specs.Lent as alone
use Rattle.journal.specs.Lent.{Lent, used_of, without}
use Rattle.journal.proofs.Numbers.{Bounds}
use Rattle.journal.proofs.Opened.{opened-says}
use Rattle.journal.proofs.Forgotten.{others, rest}
use Rattle.edit.specs.Calls.{State, content, journal_of, file_fits, record_fits, applied, request}
use Rattle.edit.proofs.Requested.{fits-record, requested, requested-used, done}
use Rattle.demands.specs.Demand3.{with_journal, told}
use Rattle.demands.specs.Forgetting.{AcceptedAfterForget, RefusedAfterForget, RoomAfterForget}
use Rattle.demands.proofs.ForgetLaws.{opened_with, with-given, ready, kept_in, left, left-some}

-- ---- where the edit was accepted

-- what a set or remove does where the file is ready
abbrev requesting : State → Authored Request → Answer State
requesting s q = edit_of (content s) q.what >>= λ e. applied s (by q.author e)

request-with : (s : State) (q : Authored Request) (j : Journal) → alone.opened (journal_of s) ≡ Ok j → request s q ≡ (ready s >>= λ _. requesting s q)
unfolding request
request-with s q j o = ap (λ (a : Answer Journal). a >>= λ _. requesting s q) (opened_with s j o) ∙ with-given (ready s) j (λ _. requesting s q)

-- an edit for which there is room
applied-is : (s : State) (e : Authored Edit) → file_fits (length s.file) (spliced e.what (content s)) ≡ true → record_fits (length s.journal) s.standing e ≡ true
    → applied s e ≡ Ok (requested s (content s) e)
unfolding applied
applied-is s e f r = rw (f, r)

-- the same record has more room
more_room : (s : State) (n : ℕ) (e : Authored Edit) (room : ℕ) → room ≡ length s.journal → record_fits (length s.journal) s.standing e ≡ true → n ≤ s.standing → record_fits room n e ≡ true
more_room s n e room r h l =
    let f = fits-record (length s.journal) s.standing e h in
    rw (le-leb (n + edit_length e) room (omega arith), le-leb (n + edit_length e) 65536 (omega arith))

-- the records of an edit without some bytes at the journal's front
module _ (s : State) (gone : ℕ) (f : List ℕ) (e : Authored Edit) (b : Bounds (journal_of s)) (g : gone ≤ s.standing) (r : s.standing + edit_length e ≤ length s.journal) where
  records-behind : used_of (journal_of (requested (with_journal s (without gone (journal_of s))) f e)) ≡ drop gone (used_of (journal_of (requested s f e)))
  records-behind =
      let n : ℕ = s.standing in
      let t : State = with_journal s (without gone (journal_of s)) in
      let w = rest (journal_of s) gone b.used-fits in
      let bytes : List ℕ = record_bytes (edit_record e) in
      let l = length-take-le n s.journal (omega (arith, b.used-fits, b.standing-fits)) in
      let x : take (n - gone) t.journal ≡ drop gone (take n s.journal) =
      sym (take-take (n - gone) (s.used - gone) t.journal (omega (arith, b.standing-fits)))
      ∙ ap (take (n - gone)) w.bytes
      ∙ sym (drop-take gone n (used_of (journal_of s)))
      ∙ ap (drop gone) (take-take n s.used s.journal b.standing-fits) in
      requested-used t f e (omega (arith, w.room))
      ∙ ap (λ (h : List ℕ). h ++ bytes) x
      ∙ sym (drop-append-le gone (take n s.journal) bytes (omega (arith, l)))
      ∙ ap (drop gone) (sym (requested-used s f e r))

pub accepted-after-forget : AcceptedAfterForget
unfolding AcceptedAfterForget
accepted-after-forget s t u k q e h =
    let o = left-some s t k e in
    let j : Journal = o.0 in
    let l = left s t k j o.1 e in
    let d = done s u q h in
    let m : Authored Edit = by q.author d.edit in
    let b = bind-given (ready s) (λ _. requesting s q) u (sym (request-with s q j o.1) ∙ h) in
    let v : State = requested (kept_in s k j) (content s) m in
    let gone : ℕ = lengths (oldest k j.stand) in
    let g = l.gone in
    let n₁ : gone ≡ s.standing - (s.standing - gone) = omega arith in
    let n : gone ≡ s.standing - t.standing = n₁ ∙ ap (λ (z : State). s.standing - z.standing) l.is in
    let f = more_room s (kept_in s k j).standing m (length (kept_in s k j).journal) l.room d.record-fits (omega arith) in
    let y : requesting (kept_in s k j) q ≡ Ok v = rw d.edits (applied-is (kept_in s k j) m d.file-fits f) in
    let w : v.standing + s.standing ≡ u.standing + (kept_in s k j).standing = omega (arith, ap (λ (z : State). z.standing) d.is) in (
      v,
      ap (λ (z : State). request z q) (sym l.is) ∙ request-with (kept_in s k j) q (others k j) l.after ∙ rw (b.1, y),
      ap (λ (z : State). z.file) d.is,
      ap (λ (z : State). z.size) d.is,
      w ∙ ap (λ (z : State). u.standing + z.standing) l.is,
      records-behind s gone (content s) m (opened-says (journal_of s) j o.1).bounds l.gone (fits-record (length s.journal) s.standing m d.record-fits).0
          ∙ ap (λ (n : ℕ). drop n (used_of (journal_of (requested s (content s) m)))) n
          ∙ ap (λ (z : State). drop (s.standing - t.standing) (used_of (journal_of z))) d.is,
    )

-- ---- where it was refused

-- the check does not refuse with 13
abbrev Not13 : Fault → Type 0
Not13 f = eqb (number_of f) 13 ≡ false

title-not13 : (leading : List ℕ) (seen : List Title) (t : Title) (line : ℕ) (again : Fault) → Not13 again → IfRefused Not13 (unless (title_fault leading seen t line again))
unfolding title_fault
title-not13 leading [] t line again p = go (same_title t (Group leading))
  where
    go : (b : Bool) → IfRefused Not13 (unless (pick b None (Some (FirstGroup line))))
    go true = tt
    go false = refl
title-not13 leading (s ∷ seen) t line again p = go (any (same_title t) (s ∷ seen))
  where
    go : (b : Bool) → IfRefused Not13 (unless (pick b (Some again) None))
    go true = p
    go false = tt

row-not13 : (leading : List ℕ) (seen : List Title) (t : Title) (line : ℕ) (l : Line) → IfRefused Not13 (unless (row_fault leading seen t line l))
row-not13 leading seen t line Blank = tt
row-not13 leading seen t line Comment = tt
row-not13 leading seen t line (Header e) = title-not13 leading seen t line (RepeatedGroup line) refl
row-not13 leading seen t line (Entry key name value) = title-not13 leading seen t line (RepeatedKey line) refl
row-not13 leading seen t line (Bad n) = refl

earliest-not13 : (leading : List ℕ) (seen : List Title) (rs : List Row) → IfRefused Not13 (unless (earliest leading seen rs))
unfolding earliest
earliest-not13 leading seen [] = tt
earliest-not13 leading seen (r ∷ rs) = go (row_fault leading seen (title r) r.line r.reading) (earliest leading (seeing (title r) seen) rs) (row-not13 leading seen (title r) r.line r.reading) (earliest-not13 leading (seeing (title r) seen) rs)
  where
    go : (o later : Option Fault) → IfRefused Not13 (unless o) → IfRefused Not13 (unless later) → IfRefused Not13 (unless (maybe o later Some))
    go None later p q = q
    go (Some f) later p q = p

ready-not13 : (s : State) → IfRefused Not13 (ready s)
unfolding check_as titled_as plain_all
ready-not13 s =
    let rs : List Row = read_rows (content s) in
    if-need Not13 (leb s.size (length s.file)) Damaged _ refl
    (λ _. if-need Not13 (leb (length (content s)) file_most) TooLong _ refl
    (λ _. if-bind Not13 (titled_as desktop_entry rs) _
    (if-bind Not13 (unless (earliest desktop_entry [] rs)) _ (earliest-not13 desktop_entry [] rs) (λ _. if-test Not13 (any (λ r. is_group (title r)) rs) (FirstGroup 0) refl))
    (λ _. if_none Not13 (first (no_plain rs) rs) (λ r. NoPlainKey r.line) (λ r. refl))))

-- another journal is asked only for its room
module _ (s : State) (u : Lent) (q : Authored Request) where
  abbrev t : State
  t = with_journal s u

  -- the refusals but 13 are the same
  requesting-so : (f : Fault) → requesting s q ≡ Err f → (f ≡ JournalFull → ⊥) → requesting t q ≡ Err f
  unfolding applied
  requesting-so f h n = by-edit (edit_of (content s) q.what) h
    where
      by-room : (x y : State) (a b c : Bool) → (need a NoRoom >>= λ _. need b JournalFull >>= λ _. Ok x) ≡ Err f → (need a NoRoom >>= λ _. need c JournalFull >>= λ _. Ok y) ≡ Err f
      by-room x y false b c e = e
      by-room x y true false c e = absurd (n (cc))
      by-room x y true true c e = no (cc)

      by-edit : (a : Answer Edit) → (a >>= λ e. applied s (by q.author e)) ≡ Err f → (a >>= λ e. applied t (by q.author e)) ≡ Err f
      by-edit (Err g) e = e
      by-edit (Ok d) e =
          by-room (requested s (content s) (by q.author d)) (requested t (content s) (by q.author d)) (file_fits (length s.file) (spliced d (content s)))
          (record_fits (length s.journal) s.standing (by q.author d)) (record_fits (length t.journal) t.standing (by q.author d)) e

  -- where the edit was refused with 13, the record's room alone decides
  requesting-room : (e : Edit) → edit_of (content s) q.what ≡ Ok e → requesting s q ≡ Err JournalFull
      → told (requesting t q) ≡ told (need (record_fits (length t.journal) t.standing (by q.author e)) JournalFull)
  unfolding applied
  requesting-room e i h =
      rw i
      (by-room (requested s (content s) (by q.author e)) (requested t (content s) (by q.author e)) (file_fits (length s.file) (spliced e (content s)))
      (record_fits (length s.journal) s.standing (by q.author e)) (record_fits (length t.journal) t.standing (by q.author e)) (rw i at h))
    where
      by-room : (x y : State) (a b c : Bool) → (need a NoRoom >>= λ _. need b JournalFull >>= λ _. Ok x) ≡ Err JournalFull
          → told (need a NoRoom >>= λ _. need c JournalFull >>= λ _. Ok y) ≡ told (need c JournalFull)
      by-room x y false b c e = no (cc)
      by-room x y true b true e = refl
      by-room x y true b false e = refl

pub refused-after-forget : RefusedAfterForget
unfolding RefusedAfterForget
refused-after-forget s t k q f e h n =
    let o = left-some s t k e in
    let j : Journal = o.0 in
    let l = left s t k j o.1 e in
    let a = request-with s q j o.1 in
    ap (λ (z : State). request z q) (sym l.is) ∙ request-with (kept_in s k j) q (others k j) l.after ∙ go (ready s) (sym a ∙ h) (requesting-so s (journal_of (kept_in s k j)) q f)
  where
    go : {x y : Answer State} (a : Answer (Unit {0})) → (a >>= λ _. x) ≡ Err f → (x ≡ Err f → (f ≡ JournalFull → ⊥) → y ≡ Err f) → (a >>= λ _. y) ≡ Err f
    go (Ok u) i next = next i n
    go (Err g) i next = i

pub room-after-forget : RoomAfterForget
unfolding RoomAfterForget
room-after-forget s t k q d e h i =
    let o = left-some s t k e in
    let j : Journal = o.0 in
    let l = left s t k j o.1 e in
    let a : (ready s >>= λ _. requesting s q) ≡ Err JournalFull = sym (request-with s q j o.1) ∙ h in
    let b = go (ready s) (ready-not13 s) a in
    let c : request (kept_in s k j) q ≡ requesting (kept_in s k j) q = request-with (kept_in s k j) q (others k j) l.after ∙ ap (λ (x : Answer (Unit {0})). x >>= λ _. requesting (kept_in s k j) q) b.0 in
    ap (λ (z : State). told (request z q)) (sym l.is)
    ∙ ap told c
    ∙ requesting-room s (journal_of (kept_in s k j)) q d i b.1
    ∙ ap (λ (n : ℕ). told (need (record_fits n (kept_in s k j).standing (by q.author d)) JournalFull)) l.room
    ∙ ap (λ (z : State). told (need (record_fits (length s.journal) z.standing (by q.author d)) JournalFull)) l.is
  where
    go : {x : Answer State} (a : Answer (Unit {0})) → IfRefused Not13 a → (a >>= λ _. x) ≡ Err JournalFull → (a ≡ Ok tt) × (x ≡ Err JournalFull)
    go (Ok u) p e = (refl, e)
    go (Err f) p e = let g : f ≡ JournalFull = cc in let z : true ≡ false = rw g at p in absurd (false≢true (sym z))
