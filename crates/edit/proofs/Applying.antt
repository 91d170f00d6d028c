-- An edit written to the journal and made in the file. Assumes nothing.
use Rattle.std.specs.Prelude.{Ok, Err}
use mathlib.Core.Path.{◌≡◌, refl, sym, ap, ◌∙◌}
use mathlib.Core.Bool.{Bool, true, false, ◌&&◌}
use mathlib.Core.List.{List, ◌++◌}
use Prim.Native.Nat.{ℕ, ◌+◌, ◌-◌, ◌≤◌, ◌<◌}
use native.Mathlib.Omega.{arith}
use lib.ListN.{length, take, drop, length-append, length-drop}
use lib.Dec.{leb}
use borrow.Author.Tests.{le-leb, lt-leb}
use lib.Seq.{length-take-le, take_at, drop_at, take-take}
use Rattle.base.specs.Lists.{part}
use Rattle.base.specs.Over.{over}
use Rattle.base.proofs.Parts.{drop-take}
use Rattle.base.proofs.Over.{over-then, length_over}
use Rattle.record.specs.Record.{record_bytes}
use Rattle.record.proofs.Numbers.{length-number}
use Rattle.record.proofs.Sizes.{length-head}
use Rattle.fault.specs.declared.Fault.{Fault}
use Rattle.fault.specs.declared.Fault.TheVariants.{NoRoom, JournalFull}
use Rattle.fault.specs.Answer.{Answer, ◌>>=◌, need, then, at_exit}
use Rattle.base.proofs.Tests.{no}
use Rattle.splice.specs.Edit.{Edit, replaced, spliced, buffer_with}
use Rattle.journal.specs.Journal.{Author, Authored, by, front_length, Journal, edit_record, edit_length}
use Rattle.journal.specs.Walk.{edit_front}
use Rattle.journal.proofs.Records.{front_length_lem}
use Rattle.journal.proofs.Front.{record-front}
use Rattle.change.specs.Change.{Request, edit_of}
use Rattle.change.specs.Target.{new_bytes, edit_by}
use Rattle.change.specs.declared.Target.{Target}
use Rattle.change.specs.declared.Target.TheVariants.{Value, Entry, Line as Gone}
use Rattle.edit.specs.Calls.{State, content, opened, file_fits, record_fits, applied, request, lent, Made, numbers_of}
use Rattle.edit.specs.Step.{passed}
use Rattle.edit.specs.declared.Edited.{Edited}

-- ---- the record

length_front : (author : Author) (place : ℕ) (old : List ℕ) (n : ℕ) → length (edit_front author place old n) ≡ front_length author + length old
unfolding edit_front
length_front author place old n = simp (length-append, length-head, length-number) (omega (arith, front_length_lem author))

-- what was written at a place stands there
part-over : (s : List ℕ) (at : ℕ) (x : List ℕ) → at + length x ≤ length s → part at (at + length x) (over s at x) ≡ x
part-over s at x h =
    let f : length (take at s) ≡ at = length-take-le at s (omega arith) in
    let k : at + length x - at ≡ length x = omega arith in
    rw (drop_at (take at s) (x ++ drop (at + length x) s) at f, k) (take_at x (drop (at + length x) s) (length x) refl)

-- the front of a record and then its new bytes
module _ (j : List ℕ) (standing : ℕ) (author : Author) (e : Edit) (n : ℕ) (q : n ≡ length e.new) (h : standing + (front_length author + length e.old + n) ≤ length j) {j₁ j₂ : List ℕ} {from : ℕ}
    (a : j₁ ≡ over j standing (edit_front author e.place e.old n)) (f : from ≡ standing + front_length author + length e.old) (b : j₂ ≡ over j₁ from e.new) where
  pub record-written : j₂ ≡ over j standing (record_bytes (edit_record (by author e)))
  record-written =
      let l = length_front author e.place e.old n in
      b ∙ ap (λ (x : List ℕ). over x from e.new) a ∙ over-then j standing (edit_front author e.place e.old n) e.new {n = from} (omega arith) (omega arith)
      ∙ rw (q, ← record-front (by author e))

  pub new-written : part from (from + length e.new) j₂ ≡ e.new
  new-written =
      let l = length_front author e.place e.old n in
      let m : length j₁ ≡ length j = ap length a ∙ length_over j standing (edit_front author e.place e.old n) (omega arith) in
      rw b (part-over j₁ from e.new (omega arith))

-- a part inside the front of a list
pub part-take : (from to n : ℕ) (s : List ℕ) → to ≤ n → part from to (take n s) ≡ part from to s
part-take from to n s h = rw (drop-take from n s) (take-take (to - from) (n - from) (drop from s) (omega arith))

-- ---- room

-- the length of the file after the edit
pub length-spliced : (e : Edit) (f : List ℕ) → e.place + length e.old ≤ length f → length (spliced e f) ≡ length f - length e.old + length e.new
unfolding spliced replaced
length-spliced e f h = simp (length-append, length-drop) (omega (arith, length-take-le e.place f (omega arith)))

-- a length over one of two bounds fits not
over-either : (n a b : ℕ) → b < n → (leb n a && leb n b) ≡ false
over-either n a b h = rw (lt-leb n b h) (go (leb n a))
  where
    go : (t : Bool) → (t && false) ≡ false
    go true = refl
    go false = refl

over_first : (n a b : ℕ) → a < n → (leb n a && leb n b) ≡ false
over_first n a b h = rw (lt-leb n a h)

fits_both : (n a b : ℕ) → n ≤ a → n ≤ b → (leb n a && leb n b) ≡ true
fits_both n a b h k = rw (le-leb n a h, le-leb n b k)

module _ (s : State) (e : Authored Edit) where
  no_room : file_fits (length s.file) (spliced e.what (content s)) ≡ false → applied s e ≡ Err NoRoom
  unfolding applied
  no_room f = rw f

  no_record : file_fits (length s.file) (spliced e.what (content s)) ≡ true → record_fits (length s.journal) s.standing e ≡ false → applied s e ≡ Err JournalFull
  unfolding applied
  no_record f g = rw (f, g)

  made : file_fits (length s.file) (spliced e.what (content s)) ≡ true → record_fits (length s.journal) s.standing e ≡ true
      → applied s e ≡ Ok (record {
        file = buffer_with s.file s.size (spliced e.what (content s));
        size = length (spliced e.what (content s));
        journal = over s.journal s.standing (record_bytes (edit_record e));
        used = s.standing + edit_length e;
        standing = s.standing + edit_length e;
      })
  unfolding applied
  made f g = rw (f, g)

  -- a refusal changes nothing
  refused-made : {f : Fault} → applied s e ≡ Err f → Made s (applied s e) (Err f) s.file s.journal
  refused-made q = record { answer = rw q; file_is = rw q; journal_is = rw q }

  module _ (h : e.what.place + length e.what.old ≤ length (content s)) where
    pub file-full : length s.file < length (content s) - length e.what.old + length e.what.new → Made s (applied s e) (Err NoRoom) s.file s.journal
    file-full k = refused-made (no_room (over_first (length (spliced e.what (content s))) (length s.file) 32768 (rw (length-spliced e.what (content s) h) k)))

    pub file-most : 32768 < length (content s) - length e.what.old + length e.what.new → Made s (applied s e) (Err NoRoom) s.file s.journal
    file-most k = refused-made (no_room (over-either (length (spliced e.what (content s))) (length s.file) 32768 (rw (length-spliced e.what (content s) h) k)))

    module _ (a : length (content s) - length e.what.old + length e.what.new ≤ length s.file) (b : length (content s) - length e.what.old + length e.what.new ≤ 32768) where
      fits : file_fits (length s.file) (spliced e.what (content s)) ≡ true
      fits = let l = length-spliced e.what (content s) h in fits_both (length (spliced e.what (content s))) (length s.file) 32768 (omega arith) (omega arith)

      pub journal-full : length s.journal < s.standing + edit_length e → Made s (applied s e) (Err JournalFull) s.file s.journal
      journal-full k = refused-made (no_record fits (over_first (s.standing + edit_length e) (length s.journal) 65536 k))

      pub journal-most : 65536 < s.standing + edit_length e → Made s (applied s e) (Err JournalFull) s.file s.journal
      journal-most k = refused-made (no_record fits (over-either (s.standing + edit_length e) (length s.journal) 65536 k))

      pub all_made : s.standing + edit_length e ≤ length s.journal → s.standing + edit_length e ≤ 65536
          → {n m : ℕ} {file journal : List ℕ} → n ≡ length (spliced e.what (content s)) → m ≡ s.standing + edit_length e
          → file ≡ buffer_with s.file s.size (spliced e.what (content s)) → journal ≡ over s.journal s.standing (record_bytes (edit_record e))
          → Made s (applied s e) (Ok (record { size = n; used = m; standing = m })) file journal
      all_made c d {n} {m} {file} {journal} u v x y =
          let q = made fits (fits_both (s.standing + edit_length e) (length s.journal) 65536 c d) in
          record { answer = rw (q, u, v); file_is = rw q x; journal_is = rw q y }

-- ---- a target's edit

module _ (f key text : List ℕ) {t : Target} where
  pub value-edit : {from to : ℕ} → t ≡ Value from to → from ≤ to
      → record { place = from; old = part from (from + (to - from)) f; new = new_bytes key text (Value from to) } ≡ edit_by f key text t
  value-edit {from} {to} q h = let k : from + (to - from) ≡ to = omega arith in rw (q, k)

  pub line-edit : {from to : ℕ} → t ≡ Gone from to → from ≤ to
      → record { place = from; old = part from (from + (to - from)) f; new = new_bytes key text (Gone from to) } ≡ edit_by f key text t
  line-edit {from} {to} q h = let k : from + (to - from) ≡ to = omega arith in rw (q, k)

  pub entry-edit : {at : ℕ} {after : Bool} → t ≡ Entry at after
      → record { place = at; old = part at (at + 0) f; new = new_bytes key text (Entry at after) } ≡ edit_by f key text t
  entry-edit {at} q = let k : at + 0 - at ≡ 0 = omega arith in rw (q, k)

-- ---- a request

-- the edit of an author applied, or its refusal
abbrev applied_by : State → Author → Answer Edit → Answer State
applied_by s author a = a >>= λ e. applied s (by author e)

-- the bytes used before do not matter to what is told and left
used-free : (s : State) (u : ℕ) (author : Author) (a : Answer Edit) {r : Answer Edited} {file journal : List ℕ}
    → Made (record { file = s.file; size = s.size; journal = s.journal; used = u; standing = s.standing })
    (applied_by (record { file = s.file; size = s.size; journal = s.journal; used = u; standing = s.standing }) author a) r file journal
    → Made s (applied_by s author a) r file journal
unfolding applied
used-free s u author (Err f) m = record { answer = m.answer; file_is = m.file_is; journal_is = m.journal_is }
used-free s u author (Ok e) {r} {file} {journal} m = go (file_fits (length s.file) (spliced e (content s))) (record_fits (length s.journal) s.standing (by author e)) m
  where
    t : State
    t = record { file = s.file; size = s.size; journal = s.journal; used = u; standing = s.standing }

    done : State
    done = record {
      file = buffer_with s.file s.size (spliced e (content s));
      size = length (spliced e (content s));
      journal = over s.journal s.standing (record_bytes (edit_record (by author e)));
      used = s.standing + edit_length (by author e);
      standing = s.standing + edit_length (by author e);
    }

    go : (x y : Bool) → Made t (need x NoRoom >>= λ _. (need y JournalFull >>= λ _. Ok done)) r file journal
        → Made s (need x NoRoom >>= λ _. (need y JournalFull >>= λ _. Ok done)) r file journal
    go true true m = record { answer = m.answer; file_is = m.file_is; journal_is = m.journal_is }
    go true false m = record { answer = m.answer; file_is = m.file_is; journal_is = m.journal_is }
    go false y m = record { answer = m.answer; file_is = m.file_is; journal_is = m.journal_is }

module _ (s : State) (q : Authored Request) where
  -- not opened: the same refusal, and nothing changes
  pub not_opened : {f : Fault} → Err f ≡ passed (opened s) → Made s (request s q) (Err f) s.file s.journal
  unfolding request
  not_opened {f} e = go (opened s) e
    where
      go : (o : Answer Journal) → Err f ≡ passed o → Made s (o >>= λ _. applied_by s q.author (edit_of (content s) q.what)) (Err f) s.file s.journal
      go (Ok j) h = no (cc)
      go (Err g) h = let w : f ≡ g = cc in rw w (record { answer = refl; file_is = refl; journal_is = refl })

  -- opened: the request is the edit's
  pub was-opened : Ok tt ≡ passed (opened s) → {r : Answer Edited} {file journal : List ℕ}
      → Made (lent s.file s.size s.journal 0 s.standing) (applied_by (lent s.file s.size s.journal 0 s.standing) q.author (edit_of (content s) q.what)) r file journal
      → Made s (request s q) r file journal
  unfolding request
  was-opened e {r} {file} {journal} m = go (opened s) e
    where
      go : (o : Answer Journal) → Ok tt ≡ passed o → Made s (o >>= λ _. applied_by s q.author (edit_of (content s) q.what)) r file journal
      go (Ok j) h = used-free s 0 q.author (edit_of (content s) q.what) m
      go (Err g) h = no (cc)

-- ---- what a call that was made says of its answer

module _ {s : State} {a : Answer State} {file journal : List ℕ} where
  pub made-done : {n : Edited} → Made s a (Ok n) file journal → a ≡ Ok (lent file n.size journal n.used n.standing)
  made-done {n} m = go a m.answer m.file_is m.journal_is
    where
      go : (a : Answer State) → Ok n ≡ then numbers_of a → file ≡ (at_exit s a).file → journal ≡ (at_exit s a).journal
          → a ≡ Ok (lent file n.size journal n.used n.standing)
      go (Err f) h f-is j-is = no (cc)
      go (Ok t) h f-is j-is =
          let e : numbers_of t ≡ n = cc in
          λ i. Ok (record { file = sym f-is i; size = (e i).size; journal = sym j-is i; used = (e i).used; standing = (e i).standing })

  pub made-refused : {f : Fault} → Made s a (Err f) file journal → (a ≡ Err f) × (file ≡ s.file) × (journal ≡ s.journal)
  made-refused {f} m = go a m.answer m.file_is m.journal_is
    where
      go : (a : Answer State) → Err f ≡ then numbers_of a → file ≡ (at_exit s a).file → journal ≡ (at_exit s a).journal → (a ≡ Err f) × (file ≡ s.file) × (journal ≡ s.journal)
      go (Ok t) h f-is j-is = no (cc)
      go (Err g) h f-is j-is = (ap Err (cc), f-is, j-is)
