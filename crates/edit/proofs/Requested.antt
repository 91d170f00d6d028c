-- What an accepted set or remove says, and that what it leaves is opened again. Assumes nothing.
use Rattle.std.specs.Prelude.{Ok}
use mathlib.Core.Path.{◌≡◌, sym, ap, ◌∙◌}
use Prim.Native.Nat.{ℕ, ◌+◌, ◌≤◌, ◌<◌}
use native.Mathlib.Omega.{arith}
use mathlib.Core.Bool.{true, ◌&&◌}
use mathlib.Core.List.{List, [], ◌∷◌, ◌++◌}
use lib.ListN.{length, take}
use lib.Seq.{take-take}
use lib.Dec.{leb}
use borrow.Author.Tests.{leb-true, le-leb}
use Rattle.base.specs.Bounds.{file_most, journal_most}
use Rattle.base.specs.Over.{over}
use Rattle.base.proofs.Over.{take-over, length_over}
use Rattle.base.proofs.Tests.{and_both}
use Rattle.fault.specs.declared.Fault.TheVariants.{NoRoom, JournalFull, Damaged}
use Rattle.fault.specs.Answer.{Answer, ◌>>=◌, need, accepted}
use Rattle.fault.proofs.Answers.{need-given, bind-given, given_is}
use Rattle.record.specs.Record.{record_bytes}
use Rattle.rows.specs.Title.{desktop_entry}
use Rattle.wellformed.specs.Check.{check}
use Rattle.wellformed.specs.WellFormed.{well_formed, CheckAccepts}
use Rattle.wellformed.proofs.Accepts.{check-accepts, checks}
use Rattle.wellformed.proofs.ByLines.{well-lines}
use Rattle.splice.specs.Edit.{Edit, spliced, buffer_with}
use Rattle.splice.proofs.Splits.{splits-length, buffer-content, buffer-length}
use Rattle.change.specs.Change.{Request, edit_of}
use Rattle.change.proofs.Accepted.{edit-splits}
use Rattle.change.proofs.Kept.{edit-keeps}
use Rattle.journal.specs.Journal.{Authored, by, person_of, Journal, edit_record, edit_length}
use Rattle.journal.specs.Lent.{used_of, numbers_fit, journal_in}
use Rattle.journal.specs.Lent as alone
use Rattle.journal.proofs.Opened.{opened-says, opened-by}
use Rattle.journal.proofs.Joined.{journal-more}
use Rattle.journal.proofs.Records.{Small, edit-length}
use Rattle.edit.specs.Calls.{State, content, journal_of, lengths_fit, opened, file_checked, file_fits, record_fits, applied, request}

-- ---- what an accepted call says

pub fits-most : (room : ℕ) (f : List ℕ) → file_fits room f ≡ true → leb (length f) file_most ≡ true
fits-most room f h = (and_both (leb (length f) room) (leb (length f) file_most) h).1

-- what the two tests of room say
pub fits-room : (room : ℕ) (f : List ℕ) → file_fits room f ≡ true → length f ≤ room
fits-room room f h = leb-true (length f) room (and_both (leb (length f) room) (leb (length f) file_most) h).0

pub fits-record : (room n : ℕ) (e : Authored Edit) → record_fits room n e ≡ true → (n + edit_length e ≤ room) × (n + edit_length e ≤ 65536)
fits-record room n e h =
    let p = and_both (leb (n + edit_length e) room) (leb (n + edit_length e) journal_most) h in
    (leb-true (n + edit_length e) room p.0, leb-true (n + edit_length e) journal_most p.1)

-- what is lent after a request that makes this edit of a file
abbrev pub requested : State → List ℕ → Authored Edit → State
requested s f e =
    record {
      file = buffer_with s.file s.size (spliced e.what f);
      size = length (spliced e.what f);
      journal = over s.journal s.standing (record_bytes (edit_record e));
      used = s.standing + edit_length e;
      standing = s.standing + edit_length e;
    }

-- its record stands behind those that stood
pub requested-used : (s : State) (f : List ℕ) (e : Authored Edit) → s.standing + edit_length e ≤ length s.journal
    → used_of (journal_of (requested s f e)) ≡ take s.standing s.journal ++ record_bytes (edit_record e)
requested-used s f e h =
    let bytes : List ℕ = record_bytes (edit_record e) in
    ap (λ (n : ℕ). take (s.standing + n) (over s.journal s.standing bytes)) (sym (edit-length e)) ∙ take-over s.journal s.standing bytes (omega (arith, edit-length e))

-- the file was well formed, the edit is the request's, there was room for both, and what is left is what the request makes
pub record Done (s t : State) (q : Authored Request) : Type 0 where
  pub edit : Edit
  pub edits : edit_of (content s) q.what ≡ Ok edit
  pub well : well_formed (content s) ≡ true
  pub file-fits : file_fits (length s.file) (spliced edit (content s)) ≡ true
  pub record-fits : record_fits (length s.journal) s.standing (by q.author edit) ≡ true
  pub is : requested s (content s) (by q.author edit) ≡ t

pub opened-well : (s : State) (j : Journal) → opened s ≡ Ok j → well_formed (content s) ≡ true
unfolding opened file_checked CheckAccepts
opened-well s j e =
    let a = bind-given (file_checked s) (λ _. journal_in (journal_of s)) j e in
    let b = need-given (lengths_fit s) Damaged (λ _. check (content s)) a.0 a.1 in
    sym (check-accepts desktop_entry (content s)) ∙ ap accepted b.1

pub done : (s t : State) (q : Authored Request) → request s q ≡ Ok t → Done s t q
unfolding request applied
done s t q h =
    let f : List ℕ = content s in
    let made : Edit → Authored Edit = λ e. by q.author e in
    let last : Edit → Answer State = λ e. need (record_fits (length s.journal) s.standing (made e)) JournalFull >>= λ _. Ok (requested s f (made e)) in
    let rest : Edit → Answer State = λ e. need (file_fits (length s.file) (spliced e f)) NoRoom >>= λ _. last e in
    let a = bind-given (opened s) (λ _. edit_of f q.what >>= rest) t h in
    let b = bind-given (edit_of f q.what) rest t a.2 in
    let e : Edit = b.0 in
    let c = need-given (file_fits (length s.file) (spliced e f)) NoRoom (λ _. last e) t b.2 in
    let d = need-given (record_fits (length s.journal) s.standing (made e)) JournalFull (λ _. Ok (requested s f (made e))) t c.1 in
    record {
      edit = e;
      edits = b.1;
      well = opened-well s a.0 a.1;
      file-fits = c.0;
      record-fits = d.0;
      is = given_is (requested s f (made e)) t d.1;
    }

-- the file is left after the edit, and is not too long
pub done-left : {s t : State} {q : Authored Request} (d : Done s t q) → content t ≡ spliced d.edit (content s)
done-left {s} d = ap content (sym d.is) ∙ buffer-content s.file s.size (spliced d.edit (content s))

pub most : {s t : State} {q : Authored Request} (d : Done s t q) → leb (length (spliced d.edit (content s))) file_most ≡ true
most {s} d = fits-most (length s.file) (spliced d.edit (content s)) d.file-fits

-- ---- what it leaves is opened again

-- what is lent is opened by its file and its journal
pub record Both (s : State) (j : Journal) : Type 0 where
  pub size_fits : s.size ≤ length s.file
  pub well : well_formed (content s) ≡ true
  pub journal-opened : alone.opened (journal_of s) ≡ Ok j

pub opened_both : (s : State) (j : Journal) → opened s ≡ Ok j → Both s j
unfolding opened file_checked lengths_fit alone.opened
opened_both s j h =
    let a = bind-given (file_checked s) (λ _. alone.journal_in (journal_of s)) j h in
    let b = need-given (leb s.size (length s.file) && numbers_fit (journal_of s)) Damaged (λ _. check (content s)) a.0 a.1 in
    let l = and_both (leb s.size (length s.file)) (numbers_fit (journal_of s)) b.0 in
    record { size_fits = leb-true _ _ l.0; well = opened-well s j h; journal-opened = rw l.1 a.2 }

both-opened : (s : State) (j : Journal) → Both s j → opened s ≡ Ok j
unfolding opened file_checked lengths_fit alone.opened
both-opened s j w =
    let a = need-given (numbers_fit (journal_of s)) Damaged (λ _. alone.journal_in (journal_of s)) j w.journal-opened in
    rw (le-leb s.size (length s.file) w.size_fits, a.0, checks (content s) w.well) a.1

-- an accepted set or remove stands, by its author, behind those that stood, and none waits
pub request-stands : (s t : State) (q : Authored Request) (j : Journal) → person_of q.author < 65536 → opened s ≡ Ok j → request s q ≡ Ok t
    → (e : Edit) × (opened t ≡ Ok (record { stand = by q.author e ∷ j.stand; wait = [] }))
request-stands s t q j p h e =
    let d = done s t q e in
    let f : List ℕ = content s in
    let m : Authored Edit = by q.author d.edit in
    let w = opened_both s j h in
    let o = opened-says (journal_of s) j w.journal-opened in
    let n = o.bounds in
    let r = fits-record (length s.journal) s.standing m d.record-fits in
    let c = splits-length d.edit f (edit-splits f q.what d.edit d.edits) in
    let g = (well-lines desktop_entry f d.well).0 in
    let bytes : List ℕ = record_bytes (edit_record m) in
    let l : length bytes ≡ edit_length m = edit-length m in
    let x : take (s.standing + edit_length m) (over s.journal s.standing bytes) ≡ take s.standing (take s.used s.journal) ++ bytes =
    requested-used s f m r.0 ∙ ap (λ (x : List ℕ). x ++ bytes) (sym (take-take s.standing s.used s.journal n.standing-fits)) in
    let small : Small m = record { person-small = p; place-small = omega (arith, leb-true (length f) file_most g); length-small = omega arith } in
    let y = journal-more (take s.used s.journal) s.standing j m o.reads small in
    let b : length (over s.journal s.standing bytes) ≡ length s.journal = length_over s.journal s.standing bytes (omega arith) in
    let v : State = requested s f m in
    let room = fits-room (length s.file) (spliced d.edit f) d.file-fits in
    let z : length v.file ≡ length s.file = buffer-length s.file s.size (spliced d.edit f) w.size_fits room in (
      d.edit,
      ap opened (sym d.is)
          ∙ both-opened v (record { stand = m ∷ j.stand; wait = [] }) (record {
            size_fits = omega arith;
            well = ap well_formed (buffer-content s.file s.size (spliced d.edit f)) ∙ edit-keeps desktop_entry f q.what d.edit d.well d.edits (most d);
            journal-opened = opened-by (journal_of v) (record { stand = m ∷ j.stand; wait = [] }) (record { bounds = record { used-fits = omega arith; used-bound = omega arith; standing-fits = omega arith }; reads = rw x y });
          }),
    )
