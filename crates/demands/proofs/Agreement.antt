-- Demand 3: whatever the calls, the buffers tell what the book tells. Assumes nothing.
use Rattle.std.specs.Prelude.{Ok, Err}
use mathlib.Core.Path.{◌≡◌, refl, sym, ap, ◌∙◌}
use Prim.Native.Nat.{ℕ, zero, suc, ◌+◌, ◌-◌, ◌≤◌, ◌<◌}
use native.Mathlib.Omega.{arith}
use mathlib.Core.Bool.{Bool, true, false}
use mathlib.Core.List.{List, [], ◌∷◌, ◌++◌, reverse, reverse_aux}
use lib.ListN.{length, take, drop, length-append}
use lib.Seq.{take_at, take-append_seam, take-take}
use lib.Dec.{leb}
use borrow.Author.Tests.{le-leb, leb-true}
use Rattle.base.specs.Bounds.{file_most}
use Rattle.base.specs.Lists.{all, joined}
use Rattle.base.specs.Over.{over}
use Rattle.base.proofs.Over.{length_over}
use Rattle.base.proofs.Tests.{and_both}
use Rattle.fault.specs.declared.Fault.TheVariants.{NoRoom, NothingLeft, JournalFull}
use Rattle.fault.specs.Answer.{Answer, then, at_exit}
use Rattle.record.specs.Record.{record_bytes, list_bytes}
use Rattle.rows.specs.Title.{desktop_entry}
use Rattle.wellformed.specs.WellFormed.{well_formed}
use Rattle.wellformed.proofs.Accepts.{checks}
use Rattle.wellformed.proofs.ByLines.{well-lines}
use Rattle.splice.specs.Edit.{Edit, spliced, turned, stands, buffer_with}
use Rattle.splice.proofs.Splits.{splits-length, buffer-content, buffer-length}
use Rattle.change.specs.Change.{Request, edit_of}
use Rattle.change.proofs.Accepted.{edit-splits, edit-stands, edit-undone, edit-undo-stands}
use Rattle.change.proofs.Kept.{edit-keeps}
use Rattle.journal.specs.Journal.{Authored, by, person_of, edit_record, edit_length, lengths, oldest, newer}
use Rattle.journal.specs.Lent.{numbers_fit, journal_in, without, forget}
use Rattle.journal.specs.Lent as alone
use Rattle.journal.proofs.Numbers.{bounds-fit}
use Rattle.journal.proofs.Records.{Small, edit-length, AllSmall, recorded, recorded-length, journal-back, lengths-reverse, recorded-parts, recorded_more, small-reverse, lengths-parted, recorded-rest}
use Rattle.journal.proofs.Forgotten.{rest}
use Rattle.edit.specs.Calls.{State, content, journal_of, lengths_fit, file_checked, opened, file_fits, record_fits, applied, request, replayed_in, with_file, replayed, undo, redo}
use Rattle.edit.proofs.Requested.{fits-most, fits-room, fits-record, requested, requested-used}
use Rattle.demands.specs.Book.{Call, Do, Undo, Redo, Forget, Book, file_after, records_after, book_file, book_standing, with_lists, book_request, without_oldest, book_forget, book_call}
use Rattle.demands.specs.Demand3.{with_journal, state_call, person_fits, told, told_over, left_by, start_state, start_book, AsInTheBook, Demand3}

-- ---- what the book's lists stand for

-- a request that could be met where it was made, and its edit
pub record Fine (room : ℕ) (f : List ℕ) (q : Authored Request) (e : Authored Edit) : Type 0 where
  pub asked : edit_of f q.what ≡ Ok e.what
  pub same-author : q.author ≡ e.author
  pub small : Small e
  pub fits-before : file_fits room f ≡ true
  pub fits_after : file_fits room (spliced e.what f) ≡ true
  pub well-before : well_formed f ≡ true
  pub well-after : well_formed (spliced e.what f) ≡ true

-- the edits of requests that stand, the latest first
abbrev pub Past : ℕ → List ℕ → List (Authored Request) → List (Authored Edit) → Type 0
Past room t [] [] = Unit
Past room t [] (e ∷ es) = ⊥
Past room t (q ∷ qs) [] = ⊥
Past room t (q ∷ qs) (e ∷ es) = Fine room (file_after t qs) q e × Past room t qs es

-- the edits of requests that wait, the next first
abbrev pub Next : ℕ → List ℕ → List (Authored Request) → List (Authored Edit) → Type 0
Next room f [] [] = Unit
Next room f [] (e ∷ es) = ⊥
Next room f (q ∷ qs) [] = ⊥
Next room f (q ∷ qs) (e ∷ es) = Fine room f q e × Next room (spliced e.what f) qs es

after_is : (t : List ℕ) (q : Authored Request) (qs : List (Authored Request)) (e : Edit) → edit_of (file_after t qs) q.what ≡ Ok e → file_after t (q ∷ qs) ≡ spliced e (file_after t qs)
unfolding file_after
after_is t q qs e h = let f : List ℕ = file_after t qs in ap (λ (a : Answer Edit). at_exit f (then (λ d. spliced d f) a)) h

past-lengths : (room : ℕ) (t : List ℕ) (qs : List (Authored Request)) (es : List (Authored Edit)) → Past room t qs es → records_after t qs ≡ lengths es
unfolding records_after
past-lengths room t [] [] h = refl
past-lengths room t [] (e ∷ es) h = absurd h
past-lengths room t (q ∷ qs) [] h = absurd h
past-lengths room t (q ∷ qs) (e ∷ es) h = rw (h.0.asked, h.0.same-author, past-lengths room t qs es h.1)

past-small : (room : ℕ) (t : List ℕ) (qs : List (Authored Request)) (es : List (Authored Edit)) → Past room t qs es → AllSmall es
past-small room t [] [] h = tt
past-small room t [] (e ∷ es) h = absurd h
past-small room t (q ∷ qs) [] h = absurd h
past-small room t (q ∷ qs) (e ∷ es) h = (h.0.small, past-small room t qs es h.1)

next_small : (room : ℕ) (f : List ℕ) (qs : List (Authored Request)) (es : List (Authored Edit)) → Next room f qs es → AllSmall es
next_small room f [] [] h = tt
next_small room f [] (e ∷ es) h = absurd h
next_small room f (q ∷ qs) [] h = absurd h
next_small room f (q ∷ qs) (e ∷ es) h = (h.0.small, next_small room (spliced e.what f) qs es h.1)

-- the buffers stand for the book
pub record Rep (s : State) (b : Book) : Type 0 where
  pub es : List (Authored Edit)
  pub ws : List (Authored Edit)
  pub text : content s ≡ book_file b
  pub room : length s.file ≡ b.file_room
  pub size : s.size ≤ length s.file
  pub journal-room : length s.journal ≡ b.journal_room
  pub bytes : take s.used s.journal ≡ recorded (reverse_aux es ws)
  pub standing : s.standing ≡ lengths es
  pub used : s.used ≡ lengths es + lengths ws
  pub inside : s.used ≤ length s.journal
  pub most : s.used ≤ 65536
  pub stood : Past b.file_room b.start b.standing es
  pub waits : Next b.file_room (book_file b) b.waiting ws
  pub fits : file_fits b.file_room (book_file b) ≡ true
  pub well : well_formed (book_file b) ≡ true

-- the journal tells the edits of the book's requests
module _ (s : State) (b : Book) (h : Rep s b) where
  numbers_fit_lem : numbers_fit (journal_of s) ≡ true
  numbers_fit_lem = bounds-fit (journal_of s) (record { used-fits = h.inside; used-bound = h.most; standing-fits = omega (arith, h.standing, h.used) })

  pub small : AllSmall (reverse_aux h.es h.ws)
  small = small-reverse h.es h.ws (past-small b.file_room b.start b.standing h.es h.stood) (next_small b.file_room (book_file b) b.waiting h.ws h.waits)

  journal_is : journal_in (journal_of s) ≡ Ok (record { stand = h.es; wait = h.ws })
  journal_is = rw (h.bytes, h.standing, journal-back h.es h.ws small)

  pub opens : opened s ≡ Ok (record { stand = h.es; wait = h.ws })
  unfolding opened file_checked lengths_fit
  opens = rw (le-leb s.size (length s.file) h.size, numbers_fit_lem, h.text, checks (book_file b) h.well, journal_is)

  pub opens-journal : alone.opened (journal_of s) ≡ Ok (record { stand = h.es; wait = h.ws })
  unfolding alone.opened
  opens-journal = rw (numbers_fit_lem, journal_is)

-- ---- one call

pub record Step (s : State) (b : Book) (c : Call) : Type 0 where
  pub tells : told (state_call s c) ≡ told (book_call b c)
  pub rep : Rep (at_exit s (state_call s c)) (at_exit b (book_call b c))

step_by : (s : State) (b : Book) (c : Call) (x : Answer State) (y : Answer Book) → state_call s c ≡ x → book_call b c ≡ y → told x ≡ told y → Rep (at_exit s x) (at_exit b y) → Step s b c
step_by s b c x y e f t r = record { tells = ap told e ∙ t ∙ ap told (sym f); rep = rw (e, f) r }

-- a file put into the buffer
abbrev moved : State → List ℕ → ℕ → State
moved s f n = with_file s n f

-- an edit from the journal
replay : (s : State) (e : Edit) (n : ℕ) (f g : List ℕ) → content s ≡ f → stands e f ≡ true → spliced e f ≡ g → file_fits (length s.file) g ≡ true → well_formed g ≡ true
    → replayed s e n ≡ Ok (moved s g n)
unfolding replayed replayed_in
replay s e n f g t u v w x = rw (t, u, v, w, x)

module _ (s : State) (b : Book) (h : Rep s b) where
  -- where the file's buffer is after a call that moved it
  moved-room : (f : List ℕ) → file_fits b.file_room f ≡ true → length (buffer_with s.file s.size f) ≡ length s.file
  moved-room f k = buffer-length s.file s.size f h.size (rw h.room (fits-room b.file_room f k))

  rep-moved : (qs vs : List (Authored Request)) (es ws : List (Authored Edit)) (f : List ℕ) (n : ℕ) → reverse_aux es ws ≡ reverse_aux h.es h.ws → n ≡ lengths es → f ≡ file_after b.start qs
      → file_fits b.file_room f ≡ true → well_formed f ≡ true
      → Past b.file_room b.start qs es → Next b.file_room f vs ws → Rep (moved s f n) (with_lists b qs vs)
  rep-moved qs vs es ws f n r l t k w p x =
      let z = moved-room f k in
      let a = ap lengths r in
      let a₁ = lengths-reverse es ws in
      let a₂ = lengths-reverse h.es h.ws in
      record {
        es = es;
        ws = ws;
        text = buffer-content s.file s.size f ∙ t;
        room = z ∙ h.room;
        size = rw z (rw h.room (fits-room b.file_room f k));
        journal-room = h.journal-room;
        bytes = h.bytes ∙ ap recorded (sym r);
        standing = l;
        used = omega (arith, h.used, a, a₁, a₂);
        inside = h.inside;
        most = h.most;
        stood = p;
        waits = rw (← t) x;
        fits = rw (← t) k;
        well = rw (← t) w;
      }

step-undo : (s : State) (b : Book) → Rep s b → Step s b Undo
unfolding undo
step-undo s b h = by b.standing h.es refl refl h.stood
  where
    by : (qs : List (Authored Request)) (es : List (Authored Edit)) → b.standing ≡ qs → h.es ≡ es → Past b.file_room b.start qs es → Step s b Undo
    by [] [] i j p = step_by s b Undo (Err NothingLeft) (Err NothingLeft) (rw (opens s b h, j)) (rw i) refl h
    by [] (e ∷ es) i j p = absurd p
    by (q ∷ qs) [] i j p = absurd p
    by (q ∷ qs) (e ∷ es) i j p =
        let f : List ℕ = file_after b.start qs in
        let a : book_file b ≡ spliced e.what f = ap (file_after b.start) i ∙ after_is b.start q qs e.what p.0.asked in
        let r = replay s (turned e.what) (s.standing - edit_length e) (spliced e.what f) f (h.text ∙ a) (edit-undo-stands f q.what e.what p.0.asked) (edit-undone f q.what e.what p.0.asked) (rw h.room p.0.fits-before) p.0.well-before in
        let l : s.standing ≡ lengths es + edit_length e = h.standing ∙ ap lengths j in
        let n : s.standing - edit_length e ≡ lengths es = omega arith in
        step_by s b Undo (Ok (moved s f (s.standing - edit_length e))) (Ok (with_lists b qs (q ∷ b.waiting))) (rw (opens s b h, j) r) (rw i) refl
        (rep-moved s b h qs (q ∷ b.waiting) es (e ∷ h.ws) f (s.standing - edit_length e) (ap (λ (l : List (Authored Edit)). reverse_aux l h.ws) (sym j)) n refl p.0.fits-before p.0.well-before p.1 (p.0, rw a at h.waits))

step-redo : (s : State) (b : Book) → Rep s b → Step s b Redo
unfolding redo
step-redo s b h = by b.waiting h.ws refl refl h.waits
  where
    by : (qs : List (Authored Request)) (ws : List (Authored Edit)) → b.waiting ≡ qs → h.ws ≡ ws → Next b.file_room (book_file b) qs ws → Step s b Redo
    by [] [] i j p = step_by s b Redo (Err NothingLeft) (Err NothingLeft) (rw (opens s b h, j)) (rw i) refl h
    by [] (e ∷ es) i j p = absurd p
    by (q ∷ qs) [] i j p = absurd p
    by (q ∷ qs) (e ∷ ws) i j p =
        let f : List ℕ = book_file b in
        let a = after_is b.start q b.standing e.what p.0.asked in
        let r = replay s e.what (s.standing + edit_length e) f (spliced e.what f) h.text (edit-stands f q.what e.what p.0.asked) refl (rw h.room p.0.fits_after) p.0.well-after in
        let n : s.standing + edit_length e ≡ lengths h.es + edit_length e = ap (λ (m : ℕ). m + edit_length e) h.standing in
        step_by s b Redo (Ok (moved s (spliced e.what f) (s.standing + edit_length e))) (Ok (with_lists b (q ∷ b.standing) qs)) (rw (opens s b h, j) r) (rw i) refl
        (rep-moved s b h (q ∷ b.standing) qs (e ∷ h.es) ws (spliced e.what f) (s.standing + edit_length e) (ap (λ (l : List (Authored Edit)). reverse_aux h.es l) (sym j)) n (sym a) p.0.fits_after p.0.well-after (p.0, h.stood) p.1)

-- ---- a request

-- what stands is at the journal's front
stands-first : (s : State) (b : Book) → (h : Rep s b) → take s.standing s.journal ≡ recorded (reverse h.es)
stands-first s b h =
    let u : s.standing ≤ s.used = omega (arith, h.standing, h.used) in
    let l : length (recorded (reverse h.es)) ≡ s.standing = recorded-length (reverse h.es) ∙ lengths-reverse h.es [] ∙ omega (arith, h.standing) in
    sym (take-take s.standing s.used s.journal u)
    ∙ ap (take s.standing) (h.bytes ∙ recorded-parts h.es h.ws)
    ∙ take_at (recorded (reverse h.es)) (recorded h.ws) s.standing l

-- a record is written after what stands
module _ (s : State) (b : Book) (h : Rep s b) (e : Authored Edit) (k : s.standing + edit_length e ≤ length s.journal) where
  record-room : s.standing + length (record_bytes (edit_record e)) ≤ length s.journal
  record-room = omega (arith, edit-length e)

  written-bytes : take (s.standing + edit_length e) (over s.journal s.standing (record_bytes (edit_record e))) ≡ recorded (reverse (e ∷ h.es))
  written-bytes =
      requested-used s (book_file b) e k
      ∙ ap (λ (r : List ℕ). r ++ record_bytes (edit_record e)) (stands-first s b h)
      ∙ sym (recorded_more e h.es)

  written-length : length (over s.journal s.standing (record_bytes (edit_record e))) ≡ length s.journal
  written-length = length_over s.journal s.standing (record_bytes (edit_record e)) record-room

rep-asked : (s : State) (b : Book) (q : Authored Request) (d : Edit) → Rep s b → person_of q.author < 65536 → edit_of (book_file b) q.what ≡ Ok d
    → file_fits b.file_room (spliced d (book_file b)) ≡ true → record_fits b.journal_room (book_standing b) (by q.author d) ≡ true
    → Rep (requested s (book_file b) (by q.author d)) (with_lists b (q ∷ b.standing) [])
rep-asked s b q d h p a x y =
    let e : Authored Edit = by q.author d in
    let f : List ℕ = book_file b in
    let y₁ = fits-record b.journal_room (book_standing b) e y in
    let n : book_standing b ≡ s.standing = past-lengths b.file_room b.start b.standing h.es h.stood ∙ sym h.standing in
    let j = h.journal-room in
    let k : s.standing + edit_length e ≤ length s.journal = omega arith in
    let t = after_is b.start q b.standing d a in
    let w : well_formed (spliced d f) ≡ true = edit-keeps desktop_entry f q.what d h.well a (fits-most b.file_room (spliced d f) x) in
    let l₁ = splits-length d f (edit-splits f q.what d a) in
    let l₂ = leb-true (length f) file_most (fits-most b.file_room f h.fits) in
    let z = moved-room s b h (spliced d f) x in
    record {
      es = e ∷ h.es;
      ws = [];
      text = buffer-content s.file s.size (spliced d f) ∙ sym t;
      room = z ∙ h.room;
      size = rw z (rw h.room (fits-room b.file_room (spliced d f) x));
      journal-room = written-length s b h e k ∙ h.journal-room;
      bytes = written-bytes s b h e k;
      standing = ap (λ (m : ℕ). m + edit_length e) h.standing;
      used = ap (λ (m : ℕ). m + edit_length e) h.standing ∙ omega arith;
      inside = rw (written-length s b h e k) k;
      most = omega arith;
      stood = (
        record {
          asked = a;
          same-author = refl;
          small = record { person-small = p; place-small = omega arith; length-small = omega arith };
          fits-before = h.fits;
          fits_after = x;
          well-before = h.well;
          well-after = w;
        },
        h.stood,
      );
      waits = tt;
      fits = rw t x;
      well = rw t w;
    }

step-do : (s : State) (b : Book) (q : Authored Request) → person_of q.author < 65536 → Rep s b → Step s b (Do q)
unfolding request applied book_request
step-do s b q p h = by-edit (edit_of (book_file b) q.what) refl
  where
    by-edit : (a : Answer Edit) → edit_of (book_file b) q.what ≡ a → Step s b (Do q)
    by-edit (Err f) e = step_by s b (Do q) (Err f) (Err f) (rw (opens s b h, h.text, e)) (rw e) refl h
    by-edit (Ok d) e = go (file_fits b.file_room (spliced d (book_file b))) (record_fits b.journal_room (book_standing b) (by q.author d)) refl refl
      where
        n : book_standing b ≡ s.standing
        n = past-lengths b.file_room b.start b.standing h.es h.stood ∙ sym h.standing

        go : (x y : Bool) → file_fits b.file_room (spliced d (book_file b)) ≡ x → record_fits b.journal_room (book_standing b) (by q.author d) ≡ y → Step s b (Do q)
        go false y u v = step_by s b (Do q) (Err NoRoom) (Err NoRoom) (rw (opens s b h, h.text, e, h.room, u)) (rw (e, u)) refl h
        go true false u v = step_by s b (Do q) (Err JournalFull) (Err JournalFull) (rw (opens s b h, h.text, e, h.room, u, h.journal-room, ← n, v)) (rw (e, u, v)) refl h
        go true true u v =
            step_by s b (Do q) (Ok (requested s (book_file b) (by q.author d))) (Ok (with_lists b (q ∷ b.standing) []))
            (rw (opens s b h, h.text, e, h.room, u, h.journal-room, ← n, v)) (rw (e, u, v)) refl (rep-asked s b q d h p e u v)

-- ---- forgetting

past-length : (room : ℕ) (t : List ℕ) (qs : List (Authored Request)) (es : List (Authored Edit)) → Past room t qs es → length qs ≡ length es
past-length room t [] [] h = refl
past-length room t [] (e ∷ es) h = absurd h
past-length room t (q ∷ qs) [] h = absurd h
past-length room t (q ∷ qs) (e ∷ es) h = ap suc (past-length room t qs es h.1)

-- the requests but the oldest, from the file after these
pub after-parted : (n : ℕ) (t : List ℕ) (qs : List (Authored Request)) → file_after (file_after t (drop n qs)) (take n qs) ≡ file_after t qs
unfolding file_after
after-parted zero t qs = refl
after-parted (suc n) t [] = refl
after-parted (suc n) t (q ∷ qs) = rw (after-parted n t qs)

past-parted : (n room : ℕ) (t : List ℕ) (qs : List (Authored Request)) (es : List (Authored Edit)) → Past room t qs es → Past room (file_after t (drop n qs)) (take n qs) (take n es)
past-parted zero room t qs es h = tt
past-parted (suc n) room t [] [] h = tt
past-parted (suc n) room t [] (e ∷ es) h = absurd h
past-parted (suc n) room t (q ∷ qs) [] h = absurd h
past-parted (suc n) room t (q ∷ qs) (e ∷ es) h = (rw (after-parted n t qs) h.0, past-parted n room t qs es h.1)

rep-forgot : (s : State) (b : Book) → (h : Rep s b) → (k : ℕ) → length b.standing ≡ length h.es
    → Rep (with_journal s (without (lengths (oldest k h.es)) (journal_of s))) (without_oldest b k)
rep-forgot s b h k n =
    let m : ℕ = length h.es - k in
    let gone : ℕ = lengths (oldest k h.es) in
    let f = after-parted (length b.standing - k) b.start b.standing in
    let l = lengths-parted m h.es in
    let w = rest (journal_of s) gone h.inside in
    record {
      es = newer k h.es;
      ws = h.ws;
      text = h.text ∙ sym f;
      room = h.room;
      size = h.size;
      journal-room = w.room ∙ h.journal-room;
      bytes = w.bytes ∙ ap (drop gone) h.bytes ∙ recorded-rest m h.es h.ws;
      standing = omega (arith, h.standing);
      used = omega (arith, h.used);
      inside = omega (arith, h.inside, w.room);
      most = omega (arith, h.most);
      stood = rw n (past-parted m b.file_room b.start b.standing h.es h.stood);
      waits = rw f h.waits;
      fits = rw f h.fits;
      well = rw f h.well;
    }

step-forget : (s : State) (b : Book) (k : ℕ) → Rep s b → Step s b (Forget k)
unfolding forget book_forget
step-forget s b k h = go (leb k (length h.es)) refl
  where
    n : length b.standing ≡ length h.es
    n = past-length b.file_room b.start b.standing h.es h.stood

    go : (x : Bool) → leb k (length h.es) ≡ x → Step s b (Forget k)
    go false u = step_by s b (Forget k) (Err NothingLeft) (Err NothingLeft) (rw (opens-journal s b h, u)) (rw (n, u)) refl h
    go true u =
        step_by s b (Forget k) (Ok (with_journal s (without (lengths (oldest k h.es)) (journal_of s)))) (Ok (without_oldest b k))
        (rw (opens-journal s b h, u)) (rw (n, u)) refl (rep-forgot s b h k n)

pub step : (s : State) (b : Book) (c : Call) → person_fits c ≡ true → Rep s b → Step s b c
step s b (Do q) p h = step-do s b q (omega (arith, leb-true (person_of q.author) 65535 p)) h
step s b Undo p h = step-undo s b h
step s b Redo p h = step-redo s b h
step s b (Forget k) p h = step-forget s b k h

-- ---- every list of calls

pub record Agrees (s : State) (b : Book) (cs : List Call) : Type 0 where
  pub tells_all : told_over state_call s cs ≡ told_over book_call b cs
  pub rep-after : Rep (left_by state_call s cs) (left_by book_call b cs)

pub agrees : (cs : List Call) (s : State) (b : Book) → all person_fits cs ≡ true → Rep s b → Agrees s b cs
unfolding told_over left_by all
agrees [] s b q h = record { tells_all = refl; rep-after = h }
agrees (c ∷ cs) s b q h =
    let f = and_both (person_fits c) (all person_fits cs) q in
    let p = step s b c f.0 h in
    let a = agrees cs (at_exit s (state_call s c)) (at_exit b (book_call b c)) f.1 p.rep in
    record { tells_all = rw (p.tells, a.tells_all); rep-after = a.rep-after }

start_fits : (start rest : List ℕ) → well_formed start ≡ true → file_fits (length (start ++ rest)) start ≡ true
start_fits start rest h = rw (le-leb (length start) (length (start ++ rest)) (rw (length-append start rest) (omega arith))) (well-lines desktop_entry start h).0

pub start-rep : (start rest journal : List ℕ) → well_formed start ≡ true → Rep (start_state start rest journal) (start_book start (length (start ++ rest)) (length journal))
unfolding file_after
start-rep start rest journal h =
    record {
      es = [];
      ws = [];
      text = take-append_seam start rest;
      room = refl;
      size = rw (length-append start rest) (omega arith);
      journal-room = refl;
      bytes = unfold list_bytes joined in refl;
      standing = refl;
      used = refl;
      inside = omega arith;
      most = omega arith;
      stood = tt;
      waits = tt;
      fits = start_fits start rest h;
      well = h;
    }

-- buffers that stand for a book tell and hold what it does, over any list of calls
pub as-in-the-book : (calls : List Call) (s : State) (b : Book) → all person_fits calls ≡ true → Rep s b → AsInTheBook b calls (told_over state_call s calls) (left_by state_call s calls)
as-in-the-book calls s b p h =
    let a = agrees calls s b p h in
    let r = a.rep-after in
    record { tells = a.tells_all; file_is = r.text; standing_is = r.standing ∙ sym (past-lengths _ _ _ _ r.stood) }

pub demand3 : Demand3
unfolding Demand3
demand3 start rest journal calls h p = as-in-the-book calls (start_state start rest journal) (start_book start (length (start ++ rest)) (length journal)) p (start-rep start rest journal h)
