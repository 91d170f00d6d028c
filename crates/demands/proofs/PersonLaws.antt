-- The persons of a journal's records, after any calls. Assumes nothing.
use Rattle.std.specs.Prelude.{Option, Some, None, Ok, Err, slice_get}
use mathlib.Core.Path.{◌≡◌, refl, sym, ap, ◌∙◌}
use Prim.Native.Nat.{ℕ, zero, suc, ◌+◌, ◌-◌, ◌≤◌, ◌<◌}
use native.Mathlib.Omega.{arith}
use mathlib.Core.Bool.{Bool, true, false}
use mathlib.Core.List.{List, [], ◌∷◌, ◌++◌, map, reverse_aux}
use lib.ListN.{length, take}
use lib.Seq.{length-take-le}
use lib.Dec.{eqb, leb}
use borrow.Author.Tests.{leb-true, leb-false, le-leb}
use Rattle.base.specs.Lists.{all}
use Rattle.base.proofs.Tests.{no, by-test, and_both}
use Rattle.fault.specs.declared.Fault.TheVariants.{NoRoom, NothingLeft, JournalFull}
use Rattle.fault.specs.Answer.{Answer, ◌>>=◌, need, some_or, then, at_exit}
use Rattle.fault.proofs.Answers.{bind-given, some-given, given_is}
use Rattle.record.specs.Record.{bodies_of, read_list}
use Rattle.splice.specs.Edit.{Edit, spliced, turned}
use Rattle.change.specs.Change.{Request, edit_of}
use Rattle.journal.specs.Journal.{Authored, by, person_of, kind_of, edit_record, edit_length, lengths, Journal, in_order, next_of}
use Rattle.journal.specs.Lent.{Lent, lent, used_of, person_in, person}
use Rattle.journal.specs.Lent as alone
use Rattle.journal.proofs.Opened.{opened-says, opened-by}
use Rattle.journal.proofs.Joined.{journal-says, journal-parted}
use Rattle.journal.proofs.Records.{recorded, recorded-length, recorded-back, lengths-reverse}
use Rattle.edit.specs.Calls.{State, content, journal_of, file_fits, record_fits, opened, replayed_in, with_file, replayed, undo, redo}
use Rattle.edit.proofs.Requested.{opened_both, request-stands}
use Rattle.demands.specs.Book.{Call, Do, Undo, Redo, Forget, Book, book_file, book_standing, with_lists, book_request, book_undo, book_redo, without_oldest, book_forget, book_call}
use Rattle.demands.specs.Demand3.{state_call, writes_kind, left_by, start_state, start_book}
use Rattle.demands.specs.Persons.{PersonsAsInTheBook, PersonTold, PersonsStay, RecordsOfOneKind}
use Rattle.demands.proofs.Agreement.{Past, Next, Rep, small, opens-journal, agrees, start-rep}

-- ---- as in the book

-- two lists whose members have the same authors in turn
abbrev Alike : {A B : Type 0} → List (Authored A) → List (Authored B) → Type 0
Alike [] [] = Unit {0}
Alike [] (y ∷ ys) = ⊥
Alike (x ∷ xs) [] = ⊥
Alike (x ∷ xs) (y ∷ ys) = (x.author ≡ y.author) × Alike xs ys

-- its record is of this kind
abbrev of_kind : {A : Type 0} → ℕ → Authored A → Bool
of_kind kind x = eqb (kind_of x.author) kind

past-alike : (room : ℕ) (t : List ℕ) (qs : List (Authored Request)) (es : List (Authored Edit)) → Past room t qs es → Alike qs es
past-alike room t [] [] h = tt
past-alike room t [] (e ∷ es) h = absurd h
past-alike room t (q ∷ qs) [] h = absurd h
past-alike room t (q ∷ qs) (e ∷ es) h = (h.0.same-author, past-alike room t qs es h.1)

next-alike : (room : ℕ) (f : List ℕ) (qs : List (Authored Request)) (es : List (Authored Edit)) → Next room f qs es → Alike qs es
next-alike room f [] [] h = tt
next-alike room f [] (e ∷ es) h = absurd h
next-alike room f (q ∷ qs) [] h = absurd h
next-alike room f (q ∷ qs) (e ∷ es) h = (h.0.same-author, next-alike room (spliced e.what f) qs es h.1)

module _ {A B : Type 0} where
  order_alike : (xs vs : List (Authored A)) (ys ws : List (Authored B)) → Alike xs ys → Alike vs ws → Alike (reverse_aux xs vs) (reverse_aux ys ws)
  order_alike [] vs [] ws h k = k
  order_alike [] vs (y ∷ ys) ws h k = absurd h
  order_alike (x ∷ xs) vs [] ws h k = absurd h
  order_alike (x ∷ xs) vs (y ∷ ys) ws h k = order_alike xs (x ∷ vs) ys (y ∷ ws) h.1 (h.0, k)

  person-alike : (xs : List (Authored A)) (ys : List (Authored B)) (n : ℕ) → Alike xs ys → person_in xs n ≡ person_in ys n
  person-alike [] [] n h = refl
  person-alike [] (y ∷ ys) n h = absurd h
  person-alike (x ∷ xs) [] n h = absurd h
  person-alike (x ∷ xs) (y ∷ ys) zero h = rw h.0
  person-alike (x ∷ xs) (y ∷ ys) (suc n) h = person-alike xs ys n h.1

  -- and so of the same kinds
  kinds-alike : (kind : ℕ) (xs : List (Authored A)) (ys : List (Authored B)) → Alike xs ys → all (of_kind kind) xs ≡ true → all (of_kind kind) ys ≡ true
  unfolding all
  kinds-alike kind [] [] h e = refl
  kinds-alike kind [] (y ∷ ys) h e = absurd h
  kinds-alike kind (x ∷ xs) [] h e = absurd h
  kinds-alike kind (x ∷ xs) (y ∷ ys) h e =
      let p = and_both (of_kind kind x) (all (of_kind kind) xs) e in
      rw (← h.0, p.0) (kinds-alike kind xs ys h.1 p.1)

-- an opened journal tells its edits' persons
pub person-opened : (s : Lent) (j : Journal) (n : ℕ) → alone.opened s ≡ Ok j → person s n ≡ person_in (in_order j) n
unfolding person
person-opened s j n h = rw h

pub persons-as-in-the-book : PersonsAsInTheBook
unfolding PersonsAsInTheBook
persons-as-in-the-book start rest journal calls n h p =
    let s : State = left_by state_call (start_state start rest journal) calls in
    let b : Book = left_by book_call (start_book start (length (start ++ rest)) (length journal)) calls in
    let r : Rep s b = (agrees calls (start_state start rest journal) (start_book start (length (start ++ rest)) (length journal)) p (start-rep start rest journal h)).rep-after in
    let past = past-alike b.file_room b.start b.standing r.es r.stood in
    let next = next-alike b.file_room _ b.waiting r.ws r.waits in
    person-opened (journal_of s) (record { stand = r.es; wait = r.ws }) n (opens-journal s b r)
    ∙ sym (person-alike (reverse_aux b.standing b.waiting) (reverse_aux r.es r.ws) n (order_alike b.standing b.waiting r.es r.ws past next))

-- ---- the kinds of records

all-order : {A : Type 0} (p : A → Bool) (xs ys : List A) → all p xs ≡ true → all p ys ≡ true → all p (reverse_aux xs ys) ≡ true
unfolding all
all-order p [] ys e f = f
all-order p (x ∷ xs) ys e f =
    let b = and_both (p x) (all p xs) e in
    all-order p xs (x ∷ ys) b.1 (rw b.0 f)

all_take : {A : Type 0} (p : A → Bool) (n : ℕ) (xs : List A) → all p xs ≡ true → all p (take n xs) ≡ true
unfolding all
all_take p zero xs e = refl
all_take p (suc n) [] e = refl
all_take p (suc n) (x ∷ xs) e =
    let b = and_both (p x) (all p xs) e in
    rw b.0 (all_take p n xs b.1)

-- the book's requests are of this kind
record Kinds (kind : ℕ) (b : Book) : Type 0 where
  stand : all (of_kind kind) b.standing ≡ true
  wait : all (of_kind kind) b.waiting ≡ true

kinds-call : (kind : ℕ) (b : Book) (c : Call) → writes_kind kind c ≡ true → Kinds kind b → Kinds kind (at_exit b (book_call b c))
unfolding book_request book_forget all
kinds-call kind b (Do q) e k = by-edit (edit_of (book_file b) q.what)
  where
    done : Book
    done = with_lists b (q ∷ b.standing) []

    by-room : (x y : Bool) → Kinds kind (at_exit b (need x NoRoom >>= λ _. need y JournalFull >>= λ _. Ok done))
    by-room true true = record { stand = rw e k.stand; wait = refl }
    by-room true false = k
    by-room false y = k

    by-edit : (a : Answer Edit)
        → Kinds kind (at_exit b (a >>= λ d. need (file_fits b.file_room (spliced d (book_file b))) NoRoom >>= λ _. need (record_fits b.journal_room (book_standing b) (by q.author d)) JournalFull >>= λ _. Ok done))
    by-edit (Err f) = k
    by-edit (Ok d) = by-room (file_fits b.file_room (spliced d (book_file b))) (record_fits b.journal_room (book_standing b) (by q.author d))
kinds-call kind b Undo e k = go b.standing k.stand
  where
    go : (qs : List (Authored Request)) → all (of_kind kind) qs ≡ true → Kinds kind (at_exit b (book_undo b qs))
    go [] h = k
    go (q ∷ qs) h = let p = and_both (of_kind kind q) (all (of_kind kind) qs) h in record { stand = p.1; wait = rw p.0 k.wait }
kinds-call kind b Redo e k = go b.waiting k.wait
  where
    go : (qs : List (Authored Request)) → all (of_kind kind) qs ≡ true → Kinds kind (at_exit b (book_redo b qs))
    go [] h = k
    go (q ∷ qs) h = let p = and_both (of_kind kind q) (all (of_kind kind) qs) h in record { stand = rw p.0 k.stand; wait = p.1 }
kinds-call kind b (Forget n) e k = go (leb n (length b.standing))
  where
    go : (t : Bool) → Kinds kind (at_exit b (need t NothingLeft >>= λ _. Ok (without_oldest b n)))
    go true = record { stand = all_take (of_kind kind) (length b.standing - n) b.standing k.stand; wait = k.wait }
    go false = k

kinds-left : (kind : ℕ) (cs : List Call) (b : Book) → all (writes_kind kind) cs ≡ true → Kinds kind b → Kinds kind (left_by book_call b cs)
unfolding left_by all
kinds-left kind [] b e k = k
kinds-left kind (c ∷ cs) b e k =
    let p = and_both (writes_kind kind c) (all (writes_kind kind) cs) e in
    kinds-left kind cs (at_exit b (book_call b c)) p.1 (kinds-call kind b c p.0 k)

-- records of one kind are a list of that kind
kind-records : (kind : ℕ) (es : List (Authored Edit)) → all (of_kind kind) es ≡ true → all (λ r. eqb r.kind kind) (map edit_record es) ≡ true
unfolding all edit_record
kind-records kind [] e = refl
kind-records kind (x ∷ es) e =
    let p = and_both (of_kind kind x) (all (of_kind kind) es) e in
    rw p.0 (kind-records kind es p.1)

pub records-of-one-kind : RecordsOfOneKind
unfolding RecordsOfOneKind read_list bodies_of all
records-of-one-kind start rest journal kind calls h p w =
    let s : State = left_by state_call (start_state start rest journal) calls in
    let b : Book = left_by book_call (start_book start (length (start ++ rest)) (length journal)) calls in
    let r : Rep s b = (agrees calls (start_state start rest journal) (start_book start (length (start ++ rest)) (length journal)) p (start-rep start rest journal h)).rep-after in
    let k = kinds-left kind calls (start_book start (length (start ++ rest)) (length journal)) w (record { stand = refl; wait = refl }) in
    let stand = kinds-alike kind b.standing r.es (past-alike b.file_room b.start b.standing r.es r.stood) k.stand in
    let wait = kinds-alike kind b.waiting r.ws (next-alike b.file_room _ b.waiting r.ws r.waits) k.wait in
    let es : List (Authored Edit) = reverse_aux r.es r.ws in
    let l : length (recorded es) ≤ 65536 = omega (arith, recorded-length es, lengths-reverse r.es r.ws, r.used, r.most) in
    rw (r.bytes, le-leb (length (recorded es)) 65536 l, recorded-back es (small s b r), kind-records kind es (all-order (of_kind kind) r.es r.ws stand wait))

-- ---- a set or remove

-- in order: what follows those that stand, and one of those
pub order-after : (es ws : List (Authored Edit)) (n : ℕ) → slice_get (reverse_aux es ws) (length es + n) ≡ slice_get ws n
order-after [] ws n = let z : 0 + n ≡ n = omega arith in rw z
order-after (e ∷ es) ws n = let z : suc (length es) + n ≡ length es + suc n = omega arith in rw z (order-after es (e ∷ ws) (suc n))

order-before : (es ws vs : List (Authored Edit)) (n : ℕ) → n < length es → slice_get (reverse_aux es ws) n ≡ slice_get (reverse_aux es vs) n
order-before [] ws vs n h = absurd (omega arith)
order-before (e ∷ es) ws vs n h =
    by-test (leb (length es) n)
    (λ t.
    let z : n ≡ length es + 0 = omega (arith, leb-true (length es) n t) in
    rw z (order-after es (e ∷ ws) 0 ∙ sym (order-after es (e ∷ vs) 0)))
    (λ t. order-before es (e ∷ ws) (e ∷ vs) n (leb-false (length es) n t))

pub person-told : PersonTold
unfolding PersonTold
person-told s t q j p h e =
    let r = request-stands s t q j (omega (arith, leb-true (person_of q.author) 65535 p)) h e in
    let m : Authored Edit = by q.author r.0 in
    let k : Journal = record { stand = m ∷ j.stand; wait = [] } in
    let told : Option (Authored Edit) → Answer ℕ = λ o. then (λ d. person_of d.author) (some_or o NothingLeft) in
    let z : length j.stand ≡ length j.stand + 0 = omega arith in
    let y : suc (length j.stand) ≡ length j.stand + 1 = omega arith in
    let last : slice_get (in_order k) (suc (length j.stand)) ≡ None = rw y (order-after j.stand (m ∷ []) 1) in
    let own : slice_get (in_order k) (length j.stand) ≡ Some m = rw z (order-after j.stand (m ∷ []) 0) in
    let after = (opened_both t k r.1).journal-opened in
    let before = (opened_both s j h).journal-opened in (
      person-opened (journal_of t) k (length j.stand) after ∙ ap told own,
      λ n l. person-opened (journal_of t) k n after ∙ ap told (order-before j.stand (m ∷ []) j.wait n l) ∙ sym (person-opened (journal_of s) j n before),
      person-opened (journal_of t) k (suc (length j.stand)) after ∙ ap told last,
    )

-- ---- undo and redo

-- the same journal, of which others stand
pub others-stand : (s : Lent) (j : Journal) (es ws : List (Authored Edit)) → alone.opened s ≡ Ok j → in_order j ≡ reverse_aux es ws
    → alone.opened (lent s.journal s.used (lengths es)) ≡ Ok (record { stand = es; wait = ws })
others-stand s j es ws h i =
    let o = opened-says s j h in
    let b = o.bounds in
    let p = journal-parted (used_of s) s.standing j es ws o.reads i in
    let l = length-take-le s.used s.journal b.used-fits in
    opened-by (lent s.journal s.used (lengths es)) (record { stand = es; wait = ws }) (record {
      bounds = record { used-fits = b.used-fits; used-bound = b.used-bound; standing-fits = omega (arith, l, p.1) };
      reads = p.0;
    })

persons-moved : (s : Lent) (j : Journal) (es ws : List (Authored Edit)) (n : ℕ) → alone.opened s ≡ Ok j → in_order j ≡ reverse_aux es ws
    → person (lent s.journal s.used (lengths es)) n ≡ person s n
persons-moved s j es ws n h i =
    person-opened (lent s.journal s.used (lengths es)) (record { stand = es; wait = ws }) n (others-stand s j es ws h i)
    ∙ ap (λ (es : List (Authored Edit)). person_in es n) (sym i)
    ∙ sym (person-opened s j n h)

-- an edit from the journal leaves it but for the standing number
replayed-journal : (s t : State) (e : Edit) (m : ℕ) → replayed s e m ≡ Ok t → journal_of t ≡ lent s.journal s.used m
unfolding replayed
replayed-journal s t e m = go (replayed_in (length s.file) (content s) e)
  where
    go : (a : Answer (List ℕ)) → then (with_file s m) a ≡ Ok t → journal_of t ≡ lent s.journal s.used m
    go (Ok f) h = ap journal_of (sym (given_is (with_file s m f) t h))
    go (Err f) h = no (cc)

-- the first of some edits
first-is : (o : List (Authored Edit)) (e : Authored Edit) → next_of o ≡ Some e → (es : List (Authored Edit)) × (o ≡ e ∷ es)
first-is [] e h = no (cc)
first-is (d ∷ es) e h = let i : d ≡ e = cc in (es, ap (λ (x : Authored Edit). x ∷ es) i)

-- an edit from the journal that makes others stand, of the same edits in order
module _ (s t : State) (n : ℕ) (which : Journal → List (Authored Edit)) (turn : Edit → Edit) (number : Authored Edit → ℕ) (stand wait : Journal → Authored Edit → List (Authored Edit) → List (Authored Edit))
    (ordered : (j : Journal) (e : Authored Edit) (es : List (Authored Edit)) → which j ≡ e ∷ es → in_order j ≡ reverse_aux (stand j e es) (wait j e es))
    (numbered : (j : Journal) (e : Authored Edit) (es : List (Authored Edit)) → which j ≡ e ∷ es → s.standing ≡ lengths j.stand → number e ≡ lengths (stand j e es)) where
  turned-stays : (opened s >>= λ j. some_or (next_of (which j)) NothingLeft >>= λ e. replayed s (turn e.what) (number e)) ≡ Ok t → person (journal_of t) n ≡ person (journal_of s) n
  turned-stays h =
      let a = bind-given (opened s) (λ j. some_or (next_of (which j)) NothingLeft >>= λ e. replayed s (turn e.what) (number e)) t h in
      let j : Journal = a.0 in
      let b = some-given (next_of (which j)) NothingLeft (λ e. replayed s (turn e.what) (number e)) t a.2 in
      let e : Authored Edit = b.0 in
      let f = first-is (which j) e b.1 in
      let o = (opened_both s j a.1).journal-opened in
      let w = journal-says (used_of (journal_of s)) s.standing j (opened-says (journal_of s) j o).reads in
      rw (replayed-journal s t (turn e.what) (number e) b.2, numbered j e f.0 f.1 w.standing)
      (persons-moved (journal_of s) j (stand j e f.0) (wait j e f.0) n o (ordered j e f.0 f.1))

undo-stays : (s t : State) (n : ℕ) → undo s ≡ Ok t → person (journal_of t) n ≡ person (journal_of s) n
unfolding undo
undo-stays s t n =
    turned-stays s t n (λ j. j.stand) turned (λ e. s.standing - edit_length e) (λ j e es. es) (λ j e es. e ∷ j.wait)
    (λ j e es i. ap (λ (x : List (Authored Edit)). reverse_aux x j.wait) i)
    (λ j e es i k. omega (arith, k, ap lengths i))

redo-stays : (s t : State) (n : ℕ) → redo s ≡ Ok t → person (journal_of t) n ≡ person (journal_of s) n
unfolding redo
redo-stays s t n =
    turned-stays s t n (λ j. j.wait) (λ e. e) (λ e. s.standing + edit_length e) (λ j e es. e ∷ j.stand) (λ j e es. es)
    (λ j e es i. ap (λ (x : List (Authored Edit)). reverse_aux j.stand x) i)
    (λ j e es i k. omega (arith, k))

pub persons-stay : PersonsStay
unfolding PersonsStay
persons-stay s n = (go (undo s) (λ t. undo-stays s t n), go (redo s) (λ t. redo-stays s t n))
  where
    go : (a : Answer State) → ((t : State) → a ≡ Ok t → person (journal_of t) n ≡ person (journal_of s) n) → person (journal_of (at_exit s a)) n ≡ person (journal_of s) n
    go (Ok t) h = h t refl
    go (Err f) h = refl
