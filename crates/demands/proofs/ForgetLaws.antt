-- Forgetting the oldest edits: what it keeps, and what a later undo or redo answers. Assumes nothing.
use Rattle.std.specs.Prelude.{Option, Ok, Err, slice_get}
use mathlib.Core.Path.{◌≡◌, refl, sym, ap, ◌∙◌}
use Prim.Native.Nat.{ℕ, suc, ◌+◌, ◌-◌, ◌≤◌}
use native.Mathlib.Omega.{arith}
use mathlib.Core.Bool.{Bool, true, false, ◌&&◌}
use mathlib.Core.List.{List, [], ◌∷◌, reverse_aux}
use lib.ListN.{length, length-drop}
use lib.Seq.{length-take-le}
use lib.Dec.{leb}
use borrow.Author.Tests.{leb-true, leb-false}
use Rattle.base.proofs.Tests.{no, by-test}
use Rattle.fault.specs.declared.Fault.TheVariants.{Damaged, NothingLeft}
use Rattle.fault.specs.Answer.{Answer, ◌>>=◌, need, some_or, then, at_exit}
use Rattle.fault.proofs.Answers.{need-given}
use Rattle.wellformed.specs.Check.{check}
use Rattle.splice.specs.Edit.{Edit, turned}
use Rattle.journal.specs.Journal.{Authored, person_of, edit_length, lengths, Journal, oldest, newer, in_order, next_of}
use Rattle.journal.specs.Lent as alone
use Rattle.journal.specs.Lent.{Lent, used_of, numbers_fit, journal_in, without, forget}
use Rattle.journal.proofs.Opened.{opened-says}
use Rattle.journal.proofs.Records.{lengths-parted, order-parted}
use Rattle.journal.proofs.Joined.{journal-says}
use Rattle.journal.proofs.Forgotten.{others, rest, without-none, without-both, oldest-none, oldest-both, forget-shut, forget-is, forget-lacks, forget-says, forget_opened, newer-opened}
use Rattle.edit.specs.Calls.{State, content, journal_of, lengths_fit, file_checked, opened, replayed_in, with_file, replayed, undo, redo}
use Rattle.demands.specs.Book.{Forget, Book, file_after, without_oldest, book_forget}
use Rattle.demands.specs.Demand3.{with_journal, state_call}
use Rattle.demands.specs.Forgetting.{ForgetKeepsFile, ForgetKeepsOthers, ForgetKeepsPersons, ForgetNone, ForgetInTurn, AsBefore, UndoAfterForget, NoUndoAfterForget, RedoAfterForget}
use Rattle.demands.proofs.Agreement.{after-parted}
use Rattle.demands.proofs.PersonLaws.{person-opened, order-after, others-stand}

-- ---- what is kept

pub forget-keeps-file : ForgetKeepsFile
unfolding ForgetKeepsFile book_forget
forget-keeps-file = (λ s k. of-buffers s (forget (journal_of s) k), λ b k. of-book b k (leb k (length b.standing)))
  where
    of-buffers : (s : State) (a : Answer Lent) → let t : State = at_exit s (then (with_journal s) a) in (t.file ≡ s.file) × (t.size ≡ s.size)
    of-buffers s (Ok t) = (refl, refl)
    of-buffers s (Err f) = (refl, refl)

    of-book : (b : Book) (k : ℕ) (t : Bool)
        → let c : Book = at_exit b (need t NothingLeft >>= λ _. Ok (without_oldest b k)) in
        file_after c.start c.standing ≡ file_after b.start b.standing
    of-book b k true = after-parted (length b.standing - k) b.start b.standing
    of-book b k false = refl

pub forget-keeps-others : ForgetKeepsOthers
unfolding ForgetKeepsOthers
forget-keeps-others s t k j o e = ap alone.opened (sym (forget-says s t k j o e).is) ∙ newer-opened s k j o

pub forget-keeps-persons : ForgetKeepsPersons
unfolding ForgetKeepsPersons ForgetKeepsOthers
forget-keeps-persons s t k n e =
    let o = forget_opened s t k e in
    let j : Journal = o.0 in
    let m : ℕ = length j.stand - k in
    let f = forget-says s t k j o.1 e in
    let l : k ≡ length (oldest k j.stand) = omega (arith, f.enough, length-drop m j.stand) in
    let g : slice_get (in_order j) (k + n) ≡ slice_get (reverse_aux (newer k j.stand) j.wait) n =
    ap (λ (es : List (Authored Edit)). slice_get es (k + n)) (order-parted m j.stand j.wait)
    ∙ ap (λ (i : ℕ). slice_get (reverse_aux (oldest k j.stand) (reverse_aux (newer k j.stand) j.wait)) (i + n)) l
    ∙ order-after (oldest k j.stand) (reverse_aux (newer k j.stand) j.wait) n in
    person-opened t (others k j) n (forget-keeps-others s t k j o.1 e)
    ∙ ap (λ (x : Option (Authored Edit)). then (λ d. person_of d.author) (some_or x NothingLeft)) (sym g)
    ∙ sym (person-opened s j (k + n) o.1)

pub forget-none : ForgetNone
unfolding ForgetNone
forget-none s j o =
    forget-is s 0 j o (omega arith) ∙ ap Ok (ap (λ (n : ℕ). without n s) (sym (oldest-none j.stand)) ∙ without-none s (opened-says s j o).bounds.used-fits)

pub forget-in-turn : ForgetInTurn
unfolding ForgetInTurn
forget-in-turn s i k = go (alone.opened s) refl
  where
    go : (a : Answer Journal) → alone.opened s ≡ a → (forget s i >>= λ t. forget t k) ≡ forget s (i + k)
    go (Err f) o = ap (λ (x : Answer Lent). x >>= λ t. forget t k) (forget-shut s i o) ∙ sym (forget-shut s (i + k) o)
    go (Ok j) o =
        by-test (leb i n)
        (λ a. ap (λ (x : Answer Lent). x >>= λ t. forget t k) (forget-is s i j o (leb-true i n a)) ∙ behind (leb-true i n a))
        (λ a.
        let l = leb-false i n a in
        ap (λ (x : Answer Lent). x >>= λ t. forget t k) (forget-lacks s i j o l) ∙ sym (forget-lacks s (i + k) j o (omega arith)))
      where
        n : ℕ
        n = length j.stand

        t : Lent
        t = without (lengths (oldest i j.stand)) s

        behind : i ≤ length j.stand → forget t k ≡ forget s (i + k)
        behind h =
            let p = newer-opened s i j o in
            let q : Journal = others i j in
            let l : length (newer i j.stand) ≡ n - i = length-take-le (n - i) j.stand (omega arith) in
            by-test (leb (i + k) n)
            (λ a.
            let b = leb-true (i + k) n a in
            let x = opened-says s j o in
            let y = oldest-both i k j.stand b in
            let z : lengths (oldest i j.stand) + lengths (oldest k (newer i j.stand)) ≤ s.used =
            omega (arith, y, lengths-parted (n - (i + k)) j.stand, (journal-says (used_of s) s.standing j x.reads).standing, x.bounds.standing-fits) in
            forget-is t k q p (omega arith)
            ∙ ap Ok (without-both s (lengths (oldest i j.stand)) (lengths (oldest k (newer i j.stand))) x.bounds.used-fits z ∙ ap (λ (m : ℕ). without m s) y)
            ∙ sym (forget-is s (i + k) j o b))
            (λ a. let b = leb-false (i + k) n a in forget-lacks t k q p (omega arith) ∙ sym (forget-lacks s (i + k) j o b))

-- ---- what is lent after forgetting

-- what is asked of the file
abbrev pub ready : State → Answer (Unit {0})
ready s = need (leb s.size (length s.file)) Damaged >>= λ _. check (content s)

pub opened_with : (s : State) (j : Journal) → alone.opened (journal_of s) ≡ Ok j → opened s ≡ (ready s >>= λ _. Ok j)
unfolding opened file_checked lengths_fit alone.opened
opened_with s j h =
    let a = need-given (numbers_fit (journal_of s)) Damaged (λ _. journal_in (journal_of s)) j h in
    rw (a.0, a.1) (go (leb s.size (length s.file)) (check (content s)))
  where
    go : (x : Bool) (c : Answer (Unit {0})) → ((need (x && true) Damaged >>= λ _. c) >>= λ _. Ok j) ≡ ((need x Damaged >>= λ _. c) >>= λ _. Ok j)
    go true (Ok u) = refl
    go true (Err f) = refl
    go false c = refl

-- what is lent, without the oldest that stand
abbrev pub kept_in : State → ℕ → Journal → State
kept_in s k j = with_journal s (without (lengths (oldest k j.stand)) (journal_of s))

-- a journal and what is asked of it, where the file is ready
pub with-given : {A : Type 0} (a : Answer (Unit {0})) (j : Journal) (next : Journal → Answer A) → ((a >>= λ _. Ok j) >>= next) ≡ (a >>= λ _. next j)
with-given (Ok u) j next = refl
with-given (Err f) j next = refl

-- calls that agree where the file is ready
same-ready : (k : ℕ) (a : Answer (Unit {0})) (x y : Answer State) → AsBefore k x y → AsBefore k (a >>= λ _. x) (a >>= λ _. y)
same-ready k (Ok u) x y e = e
same-ready k (Err f) x y e = (refl, refl)

-- what an accepted call to forget says of what was lent, and of what it leaves
pub record Left (s t : State) (k : ℕ) (j : Journal) : Type 0 where
  pub is : kept_in s k j ≡ t
  pub enough : k ≤ length j.stand
  pub after : alone.opened (journal_of (kept_in s k j)) ≡ Ok (others k j)
  pub standing : s.standing ≡ lengths j.stand
  pub gone : lengths (oldest k j.stand) ≤ s.standing
  pub room : length (kept_in s k j).journal ≡ length s.journal

-- the journal that it leaves
forgot-journal : (s t : State) (k : ℕ) → state_call s (Forget k) ≡ Ok t → (u : Lent) × (forget (journal_of s) k ≡ Ok u) × (with_journal s u ≡ t)
forgot-journal s t k e = go (forget (journal_of s) k) refl e
  where
    go : (a : Answer Lent) → forget (journal_of s) k ≡ a → then (with_journal s) a ≡ Ok t → (u : Lent) × (forget (journal_of s) k ≡ Ok u) × (with_journal s u ≡ t)
    go (Ok u) h i = (u, h, cc)
    go (Err f) h i = no (cc)

pub left : (s t : State) (k : ℕ) (j : Journal) → alone.opened (journal_of s) ≡ Ok j → state_call s (Forget k) ≡ Ok t → Left s t k j
left s t k j o e =
    let u = forgot-journal s t k e in
    let f = forget-says (journal_of s) u.0 k j o u.1 in
    let x = opened-says (journal_of s) j o in
    let n = (journal-says (used_of (journal_of s)) s.standing j x.reads).standing in
    record {
      is = ap (with_journal s) f.is ∙ u.2;
      enough = f.enough;
      after = newer-opened (journal_of s) k j o;
      standing = n;
      gone = omega (arith, n, lengths-parted (length j.stand - k) j.stand);
      room = (rest (journal_of s) (lengths (oldest k j.stand)) x.bounds.used-fits).room;
    }

-- there was a journal
pub left-some : (s t : State) (k : ℕ) → state_call s (Forget k) ≡ Ok t → (j : Journal) × (alone.opened (journal_of s) ≡ Ok j)
left-some s t k e = let u = forgot-journal s t k e in forget_opened (journal_of s) u.0 k u.1

-- ---- undo and redo

-- what they do with the journal
abbrev undoing : State → Journal → Answer State
undoing s j = some_or (next_of j.stand) NothingLeft >>= λ d. replayed s (turned d.what) (s.standing - edit_length d)

abbrev redoing : State → Journal → Answer State
redoing s j = some_or (next_of j.wait) NothingLeft >>= λ d. replayed s d.what (s.standing + edit_length d)

module _ (s : State) (j : Journal) (o : alone.opened (journal_of s) ≡ Ok j) where
  undo-with : undo s ≡ (ready s >>= λ _. undoing s j)
  unfolding undo
  undo-with = ap (λ (a : Answer Journal). a >>= undoing s) (opened_with s j o) ∙ with-given (ready s) j (undoing s)

  redo-with : redo s ≡ (ready s >>= λ _. redoing s j)
  unfolding redo
  redo-with = ap (λ (a : Answer Journal). a >>= redoing s) (opened_with s j o) ∙ with-given (ready s) j (redoing s)

-- an edit from the journal after which others stand
replayed-forgot : (s : State) (k : ℕ) (j : Journal) (e : Edit) (es ws : List (Authored Edit)) → alone.opened (journal_of s) ≡ Ok j → in_order j ≡ reverse_aux es ws → k ≤ length es
    → let gone : ℕ = lengths (oldest k es) in
    AsBefore k (replayed (with_journal s (without gone (journal_of s))) e (lengths es - gone)) (replayed s e (lengths es))
unfolding replayed
replayed-forgot s k j e es ws o i h = go (replayed_in (length s.file) (content s) e)
  where
    now : List ℕ → State
    now file = with_file s (lengths es) file

    then-forgot : (file : List ℕ) → state_call (now file) (Forget k) ≡ Ok (with_journal (now file) (without (lengths (oldest k es)) (journal_of (now file))))
    then-forgot file = ap (then (with_journal (now file))) (forget-is (journal_of (now file)) k (record { stand = es; wait = ws }) (others-stand (journal_of s) j es ws o i) h)

    go : (a : Answer (List ℕ)) → AsBefore k (then (λ file. with_journal (now file) (without (lengths (oldest k es)) (journal_of (now file)))) a) (then now a)
    go (Ok file) = (refl, sym (then-forgot file))
    go (Err f) = (refl, refl)

-- with one more that stands the oldest are the same, and the latest of the others is that one
module _ (k : ℕ) (e : Authored Edit) (es : List (Authored Edit)) (h : k ≤ length es) where
  one_more : suc (length es) - k ≡ suc (length es - k)
  one_more = omega arith

  oldest-more : oldest k (e ∷ es) ≡ oldest k es
  oldest-more = rw one_more

  newer-more : next_of (newer k (e ∷ es)) ≡ next_of (e ∷ es)
  newer-more = rw one_more

pub undo-after-forget : UndoAfterForget
unfolding UndoAfterForget
undo-after-forget s t k j o e h =
    let l = left s t k j o e in
    rw (ap undo (sym l.is) ∙ undo-with (kept_in s k j) (others k j) l.after, undo-with s j o) (same-ready k (ready s) _ (undoing s j) (by-stand l j.stand refl))
  where
    by-stand : Left s t k j → (es : List (Authored Edit)) → j.stand ≡ es → AsBefore k (undoing (kept_in s k j) (others k j)) (undoing s j)
    by-stand l [] i = absurd (omega (arith, h, ap length i))
    by-stand l (d ∷ es) i =
        let m : k ≤ length es = omega (arith, h, ap length i) in
        let r = replayed-forgot s k j (turned d.what) es (d ∷ j.wait) o (ap (λ (x : List (Authored Edit)). reverse_aux x j.wait) i) m in
        let n : s.standing ≡ lengths es + edit_length d = l.standing ∙ ap lengths i in
        let x : s.standing - edit_length d ≡ lengths es = omega arith in
        let y : s.standing - lengths (oldest k es) - edit_length d ≡ lengths es - lengths (oldest k es) = omega arith in
        rw (i, newer-more k d es m, oldest-more k d es m, x, y) r

pub no-undo-after-forget : NoUndoAfterForget
unfolding NoUndoAfterForget
no-undo-after-forget s t k j o e h =
    let l = left s t k j o e in
    let z : length j.stand - k ≡ 0 = omega arith in
    let n : undoing (kept_in s k j) (others k j) ≡ Err NothingLeft = rw z in
    ap undo (sym l.is)
    ∙ undo-with (kept_in s k j) (others k j) l.after
    ∙ ap (λ (a : Answer State). ready s >>= λ _. a) n
    ∙ sym (ap (λ (a : Answer Journal). a >>= λ _. Err NothingLeft) (opened_with s j o) ∙ with-given (ready s) j (λ _. Err NothingLeft))

pub redo-after-forget : RedoAfterForget
unfolding RedoAfterForget
redo-after-forget s t k e =
    let o = left-some s t k e in
    let j : Journal = o.0 in
    let l = left s t k j o.1 e in
    rw (ap redo (sym l.is) ∙ redo-with (kept_in s k j) (others k j) l.after, redo-with s j o.1) (same-ready k (ready s) _ (redoing s j) (by-wait j o.1 l j.wait refl))
  where
    by-wait : (j : Journal) → alone.opened (journal_of s) ≡ Ok j → Left s t k j → (ws : List (Authored Edit)) → j.wait ≡ ws → AsBefore k (redoing (kept_in s k j) (others k j)) (redoing s j)
    by-wait j o l [] i = rw i (refl, refl)
    by-wait j o l (d ∷ ws) i =
        let r = replayed-forgot s k j d.what (d ∷ j.stand) ws o (ap (λ (x : List (Authored Edit)). reverse_aux j.stand x) i) (omega (arith, l.enough)) in
        let n : s.standing + edit_length d ≡ lengths (d ∷ j.stand) = omega (arith, l.standing) in
        let y : s.standing - lengths (oldest k j.stand) + edit_length d ≡ lengths (d ∷ j.stand) - lengths (oldest k j.stand) = omega (arith, l.standing, l.gone) in
        rw (i, n, y) (rw (oldest-more k d j.stand l.enough) at r)
