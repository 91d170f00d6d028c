-- A journal without its oldest edits. Assumes nothing.
use Rattle.std.specs.Prelude.{Ok, Err}
use mathlib.Core.Path.{◌≡◌, refl, sym, ap, ◌∙◌}
use Prim.Native.Nat.{ℕ, ◌+◌, ◌-◌, ◌≤◌, ◌<◌, max}
use native.Mathlib.Omega.{arith}
use mathlib.Core.List.{List, [], ◌∷◌, ◌++◌, append_assoc}
use lib.ListN.{length, take, drop, replicate, length-drop, replicate-append-replicate, take-append-drop}
use lib.Seq.{length-take-le, take-take, drop-drop, drop_at}
use lib.Dec.{leb}
use borrow.Author.Tests.{leb-true, le-leb, lt-leb}
use Rattle.fault.specs.declared.Fault.{Fault}
use Rattle.fault.specs.declared.Fault.TheVariants.{NothingLeft}
use Rattle.fault.specs.Answer.{◌>>=◌, need}
use Rattle.fault.proofs.Answers.{need-given, bind-given, given_is}
use Rattle.splice.specs.Edit.{Edit, buffer_with}
use Rattle.splice.proofs.Splits.{buffer-content, buffer-length}
use Rattle.journal.specs.Journal.{Authored, lengths, Journal, oldest, newer}
use Rattle.journal.specs.Lent.{Lent, used_of, opened, without, forget}
use Rattle.journal.proofs.Records.{lengths-parted}
use Rattle.journal.proofs.Joined.{journal-rest}
use Rattle.journal.proofs.Opened.{opened-says, opened-by}

-- the journal without its oldest edits
abbrev pub others : ℕ → Journal → Journal
others k j = record { stand = newer k j.stand; wait = j.wait }

-- ---- a buffer without some bytes at its front

-- it is as long as it was, and its used bytes are the others
pub record Rest (s : Lent) (gone : ℕ) : Type 0 where
  pub room : length (without gone s).journal ≡ length s.journal
  pub bytes : used_of (without gone s) ≡ drop gone (used_of s)

length_rest : (s : Lent) (gone : ℕ) → s.used ≤ length s.journal → length (drop gone (used_of s)) ≡ s.used - gone
length_rest s gone h = length-drop gone (used_of s) ∙ rw (length-take-le s.used s.journal h)

pub rest : (s : Lent) (gone : ℕ) → s.used ≤ length s.journal → Rest s gone
rest s gone h =
    let kept : List ℕ = drop gone (used_of s) in
    let m = length_rest s gone h in
    record { room = buffer-length s.journal s.used kept h (omega (arith, m)); bytes = rw (← m) (buffer-content s.journal s.used kept) }

-- without none
pub without-none : (s : Lent) → s.used ≤ length s.journal → without 0 s ≡ s
unfolding buffer_with
without-none s h =
    let l = length-take-le s.used s.journal h in
    let z : s.used - length (used_of s) ≡ 0 = omega arith in
    let m : max s.used (length (used_of s)) ≡ s.used = omega arith in
    let b : buffer_with s.journal s.used (used_of s) ≡ s.journal = rw (z, m) (take-append-drop s.used s.journal) in
    let u : s.used - 0 ≡ s.used = omega arith in
    let n : s.standing - 0 ≡ s.standing = omega arith in
    λ i. record { journal = b i; used = u i; standing = n i }

-- zeros up to the old length, and the bytes past it
buffer-is : (buffer : List ℕ) (n : ℕ) (f : List ℕ) → length f ≤ n → buffer_with buffer n f ≡ f ++ (replicate (n - length f) 0 ++ drop n buffer)
unfolding buffer_with
buffer-is buffer n f h = let m : max n (length f) ≡ n = omega arith in rw m

-- of u bytes x go, and then y; c are left
went : (u x a : ℕ) → x ≤ u → a ≡ u - x → u - a ≡ x
went u x a h k = omega arith

went-both : (u x y c : ℕ) → x + y ≤ u → c ≡ u - (x + y) → (c ≤ u - x) × (c ≤ u) × (u - x - c + x ≡ u - c)
went-both u x y c h k = (omega arith, omega arith, omega arith)

minus-both : (n x y : ℕ) → n - x - y ≡ n - (x + y)
minus-both n x y = omega arith

-- without some and then others
pub without-both : (s : Lent) (x y : ℕ) → s.used ≤ length s.journal → x + y ≤ s.used → without y (without x s) ≡ without (x + y) s
without-both s x y h k =
    let u : ℕ = s.used in
    let past : List ℕ = drop u s.journal in
    let a : List ℕ = drop x (used_of s) in
    let c : List ℕ = drop (x + y) (used_of s) in
    let b : List ℕ = buffer_with s.journal u a in
    let la = length_rest s x h in
    let lc = length_rest s (x + y) h in
    let xs : u - length a ≡ x = went u x (length a) (omega arith) la in
    let ys = went-both u x y (length c) k lc in
    let d : drop (u - x) b ≡ replicate x 0 ++ past = ap (drop (u - x)) (buffer-is s.journal u a (rw la (omega arith)) ∙ rw xs) ∙ drop_at a (replicate x 0 ++ past) (u - x) la in
    let e : drop y (used_of (without x s)) ≡ c = ap (drop y) (rest s x h).bytes ∙ drop-drop y x (used_of s) in
    let j : buffer_with b (u - x) (drop y (used_of (without x s))) ≡ buffer_with s.journal u c =
    ap (buffer_with b (u - x)) e
    ∙ buffer-is b (u - x) c ys.0
    ∙ ap (λ (l : List ℕ). c ++ (replicate (u - x - length c) 0 ++ l)) d
    ∙ ap (λ (l : List ℕ). c ++ l) (sym (append_assoc (replicate (u - x - length c) 0) (replicate x 0) past) ∙ ap (λ (l : List ℕ). l ++ past) (replicate-append-replicate (u - x - length c) x 0))
    ∙ ap (λ (n : ℕ). c ++ (replicate n 0 ++ past)) ys.2
    ∙ sym (buffer-is s.journal u c ys.1) in
    λ i. record { journal = j i; used = minus-both u x y i; standing = minus-both s.standing x y i }

-- ---- the bytes of the oldest edits

-- none are the oldest 0
pub oldest-none : (es : List (Authored Edit)) → 0 ≡ lengths (oldest 0 es)
oldest-none es =
    let z : length es - 0 ≡ length es = omega arith in
    rw z (go es)
  where
    go : (xs : List (Authored Edit)) → 0 ≡ lengths (drop (length xs) xs)
    go [] = refl
    go (x ∷ xs) = go xs

-- forgotten in turn
pub oldest-both : (i k : ℕ) (es : List (Authored Edit)) → i + k ≤ length es → lengths (oldest i es) + lengths (oldest k (newer i es)) ≡ lengths (oldest (i + k) es)
oldest-both i k es h =
    let n : ℕ = length es in
    let l : length (newer i es) ≡ n - i = length-take-le (n - i) es (omega arith) in
    let z : n - i - k ≡ n - (i + k) = omega arith in
    let t : lengths (take (n - (i + k)) (newer i es)) ≡ lengths (take (n - (i + k)) es) = ap lengths (take-take (n - (i + k)) (n - i) es (omega arith)) in
    rw (l, z) (omega (arith, lengths-parted (n - i) es, lengths-parted (n - (i + k)) (newer i es), lengths-parted (n - (i + k)) es, t))

-- ---- a journal without its oldest edits

module _ (s : Lent) (k : ℕ) where
  pub forget-shut : {f : Fault} → opened s ≡ Err f → forget s k ≡ Err f
  unfolding forget
  forget-shut e = rw e

  module _ (j : Journal) (o : opened s ≡ Ok j) where
    pub forget-is : k ≤ length j.stand → forget s k ≡ Ok (without (lengths (oldest k j.stand)) s)
    unfolding forget
    forget-is h = rw (o, le-leb k (length j.stand) h)

    pub forget-lacks : length j.stand < k → forget s k ≡ Err NothingLeft
    unfolding forget
    forget-lacks h = rw (o, lt-leb k (length j.stand) h)

-- what an accepted call says
pub record Forgotten (s t : Lent) (k : ℕ) (j : Journal) : Type 0 where
  pub enough : k ≤ length j.stand
  pub is : without (lengths (oldest k j.stand)) s ≡ t

pub forget-says : (s t : Lent) (k : ℕ) (j : Journal) → opened s ≡ Ok j → forget s k ≡ Ok t → Forgotten s t k j
unfolding forget
forget-says s t k j o e =
    let u : Lent = without (lengths (oldest k j.stand)) s in
    let n = need-given (leb k (length j.stand)) NothingLeft (λ _. Ok u) t (rw o at e) in
    record { enough = leb-true k (length j.stand) n.0; is = given_is u t n.1 }

-- there was a journal
pub forget_opened : (s t : Lent) (k : ℕ) → forget s k ≡ Ok t → (j : Journal) × (opened s ≡ Ok j)
unfolding forget
forget_opened s t k e =
    let a = bind-given (opened s) (λ j. need (leb k (length j.stand)) NothingLeft >>= λ _. Ok (without (lengths (oldest k j.stand)) s)) t e in
    (a.0, a.1)

-- its newer edits are left
pub newer-opened : (s : Lent) (k : ℕ) (j : Journal) → opened s ≡ Ok j → opened (without (lengths (oldest k j.stand)) s) ≡ Ok (others k j)
newer-opened s k j o =
    let gone : ℕ = lengths (oldest k j.stand) in
    let h = opened-says s j o in
    let b = h.bounds in
    let w = rest s gone b.used-fits in
    opened-by (without gone s) (others k j) (record {
      bounds = record { used-fits = omega (arith, b.used-fits, w.room); used-bound = omega (arith, b.used-bound); standing-fits = omega (arith, b.standing-fits) };
      reads = rw w.bytes (journal-rest (used_of s) s.standing j (length j.stand - k) h.reads);
    })
