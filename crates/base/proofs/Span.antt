-- How far the bytes of a class reach at the front of a list. Assumes nothing.
use mathlib.Core.Path.{◌≡◌, refl, sym, ap, ◌∙◌}
use Prim.Native.Nat.{ℕ, zero, suc, suc-le-suc, ◌+◌, ◌-◌, ◌≤◌, ◌<◌}
use native.Mathlib.Numerals.{add-one}
use native.Mathlib.Omega.{arith}
use mathlib.Core.Bool.{Bool, true, false, ◌&&◌}
use mathlib.Core.List.{List, [], ◌∷◌, ◌++◌}
use lib.ListN.{length, take, drop, get_or, length-drop}
use lib.Seq.{drop-append-le, take-suc, get_or-drop, drop-drop}
use borrow.Author.Tests.{eqb-true}
use lib.Dec.{eqb, eqb-zero-suc, eqb-suc-zero, eqb-suc-suc}
use Rattle.base.specs.Choice.{pick}
use Rattle.base.specs.Lists.{span, all}
use Rattle.base.proofs.Tests.{no, and_both}
use Rattle.base.proofs.Scan.{here, done}

pub span-le : (p : ℕ → Bool) (s : List ℕ) → span p s ≤ length s
unfolding span
span-le p [] = omega arith
span-le p (b ∷ s) = go (p b) (span-le p s)
  where
    go : (t : Bool) → span p s ≤ length s → pick t (suc (span p s)) 0 ≤ suc (length s)
    go true h = omega arith
    go false h = omega arith

-- none, where the first byte is of another class, and some, where it is not
pub span-zero : (p : ℕ → Bool) (b : ℕ) (s : List ℕ) → p b ≡ false → span p (b ∷ s) ≡ 0
unfolding span
span-zero p b s e = rw e

pub span-some : (p : ℕ → Bool) (b : ℕ) (s : List ℕ) → p b ≡ true → eqb (span p (b ∷ s)) 0 ≡ false
unfolding span
span-some p b s e = rw e (eqb-suc-zero (span p s))

-- from a place inside on, they end inside
pub span-from : (p : ℕ → Bool) (s : List ℕ) (from : ℕ) → from ≤ length s → from + span p (drop from s) ≤ length s
span-from p s from h = omega (arith, span-le p (drop from s), length-drop from s)

-- they reach to the end exactly if all are of the class
pub span-all : (p : ℕ → Bool) (s : List ℕ) → eqb (span p s) (length s) ≡ all p s
unfolding span all
span-all p [] = refl
span-all p (b ∷ s) = go (p b) (span-all p s)
  where
    go : (t : Bool) → eqb (span p s) (length s) ≡ all p s → eqb (pick t (suc (span p s)) 0) (suc (length s)) ≡ (t && all p s)
    go true h = eqb-suc-suc (span p s) (length s) ∙ h
    go false h = eqb-zero-suc (length s)

-- ---- a front p with another ending w

-- a place inside p, or at its end, where w stops what is read
abbrev pub Cut : Type 0 → List ℕ → ℕ → Type 0
Cut stops p n = (n ≤ length p) × (n ≡ length p → stops)

pub cut-le : (stops : Type 0) (p : List ℕ) (m n : ℕ) → m ≤ n → Cut stops p n → Cut stops p m
cut-le stops p m n h c = let l = c.0 in (omega arith, λ e. c.1 (omega arith))

pub cut_inside : (stops : Type 0) (p : List ℕ) (n : ℕ) → n < length p → Cut stops p n
cut_inside stops p n h = (omega arith, λ e. absurd (omega arith))

-- what is read up to a place is the same with w, where w stops it
abbrev pub Sames : {A : Type 0} → (A → ℕ) → (List ℕ → A) → List ℕ → Type 0 → Type 0
Sames place f w stops = (p v : List ℕ) → Cut stops p (place (f (p ++ v))) → f (p ++ w) ≡ f (p ++ v)

-- the same from a place inside on
pub same_at : {A : Type 0} (place : A → ℕ) (f : List ℕ → A) (w : List ℕ) (stops : Type 0) → Sames place f w stops
    → (p v : List ℕ) (n : ℕ) → Cut stops p (n + place (f (drop n (p ++ v)))) → f (drop n (p ++ w)) ≡ f (drop n (p ++ v))
same_at place f w stops s p v n c =
    let h : n ≤ length p = omega (arith, c.0) in
    let a = drop-append-le n p v h in
    let b : n + place (f (drop n p ++ v)) ≤ length p = rw (← a) c.0 in
    let d = length-drop n p in
    let k : Cut stops (drop n p) (place (f (drop n p ++ v))) = (omega arith, λ e. c.1 (rw a (omega arith))) in
    rw (drop-append-le n p w h, a) (s (drop n p) v k)

pub span_same : (q : ℕ → Bool) (w : List ℕ) → Sames (λ n. n) (span q) w (span q w ≡ 0)
unfolding span
span_same q w [] v c = let e : span q v ≡ 0 = omega (arith, c.0) in c.1 e ∙ sym e
span_same q w (b ∷ p) v c = go (q b) c (span_same q w p v)
  where
    go : (t : Bool) → Cut (span q w ≡ 0) (b ∷ p) (pick t (suc (span q (p ++ v))) 0) → (Cut (span q w ≡ 0) p (span q (p ++ v)) → span q (p ++ w) ≡ span q (p ++ v))
        → pick t (suc (span q (p ++ w))) 0 ≡ pick t (suc (span q (p ++ v))) 0
    go true c r = let h = c.0 in ap suc (r (omega arith, λ e. c.1 (ap suc e)))
    go false c r = refl

pub span-same-at : (q : ℕ → Bool) (w p v : List ℕ) (n : ℕ) → Cut (span q w ≡ 0) p (n + span q (drop n (p ++ v))) → span q (drop n (p ++ w)) ≡ span q (drop n (p ++ v))
span-same-at q w = same_at (λ n. n) (span q) w (span q w ≡ 0) (span_same q w)

-- where all are of another class
pub span_none : (p q : ℕ → Bool) → ((b : ℕ) → p b ≡ true → q b ≡ false) → (s : List ℕ) → all p s ≡ true → span q s ≡ 0
unfolding span all
span_none p q i [] e = refl
span_none p q i (b ∷ s) e = rw (i b (and_both (p b) (all p s) e).0)

-- a front that the span ends in has the same
pub span-take : (p : ℕ → Bool) (n : ℕ) (s : List ℕ) → span p s ≤ n → span p (take n s) ≡ span p s
unfolding span
span-take p zero s h = sym (zero_of (span p s) h)
  where
    zero_of : (m : ℕ) → m ≤ 0 → m ≡ 0
    zero_of m h = omega arith
span-take p (suc n) [] h = refl
span-take p (suc n) (b ∷ s) h = go (p b) h (span-take p n s)
  where
    go : (t : Bool) → pick t (suc (span p s)) 0 ≤ suc n → (span p s ≤ n → span p (take n s) ≡ span p s) → pick t (suc (span p (take n s))) 0 ≡ pick t (suc (span p s)) 0
    go true h f = ap suc (f (omega arith))
    go false h f = refl

-- ---- by so many bytes at a time

all_more : (p : ℕ → Bool) (s : List ℕ) (x : ℕ) → all p (s ++ (x ∷ [])) ≡ (all p s && p x)
unfolding all
all_more p [] x = go (p x)
  where
    go : (t : Bool) → (t && true) ≡ t
    go true = refl
    go false = refl
all_more p (b ∷ s) x = go (p b) (all_more p s x)
  where
    go : (t : Bool) → all p (s ++ (x ∷ [])) ≡ (all p s && p x) → (t && all p (s ++ (x ∷ []))) ≡ ((t && all p s) && p x)
    go true e = e
    go false e = refl

-- one byte more of those from a place on
pub all-next : (p : ℕ → Bool) (s : List ℕ) (i j : ℕ) → i + j < length s → all p (take (j + 1) (drop i s)) ≡ (all p (take j (drop i s)) && p (get_or s (i + j) 0))
all-next p s i j h = rw (add-one j, take-suc (drop i s) j 0 (simp length-drop (omega arith)), get_or-drop) (all_more p (take j (drop i s)) (get_or s (i + j) 0))

-- where the first n bytes are all of the class, the span goes on behind them
pub span-skip : (p : ℕ → Bool) (n : ℕ) (s : List ℕ) → n ≤ length s → all p (take n s) ≡ true → span p s ≡ n + span p (drop n s)
unfolding span all
span-skip p zero s h e = omega arith
span-skip p (suc n) [] h e = absurd (omega arith)
span-skip p (suc n) (b ∷ s) h e =
    let q = and_both (p b) (all p (take n s)) e in
    rw q.0 (omega (arith, span-skip p n s (omega arith) q.1))

-- where they are not, it ends among them
pub span-short : (p : ℕ → Bool) (n : ℕ) (s : List ℕ) → all p (take n s) ≡ false → span p s < n
unfolding span all
span-short p zero s e = no (cc)
span-short p (suc n) [] e = no (cc)
span-short p (suc n) (b ∷ s) e = go (p b) e (span-short p n s)
  where
    go : (t : Bool) → (t && all p (take n s)) ≡ false → (all p (take n s) ≡ false → span p s < n) → pick t (suc (span p s)) 0 < suc n
    go true f more = suc-le-suc (more f)
    go false f more = omega arith

all_drop : (p : ℕ → Bool) (n : ℕ) (s : List ℕ) → all p s ≡ true → all p (drop n s) ≡ true
unfolding all
all_drop p zero s e = e
all_drop p (suc n) [] e = e
all_drop p (suc n) (b ∷ s) e = all_drop p n s (and_both (p b) (all p s) e).1

-- where the bytes from an earlier place on are all of the class, the span goes to the end
pub span_last : (p : ℕ → Bool) (s : List ℕ) (m i : ℕ) → m ≤ i → i ≤ length s → all p (drop m s) ≡ true → length s ≡ i + span p (drop i s)
span_last p s m i h l e =
    let k : m + (i - m) ≡ i = omega arith in
    let f : all p (drop i s) ≡ true = sym (ap (λ (t : List ℕ). all p t) (drop-drop (i - m) m s ∙ ap (λ (n : ℕ). drop n s) k)) ∙ all_drop p (i - m) (drop m s) e in
    omega (arith, eqb-true (span p (drop i s)) (length (drop i s)) (span-all p (drop i s) ∙ f), length-drop i s)

-- ---- a scan in progress: what is left to pass from i is the whole answer

pub record Spanning (p : ℕ → Bool) (s : List ℕ) (from i : ℕ) : Type 0 where
  pub is : i + span p (drop i s) ≡ from + span p (drop from s)

pub span-start : {p : ℕ → Bool} {s : List ℕ} {from : ℕ} → Spanning p s from from
span-start = record { is = refl }

module _ {p : ℕ → Bool} {s : List ℕ} {from i : ℕ} (w : Spanning p s from i) where
  pub span-goes : i < length s → p (get_or s i 0) ≡ true → Spanning p s from (i + 1)
  unfolding span
  span-goes h e = record { is = omega (arith, rw (here s i h, e) at w.is) }

  pub span-stops : i < length s → p (get_or s i 0) ≡ false → i ≡ from + span p (drop from s)
  unfolding span
  span-stops h e = omega (arith, rw (here s i h, e) at w.is)

  pub span-ends : length s ≤ i → i ≡ from + span p (drop from s)
  unfolding span
  span-ends h = omega (arith, rw (done s i h) at w.is)
