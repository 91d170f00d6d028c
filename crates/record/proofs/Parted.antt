-- Lists of records taken apart and put together, whatever their bytes. Assumes nothing.
use Rattle.std.specs.Prelude.{Option, Some, None, option_map}
use mathlib.Core.Path.{◌≡◌, refl, sym, ap, ◌∙◌}
use Prim.Native.Nat.{ℕ, ◌-◌, ◌≤◌}
use native.Mathlib.Omega.{arith}
use mathlib.Core.Bool.{true}
use mathlib.Core.List.{List, [], ◌∷◌, ◌++◌}
use lib.ListN.{length, take, drop, length-append, length-drop, take-append-drop}
use lib.Seq.{take-append-le, drop-append-le, drop-length, drop-drop, length-take-le, take-take, take-add}
use Rattle.base.specs.Lists.{part}
use Rattle.base.proofs.Lists.{length_part}
use Rattle.base.proofs.Tests.{no, by-test}
use Rattle.record.specs.Number.{number_in}
use Rattle.record.specs.Record.{Rec, record_length, length_at, record_at, whole, cut}
use Rattle.record.proofs.Place.{whole-if, whole-bounds}
use Rattle.record.proofs.Sizes.{list_length}
use Rattle.record.proofs.Cut.{cut-none, cut_step, cut-damaged, cut-some}

-- no records, no bytes
cut-empty : (s : List ℕ) → cut s ≡ Some [] → s ≡ []
cut-empty [] e = refl
cut-empty (b ∷ bs) e =
    by-test (whole (b ∷ bs))
    (λ w. go (cut (drop (length_at (b ∷ bs)) (b ∷ bs))) (sym (cut_step (b ∷ bs) w) ∙ e))
    (λ w. no (cc (cut-damaged (b ∷ bs) (omega arith) w)))
  where
    go : (o : Option (List Rec)) → option_map (λ rs. record_at (b ∷ bs) ∷ rs) o ≡ Some [] → b ∷ bs ≡ []
    go None h = no (cc)
    go (Some rs) h = no (cc)

-- a whole record at the front stands there too with more behind it
module _ (x y : List ℕ) (w : whole x ≡ true) where
  front_length_lem : length_at (x ++ y) ≡ length_at x
  front_length_lem = let b = whole-bounds x w in rw (take-append-le 4 x y (omega arith))

  front-part : (from to : ℕ) → from ≤ to → to ≤ length x → part from to (x ++ y) ≡ part from to x
  front-part from to h k = rw (drop-append-le from x y (omega arith)) (take-append-le (to - from) (drop from x) y (simp length-drop (omega arith)))

  front-record : record_at (x ++ y) ≡ record_at x
  front-record =
      let b = whole-bounds x w in
      let c : part 6 (length_at (x ++ y)) (x ++ y) ≡ part 6 (length_at x) x = rw front_length_lem (front-part 6 (length_at x) b.0 b.1) in
      λ i. record { kind = ap number_in (front-part 4 6 (omega arith) (omega arith)) i; body = c i }

  front-whole : whole (x ++ y) ≡ true
  front-whole = let b = whole-bounds x w in let n = front_length_lem in whole-if (x ++ y) (omega (arith, length-append x y)) (omega arith) (omega (arith, length-append x y))

-- records and then others
pub cut-join : (rs : List Rec) (x y : List ℕ) → cut x ≡ Some rs → cut (x ++ y) ≡ option_map (λ qs. rs ++ qs) (cut y)
cut-join [] x y e = rw (cut-empty x e) (go (cut y))
  where
    go : (o : Option (List Rec)) → o ≡ option_map (λ qs. qs) o
    go None = refl
    go (Some qs) = refl
cut-join (r ∷ rs) x y e =
    let c = cut-some x e in
    let b = whole-bounds x c.0 in
    cut_step (x ++ y) (front-whole x y c.0)
    ∙ rw (front-record x y c.0, front_length_lem x y c.0, drop-append-le (length_at x) x y b.1, cut-join rs (drop (length_at x) x) y c.2, c.1) (go (cut y))
  where
    go : (o : Option (List Rec)) → option_map (λ qs. r ∷ qs) (option_map (λ qs. rs ++ qs) o) ≡ option_map (λ qs. r ∷ (rs ++ qs)) o
    go None = refl
    go (Some qs) = refl

-- one record alone
cut-one : (s : List ℕ) → whole s ≡ true → cut (take (length_at s) s) ≡ Some (record_at s ∷ [])
cut-one s w =
    let n : ℕ = length_at s in
    let b = whole-bounds s w in
    let x : List ℕ = take n s in
    let l : length x ≡ n = length-take-le n s b.1 in
    let m : length_at x ≡ n = rw (take-take 4 n s (omega arith)) in
    let u : whole x ≡ true = whole-if x (omega arith) (omega arith) (omega arith) in
    let r : record_at s ≡ record_at x = ap record_at (sym (take-append-drop n s)) ∙ front-record x (drop n s) u in
    let d : drop (length_at x) x ≡ [] = ap (λ (k : ℕ). drop k x) (m ∙ sym l) ∙ drop-length x in
    cut_step x u ∙ ap (λ (t : List ℕ). option_map (λ rs. record_at x ∷ rs) (cut t)) d ∙ ap (option_map (λ rs. record_at x ∷ rs)) cut-none ∙ ap (λ (q : Rec). Some (q ∷ [])) (sym r)

-- the first of some records, and the others
pub cut-parted : (rs qs : List Rec) (s : List ℕ) → cut s ≡ Some (rs ++ qs) → (cut (take (list_length rs) s) ≡ Some rs) × (cut (drop (list_length rs) s) ≡ Some qs)
unfolding list_length
cut-parted [] qs s e = (cut-none, e)
cut-parted (r ∷ rs) qs s e =
    let c = cut-some s e in
    let b = whole-bounds s c.0 in
    let n : record_length r.body ≡ length_at s = rw (← c.1) (omega (arith, length_part 6 (length_at s) s b.1)) in
    let p = cut-parted rs qs (drop (length_at s) s) c.2 in
    (rw (n, take-add (length_at s) (list_length rs) s) (cut-join (record_at s ∷ []) (take (length_at s) s) (take (list_length rs) (drop (length_at s) s)) (cut-one s c.0) ∙ rw (p.0, c.1)), rw (n, ← drop-drop (list_length rs) (length_at s) s) p.1)

-- they fill the bytes
pub cut-length : (rs : List Rec) (s : List ℕ) → cut s ≡ Some rs → list_length rs ≡ length s
unfolding list_length
cut-length [] s e = rw (cut-empty s e)
cut-length (r ∷ rs) s e =
    let c = cut-some s e in
    let b = whole-bounds s c.0 in
    let n : record_length r.body ≡ length_at s = rw (← c.1) (omega (arith, length_part 6 (length_at s) s b.1)) in
    omega (arith, n, b.1, length-drop (length_at s) s, cut-length rs (drop (length_at s) s) c.2)
