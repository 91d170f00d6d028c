-- What tests say, and what equal constructors cannot be. Assumes nothing.
use Rattle.std.specs.Prelude.{Option, Some, None, option_map}
use mathlib.Core.Path.{◌≡◌, refl, sym, ap, ap₂, ◌∙◌}
use Prim.Native.Nat.{ℕ, zero, suc}
use native.Mathlib.Omega.{arith}
use mathlib.Core.Bool.{Bool, true, false, ◌&&◌, ◌||◌, false≢true}
use mathlib.Core.List.{List, [], ◌∷◌}
use lib.Dec.{eqb, eqb-zero-suc, eqb-suc-zero, eqb-suc-suc}
use lib.Pointwise.{pointwise}
use borrow.Author.Tests.{eq-eqb, eqb-true}
use Rattle.base.specs.Choice.{there}
use Rattle.base.specs.Lists.{same, all}

-- anything, where two constructors would be equal: `no (cc)`
pub no {ℓ} : {X : Type ℓ} → ◌≡◌ {A = ℕ} 0 1 → X
no e = absurd (omega arith)

-- a test, and what it says
pub by-test {ℓ} : {X : Type ℓ} (t : Bool) → (t ≡ true → X) → (t ≡ false → X) → X
by-test true f g = f refl
by-test false f g = g refl

-- what is there, and that nothing is
pub some-there : {A : Type 0} (o : Option A) → there o ≡ true → (a : A) × (o ≡ Some a)
some-there None h = no (cc)
some-there (Some a) h = (a, refl)

pub none-there : {A : Type 0} (o : Option A) → there o ≡ false → o ≡ None
none-there None h = refl
none-there (Some a) h = no (cc)

-- what was made of something that there is, and whether there is something
pub mapped : {A B : Type 0} (f : A → B) (o : Option A) {b : B} → option_map f o ≡ Some b → (a : A) × (o ≡ Some a) × (f a ≡ b)
mapped f None h = no (cc)
mapped f (Some a) h = (a, refl, cc)

pub there-map : {A B : Type 0} (f : A → B) (o : Option A) → there (option_map f o) ≡ there o
there-map f None = refl
there-map f (Some a) = refl

pub and_both : (a b : Bool) → (a && b) ≡ true → (a ≡ true) × (b ≡ true)
and_both true b e = (refl, e)
and_both false b e = absurd (false≢true e)

pub or-both : (a b : Bool) → (a || b) ≡ false → (a ≡ false) × (b ≡ false)
or-both true b e = no (cc)
or-both false b e = (refl, e)

-- a byte of a class is none that is not of it
pub class-other : (p : ℕ → Bool) (b c : ℕ) → p c ≡ false → p b ≡ true → eqb b c ≡ false
class-other p b c n h = by-test (eqb b c) (λ e. absurd (false≢true (sym n ∙ ap p (sym (eqb-true b c e)) ∙ h))) (λ e. e)

pub eqb-sym : (m n : ℕ) → eqb m n ≡ eqb n m
eqb-sym zero zero = refl
eqb-sym zero (suc n) = eqb-zero-suc n ∙ sym (eqb-suc-zero n)
eqb-sym (suc m) zero = eqb-suc-zero m ∙ sym (eqb-zero-suc m)
eqb-sym (suc m) (suc n) = eqb-suc-suc m n ∙ eqb-sym m n ∙ sym (eqb-suc-suc n m)

-- what all pass, all pass that is implied
pub all_weaker : {A : Type 0} (p q : A → Bool) → ((x : A) → p x ≡ true → q x ≡ true) → (s : List A) → all p s ≡ true → all q s ≡ true
unfolding all
all_weaker p q i [] e = refl
all_weaker p q i (x ∷ s) e = let b = and_both (p x) (all p s) e in rw (i x b.0, all_weaker p q i s b.1)

-- ---- byte for byte the same

pub same_refl : (s : List ℕ) → same s s ≡ true
unfolding same
same_refl [] = refl
same_refl (b ∷ s) = rw (eq-eqb b b refl, same_refl s)

pub same_true : (x y : List ℕ) → same x y ≡ true → x ≡ y
unfolding same
same_true [] [] e = refl
same_true [] (b ∷ y) e = absurd (false≢true e)
same_true (a ∷ x) [] e = absurd (false≢true e)
same_true (a ∷ x) (b ∷ y) e = let p = and_both (eqb a b) (same x y) e in rw (eqb-true a b p.0, same_true x y p.1)

pub same-sym : (x y : List ℕ) → same x y ≡ same y x
unfolding same
same-sym [] [] = refl
same-sym [] (b ∷ y) = refl
same-sym (a ∷ x) [] = refl
same-sym (a ∷ x) (b ∷ y) = ap₂ ◌&&◌ (eqb-sym a b) (same-sym x y)

-- what `==` and `starts_with` tell of bytes
pub pointwise_same : (x y : List ℕ) → pointwise eqb x y ≡ same x y
unfolding same
pointwise_same [] [] = refl
pointwise_same [] (b ∷ y) = refl
pointwise_same (a ∷ x) [] = refl
pointwise_same (a ∷ x) (b ∷ y) = ap (λ (t : Bool). eqb a b && t) (pointwise_same x y)

pub same-by : {t : Bool} (x : List ℕ) {y z : List ℕ} → t ≡ pointwise eqb x y → y ≡ z → t ≡ same x z
same-by x {y} e i = e ∙ pointwise_same x y ∙ ap (same x) i

-- ---- what `a || b` answers, by the branch that was taken

pub or-first : {v r : Bool} (a b : Bool) → v ≡ r → r ≡ true → r ≡ a → v ≡ (a || b)
or-first a b i t e = i ∙ t ∙ ap (λ (x : Bool). x || b) (sym t ∙ e)

pub or-second : {v r q : Bool} (a b : Bool) → v ≡ q → r ≡ false → r ≡ a → q ≡ b → v ≡ (a || b)
or-second a b i t e j = i ∙ j ∙ ap (λ (x : Bool). x || b) (sym t ∙ e)
