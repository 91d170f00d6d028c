-- Questions to the elements of a list: some, the first, the last. Assumes nothing.
use Rattle.std.specs.Prelude.{Option, Some, None}
use mathlib.Core.Path.{◌≡◌, refl, sym, ap, ap₂, ◌∙◌}
use mathlib.Core.Bool.{Bool, true, false, not, ◌&&◌, ◌||◌, or-true}
use mathlib.Core.List.{List, [], ◌∷◌, ◌++◌, map}
use Rattle.base.specs.Choice.{pick, maybe, there}
use Rattle.base.specs.Lists.{any, all, first, last}
use Rattle.base.proofs.Tests.{no, or-both}

module _ {A : Type 0} (p : A → Bool) where
  -- ---- some

  pub any_append : (xs ys : List A) → any p (xs ++ ys) ≡ (any p xs || any p ys)
  unfolding any
  any_append [] ys = refl
  any_append (x ∷ xs) ys = go (p x) (any_append xs ys)
    where
      go : (t : Bool) → any p (xs ++ ys) ≡ (any p xs || any p ys) → (t || any p (xs ++ ys)) ≡ ((t || any p xs) || any p ys)
      go true e = refl
      go false e = e

  swap : (a b c : Bool) → (a || (b || c)) ≡ (b || (a || c))
  swap true b c = sym (or-true b)
  swap false b c = refl

  -- one more in the middle
  pub any-middle : (xs : List A) (y : A) (ys : List A) → any p (xs ++ (y ∷ ys)) ≡ (p y || any p (xs ++ ys))
  unfolding any
  any-middle [] y ys = refl
  any-middle (x ∷ xs) y ys = ap (λ (r : Bool). p x || r) (any-middle xs y ys) ∙ swap (p x) (p y) (any p (xs ++ ys))

  -- none, or every one fails
  pub all-not : (xs : List A) → all (λ x. not (p x)) xs ≡ not (any p xs)
  unfolding any all
  all-not [] = refl
  all-not (x ∷ xs) = go (p x) (all-not xs)
    where
      go : (t : Bool) → all (λ x. not (p x)) xs ≡ not (any p xs) → (not t && all (λ x. not (p x)) xs) ≡ not (t || any p xs)
      go true e = refl
      go false e = e

  -- another question with the same answers
  pub any-as : (q : A → Bool) → ((x : A) → p x ≡ q x) → (xs : List A) → any p xs ≡ any q xs
  unfolding any
  any-as q k [] = refl
  any-as q k (x ∷ xs) = ap₂ ◌||◌ (k x) (any-as q k xs)

  pub any-map : {B : Type 0} (f : B → A) (xs : List B) → any p (map f xs) ≡ any (λ x. p (f x)) xs
  unfolding any
  any-map f [] = refl
  any-map f (x ∷ xs) = ap (λ (r : Bool). p (f x) || r) (any-map f xs)

  -- ---- the first

  -- it is there if some element passes
  pub there-first : (xs : List A) → there (first p xs) ≡ any p xs
  unfolding first any
  there-first [] = refl
  there-first (x ∷ xs) = go (p x) (there-first xs)
    where
      go : (t : Bool) → there (first p xs) ≡ any p xs → there (pick t (Some x) (first p xs)) ≡ (t || any p xs)
      go true e = refl
      go false e = e

  pub first-append : (xs ys : List A) → first p (xs ++ ys) ≡ maybe (first p xs) (first p ys) Some
  unfolding first
  first-append [] ys = refl
  first-append (x ∷ xs) ys = go (p x) (first-append xs ys)
    where
      go : (t : Bool) → first p (xs ++ ys) ≡ maybe (first p xs) (first p ys) Some
          → pick t (Some x) (first p (xs ++ ys)) ≡ maybe (pick t (Some x) (first p xs)) (first p ys) Some
      go true e = refl
      go false e = e

  pub first-none : (xs : List A) → any p xs ≡ false → first p xs ≡ None
  first-none xs e = go (first p xs) (there-first xs ∙ e)
    where
      go : (o : Option A) → there o ≡ false → o ≡ None
      go None e = refl
      go (Some x) e = no (cc)

  -- it passes
  pub first_passes : (xs : List A) (x : A) → first p xs ≡ Some x → p x ≡ true
  unfolding first
  first_passes [] x e = no (cc)
  first_passes (y ∷ xs) x e = go (p y) refl e (first_passes xs x)
    where
      go : (t : Bool) → p y ≡ t → pick t (Some y) (first p xs) ≡ Some x → (first p xs ≡ Some x → p x ≡ true) → p x ≡ true
      go true i e k = let z : y ≡ x = cc in rw (← z) i
      go false i e k = k e

  -- ---- the last

  pub there-last : (xs : List A) → there (last p xs) ≡ any p xs
  unfolding last any
  there-last [] = refl
  there-last (x ∷ xs) = go (last p xs) (p x) (there-last xs)
    where
      go : (o : Option A) (t : Bool) → there o ≡ any p xs → there (maybe o (pick t (Some x) None) Some) ≡ (t || any p xs)
      go None true e = refl
      go None false e = e
      go (Some y) t e = rw (← e) (sym (or-true t))

  pub last-append : (xs ys : List A) → last p (xs ++ ys) ≡ maybe (last p ys) (last p xs) Some
  unfolding last
  last-append [] ys = go (last p ys)
    where
      go : (o : Option A) → o ≡ maybe o None Some
      go None = refl
      go (Some y) = refl
  last-append (x ∷ xs) ys = go (last p ys) (last-append xs ys)
    where
      go : (o : Option A) → last p (xs ++ ys) ≡ maybe o (last p xs) Some
          → maybe (last p (xs ++ ys)) (pick (p x) (Some x) None) Some ≡ maybe o (maybe (last p xs) (pick (p x) (Some x) None) Some) Some
      go None e = rw e
      go (Some y) e = rw e

-- what three questions deny of each element, a fourth may
pub any_none : {A : Type 0} (p q r s : A → Bool) → ((x : A) → p x ≡ false → q x ≡ false → r x ≡ false → s x ≡ false)
    → (xs : List A) → any p xs ≡ false → any q xs ≡ false → any r xs ≡ false → any s xs ≡ false
unfolding any
any_none p q r s k [] e f g = refl
any_none p q r s k (x ∷ xs) e f g =
    let e₁ = or-both (p x) (any p xs) e in
    let f₁ = or-both (q x) (any q xs) f in
    let g₁ = or-both (r x) (any r xs) g in
    rw (k x e₁.0 f₁.0 g₁.0) (any_none p q r s k xs e₁.1 f₁.1 g₁.1)
