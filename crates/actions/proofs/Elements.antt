-- The raw elements of a list before a place and from it on, as the loops take them. Assumes nothing.
use mathlib.Core.Path.{◌≡◌, refl, sym, ap, ◌∙◌}
use Prim.Native.Nat.{ℕ, suc, ◌+◌, ◌-◌, ◌≤◌, ◌<◌}
use native.Mathlib.Omega.{arith}
use mathlib.Core.Bool.{Bool, true, false}
use mathlib.Core.List.{List, [], ◌∷◌, ◌++◌, append_assoc, append-nil}
use lib.ListN.{length, take, drop, length-drop, take-append-drop}
use lib.Seq.{take-add, take_all}
use lib.Dec.{eqb, leb}
use borrow.Author.Tests.{leb-true, leb-false}
use Rattle.base.specs.Choice.{pick}
use Rattle.base.specs.Lists.{part}
use Rattle.base.proofs.Scan.{done}
use Rattle.base.proofs.Tests.{by-test}
use Rattle.characters.specs.Bare.{bare_length}
use Rattle.text.specs.Element.{raw_elements}
use Rattle.text.specs.Step.{element_length}
use Rattle.text.proofs.Elements.{split}
use Rattle.actions.specs.Step.{elements}

-- what follows an element and its `;` does not change it
closed : (s : List ℕ) (taken : Bool) → element_length s taken < length s → (t : List ℕ)
    → raw_elements (take (suc (element_length s taken)) s ++ t) taken ≡ take (element_length s taken) s ∷ raw_elements t false
unfolding raw_elements bare_length
closed [] taken h t = absurd (omega arith)
closed (b ∷ bs) true h t = rw (closed bs false (omega arith) t)
closed (b ∷ bs) false h t = go (eqb b 59) refl h (λ k. closed bs (eqb b 92) k t)
  where
    n : ℕ
    n = element_length bs (eqb b 92)

    go : (u : Bool) → eqb b 59 ≡ u → pick u 0 (suc n) < suc (length bs)
        → (n < length bs → raw_elements (take (suc n) bs ++ t) (eqb b 92) ≡ take n bs ∷ raw_elements t false)
        → raw_elements (take (suc (pick u 0 (suc n))) (b ∷ bs) ++ t) false ≡ take (pick u 0 (suc n)) (b ∷ bs) ∷ raw_elements t false
    go true e h ih = rw e
    go false e h ih = rw (e, ih (omega arith))

-- a place that parts a list: what follows does not change the elements before it; behind the end nothing follows
pub record Parted (raw : List ℕ) (i : ℕ) : Type 0 where
  pub parts : (t : List ℕ) → (length raw < i → t ≡ []) → elements (take i raw ++ t) ≡ elements (take i raw) ++ elements t

pub parted-start : (raw : List ℕ) → Parted raw 0
unfolding raw_elements
parted-start raw = record { parts = λ t h. refl }

elements-none : elements [] ≡ []
unfolding raw_elements
elements-none = refl

pub elements-done : (raw : List ℕ) (i : ℕ) → length raw ≤ i → elements (drop i raw) ≡ []
elements-done raw i h = rw (done raw i h) elements-none

module _ {raw : List ℕ} {i e : ℕ} (w : Parted raw i) (h : i < length raw) (q : e ≡ i + element_length (drop i raw) false) where
  abbrev seen : List (List ℕ)
  seen = elements (take i raw)

  -- the element and what follows it
  inside : e < length raw → (t : List ℕ) → elements (take (e + 1) raw ++ t) ≡ seen ++ (part i e raw ∷ elements t)
  inside l t =
      let n : ℕ = element_length (drop i raw) false in
      let m : e + 1 ≡ i + suc n = omega arith in
      let d : n ≡ e - i = omega arith in
      ap (λ (s : List ℕ). elements (s ++ t)) (ap (λ (k : ℕ). take k raw) m ∙ take-add i (suc n) raw)
      ∙ ap elements (append_assoc (take i raw) (take (suc n) (drop i raw)) t)
      ∙ w.parts (take (suc n) (drop i raw) ++ t) (λ z. absurd (omega arith))
      ∙ ap (λ (es : List (List ℕ)). seen ++ es) (closed (drop i raw) false (simp length-drop (omega arith)) t ∙ ap (λ (k : ℕ). take k (drop i raw) ∷ elements t) d)

  -- one more element stands before
  pub seen_next : elements (take (e + 1) raw) ≡ seen ++ (part i e raw ∷ [])
  seen_next =
      by-test (leb (length raw) e)
      (λ t. let l = leb-true (length raw) e t in
      ap elements (take_all (e + 1) raw (omega arith) ∙ sym (take-append-drop i raw))
      ∙ w.parts (drop i raw) (λ z. absurd (omega arith))
      ∙ ap (λ (es : List (List ℕ)). seen ++ es) (split raw i h q ∙ ap (λ (es : List (List ℕ)). part i e raw ∷ es) (elements-done raw (e + 1) (omega arith))))
      (λ f. ap elements (sym (append-nil (take (e + 1) raw))) ∙ inside (leb-false (length raw) e f) [] ∙ ap (λ (es : List (List ℕ)). seen ++ (part i e raw ∷ es)) elements-none)

  pub parted-next : Parted raw (e + 1)
  parted-next =
      record {
        parts =
            λ t k.
            by-test (leb (length raw) e)
            (λ y. let l = leb-true (length raw) e y in
            let z = k (omega arith) in
            rw (z, append-nil (take (e + 1) raw), elements-none, append-nil (elements (take (e + 1) raw))))
            (λ f. inside (leb-false (length raw) e f) t
            ∙ sym (append_assoc seen (part i e raw ∷ []) (elements t))
            ∙ ap (λ (es : List (List ℕ)). es ++ elements t) (sym seen_next));
      }
