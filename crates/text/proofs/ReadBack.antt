-- What is written is read back. Assumes nothing.
use Rattle.std.specs.Prelude.{Some, Ok}
use mathlib.Core.Path.{◌≡◌, refl, sym, ap}
use Prim.Native.Nat.{ℕ, ◌+◌}
use mathlib.Core.Bool.{false}
use mathlib.Core.List.{List, [], ◌∷◌, ◌++◌}
use lib.Dec.{eqb}
use borrow.Author.Tests.{eqb-true}
use Rattle.base.proofs.Tests.{by-test}
use Rattle.fault.specs.Answer.{then}
use Rattle.text.specs.Escape.{text_escape, escape, text_from, read_text, escaped, escaped_all, raw_text}
use Rattle.text.specs.declared.Escapes.TheVariants as escapes

-- a byte with a backslash before it, as `escaped` writes it
read-pair : (b c at : ℕ) (t s : List ℕ) → text_escape c ≡ Some b → ((n : ℕ) → text_from escapes.Text s false n ≡ Ok t) → text_from escapes.Text (92 ∷ c ∷ s) false at ≡ Ok (b ∷ t)
unfolding text_from escape
read-pair b c at t s e ih = rw e (ap (then (λ u. b ∷ u)) (ih (at + 2)))

read_plain : (b at : ℕ) (t s : List ℕ) → eqb b 92 ≡ false → ((n : ℕ) → text_from escapes.Text s false n ≡ Ok t) → text_from escapes.Text (b ∷ s) false at ≡ Ok (b ∷ t)
unfolding text_from
read_plain b at t s e ih = rw e (ap (then (λ u. b ∷ u)) (ih (at + 1)))

read-escaped : (b at : ℕ) (t s : List ℕ) → ((n : ℕ) → text_from escapes.Text s false n ≡ Ok t) → text_from escapes.Text (escaped b ++ s) false at ≡ Ok (b ∷ t)
unfolding escaped
read-escaped b at t s ih =
    by-test (eqb b 92)
    (λ e₁. rw e₁ (read-pair b 92 at t s (unfold text_escape in (ap Some (sym (eqb-true b 92 e₁)))) ih))
    (λ n₁. by-test (eqb b 10)
    (λ e₂. rw (n₁, e₂) (read-pair b 110 at t s (unfold text_escape in (ap Some (sym (eqb-true b 10 e₂)))) ih))
    (λ n₂. by-test (eqb b 9)
    (λ e₃. rw (n₁, n₂, e₃) (read-pair b 116 at t s (unfold text_escape in (ap Some (sym (eqb-true b 9 e₃)))) ih))
    (λ n₃. by-test (eqb b 13)
    (λ e₄. rw (n₁, n₂, n₃, e₄) (read-pair b 114 at t s (unfold text_escape in (ap Some (sym (eqb-true b 13 e₄)))) ih))
    (λ n₄. rw (n₁, n₂, n₃, n₄) (read_plain b at t s n₁ ih)))))

read-escaped_all : (t : List ℕ) (at : ℕ) → text_from escapes.Text (escaped_all t) false at ≡ Ok t
unfolding escaped_all text_from
read-escaped_all [] at = refl
read-escaped_all (b ∷ t) at = read-escaped b at t (escaped_all t) (read-escaped_all t)

-- any text, written as a raw value, reads back
pub read_back : (t : List ℕ) → read_text (raw_text t) ≡ Ok t
unfolding read_text raw_text
read_back [] = unfold text_from in refl
read_back (b ∷ t) =
    by-test (eqb b 32)
    (λ e. rw e (read-pair b 115 0 t (escaped_all t) (unfold text_escape in (ap Some (sym (eqb-true b 32 e)))) (read-escaped_all t)))
    (λ n. rw n (read-escaped b 0 t (escaped_all t) (read-escaped_all t)))
