-- An identifier in key form has no escapes: its text is its raw element. Assumes nothing.
use Rattle.std.specs.Prelude.{Option, Some, None, Ok, Err}
use mathlib.Core.Path.{◌≡◌, refl, sym, ap, ◌∙◌}
use Prim.Native.Nat.{ℕ, ◌+◌}
use mathlib.Core.Bool.{Bool, true, false, not, false≢true}
use mathlib.Core.List.{List, [], ◌∷◌}
use lib.ListN.{length}
use lib.Dec.{eqb}
use Rattle.base.specs.Choice.{pick, maybe}
use Rattle.base.specs.Lists.{same, all}
use Rattle.base.proofs.Tests.{no, by-test, and_both, class-other, same_true}
use Rattle.fault.specs.declared.Fault.TheVariants.{BadEscape}
use Rattle.fault.specs.Answer.{Answer, ◌>>=◌, then}
use Rattle.characters.specs.Class.{key_byte}
use Rattle.text.specs.Escape.{text_escape, escape, text_from}
use Rattle.text.specs.Element.{each_read}
use Rattle.text.specs.declared.Escapes.TheVariants as escapes
use Rattle.line.specs.Form.{plain_form}

-- an escape stands for no byte of a key
escape-other : (c : ℕ) → maybe (escape escapes.List c) true (λ x. not (key_byte x)) ≡ true
unfolding escape text_escape key_byte
escape-other c = go (eqb c 59) (eqb c 115) (eqb c 110) (eqb c 116) (eqb c 114) (eqb c 92)
  where
    go : (s a b d e f : Bool)
        → maybe (pick s (Some 59) (pick a (Some 32) (pick b (Some 10) (pick d (Some 9) (pick e (Some 13) (pick f (Some 92) None)))))) true (λ x. not (key_byte x)) ≡ true
    go true a b d e f = refl
    go false true b d e f = refl
    go false false true d e f = refl
    go false false false true e f = refl
    go false false false false true f = refl
    go false false false false false true = refl
    go false false false false false false = refl

-- bytes of a key are their own text
keys-read : (s : List ℕ) (at : ℕ) → all key_byte s ≡ true → text_from escapes.List s false at ≡ Ok s
unfolding text_from all
keys-read [] at h = refl
keys-read (b ∷ s) at h =
    let k = and_both (key_byte b) (all key_byte s) h in
    rw (class-other key_byte b 92 (unfold key_byte in refl) k.0, keys-read s (at + 1) k.1)

-- a text that begins with an escape has another byte
pair-other : (s : List ℕ) (at : ℕ) (t : List ℕ) → text_from escapes.List s true at ≡ Ok t → all key_byte t ≡ false
unfolding text_from all
pair-other [] at t e = no (cc)
pair-other (c ∷ s) at t e = go (escape escapes.List c) (text_from escapes.List s false (at + 2)) (escape-other c) e
  where
    go : (o : Option ℕ) (a : Answer (List ℕ)) → maybe o true (λ x. not (key_byte x)) ≡ true
        → maybe o (Err (BadEscape at)) (λ x. then (λ u. x ∷ u) a) ≡ Ok t → all key_byte t ≡ false
    go None a k e = no (cc)
    go (Some x) (Err f) k e = no (cc)
    go (Some x) (Ok u) k e = let z : t ≡ x ∷ u = cc in rw z (by-test (key_byte x) (λ y. absurd (false≢true (rw y at k))) (λ y. rw y))

-- a text of such bytes has no escape
read-keys : (s : List ℕ) (at : ℕ) (t : List ℕ) → text_from escapes.List s false at ≡ Ok t → all key_byte t ≡ true → t ≡ s
unfolding text_from all
read-keys [] at t e k = cc
read-keys (b ∷ s) at t e k = go (eqb b 92) (text_from escapes.List s false (at + 1)) refl e (λ u. read-keys s (at + 1) u)
  where
    go : (x : Bool) (a : Answer (List ℕ)) → text_from escapes.List s false (at + 1) ≡ a → pick x (text_from escapes.List s true at) (then (λ u. b ∷ u) a) ≡ Ok t
        → ((u : List ℕ) → text_from escapes.List s false (at + 1) ≡ Ok u → all key_byte u ≡ true → u ≡ s) → t ≡ b ∷ s
    go true a q e ih = absurd (false≢true (sym (pair-other s at t e) ∙ k))
    go false (Err f) q e ih = no (cc)
    go false (Ok u) q e ih =
        let z : t ≡ b ∷ u = cc in
        z ∙ ap (λ (v : List ℕ). b ∷ v) (ih u q (and_both (key_byte b) (all key_byte u) (rw z at k)).1)

-- a text and its raw element: both in key form or neither, and then they are the same
pub record Alike (t e : List ℕ) : Type 0 where
  pub form : plain_form t ≡ plain_form e
  pub same_text : plain_form e ≡ true → t ≡ e

read_alike : (e : List ℕ) (at : ℕ) (t : List ℕ) → text_from escapes.List e false at ≡ Ok t → Alike t e
unfolding plain_form
read_alike e at t r =
    record {
      form = by-test (plain_form e) (λ p. ap plain_form (is p)) (λ n. by-test (plain_form t) (λ p. absurd (false≢true (sym n ∙ ap plain_form (sym (back p)) ∙ p))) (λ m. m ∙ sym n));
      same_text = is;
    }
  where
    is : plain_form e ≡ true → t ≡ e
    is p = let k = keys-read e at (and_both (not (eqb (length e) 0)) (all key_byte e) p).1 in cc

    back : plain_form t ≡ true → t ≡ e
    back p = read-keys e at t r (and_both (not (eqb (length t) 0)) (all key_byte t) p).1

-- an identifier in key form is the text exactly if it is the raw element
pub alike_same : {t e : List ℕ} → Alike t e → (id : List ℕ) → plain_form id ≡ true → same id t ≡ same id e
alike_same {t} {e} w id p =
    by-test (plain_form e)
    (λ f. ap (same id) (w.same_text f))
    (λ f. other t (w.form ∙ f) ∙ sym (other e f))
  where
    other : (x : List ℕ) → plain_form x ≡ false → same id x ≡ false
    other x f = by-test (same id x) (λ s. absurd (false≢true (sym f ∙ ap plain_form (sym (same_true id x s)) ∙ p))) (λ s. s)

-- ---- all of a list

abbrev pub AllAlike : List (List ℕ) → List (List ℕ) → Type 0
AllAlike [] [] = Unit
AllAlike [] (e ∷ es) = ⊥
AllAlike (t ∷ ts) [] = ⊥
AllAlike (t ∷ ts) (e ∷ es) = Alike t e × AllAlike ts es

pub all_alike : (es : List (List ℕ)) (at : ℕ) (ts : List (List ℕ)) → each_read es at ≡ Ok ts → AllAlike ts es
unfolding each_read
all_alike [] at ts r = let z : ts ≡ [] = cc in rw z tt
all_alike (e ∷ es) at ts r =
    go (text_from escapes.List e false at) (each_read es (at + length e + 1)) refl r (λ us. all_alike es (at + length e + 1) us)
  where
    go : (a : Answer (List ℕ)) (b : Answer (List (List ℕ))) → text_from escapes.List e false at ≡ a → (a >>= λ t. (b >>= λ us. Ok (t ∷ us))) ≡ Ok ts
        → ((us : List (List ℕ)) → b ≡ Ok us → AllAlike us es) → AllAlike ts (e ∷ es)
    go (Err f) b q r ih = no (cc)
    go (Ok t) (Err f) q r ih = no (cc)
    go (Ok t) (Ok us) q r ih = let z : ts ≡ t ∷ us = cc in rw z (read_alike e at t q, ih us refl)
