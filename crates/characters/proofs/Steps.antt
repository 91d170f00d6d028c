-- A text byte by byte: only bytes over 0x7F finish a character, and a value has no LF. Assumes nothing.
use Rattle.std.specs.Prelude.{Option, Some, None, option_map}
use mathlib.Core.Path.{◌≡◌, refl, sym, ap, ◌∙◌, subst}
use Prim.Native.Nat.{ℕ, zero, suc, ◌≤◌, ◌<◌}
use native.Mathlib.Omega.{arith}
use mathlib.Core.Bool.{Bool, true, false, ◌&&◌}
use mathlib.Core.List.{List, [], ◌∷◌}
use lib.Dec.{eqb, leb, ltb}
use borrow.Author.Tests.{eqb-true, lt-leb}
use Rattle.base.specs.Choice.{pick, maybe}
use Rattle.base.proofs.Tests.{no, by-test}
use Rattle.base.proofs.Clean.{Clean}
use Rattle.characters.specs.Class.{within, value_byte}
use Rattle.characters.specs.Utf8.{lead, tails, step, text_fault}
use Rattle.characters.specs.declared.Due.{Due}
use Rattle.characters.specs.declared.Due.TheVariants.{Start, Tail}

-- ---- what is due: only bytes over 0x7F finish a character

abbrev pub High : Due → Type 0
High Start = Unit
High (Tail more low high) = 128 ≤ low

high-of : (x y : Due) → Some x ≡ Some y → High x → High y
high-of x y e h = let p : x ≡ y = cc in subst High p h

lead_high : (b : ℕ) (d : Due) → lead b ≡ Some d → High d
unfolding lead
lead_high b d e = by (within 194 223 b) (eqb b 224) (eqb b 237) (within 225 239 b) (eqb b 240) (within 241 243 b) (eqb b 244) e
  where
    by : (t₁ t₂ t₃ t₄ t₅ t₆ t₇ : Bool)
        → pick t₁ (Some (Tail 0 128 191))
        (pick t₂ (Some (Tail 1 160 191))
        (pick t₃ (Some (Tail 1 128 159))
        (pick t₄ (Some (Tail 1 128 191))
        (pick t₅ (Some (Tail 2 144 191))
        (pick t₆ (Some (Tail 2 128 191)) (pick t₇ (Some (Tail 2 128 143)) None)))))) ≡ Some d → High d
    by true t₂ t₃ t₄ t₅ t₆ t₇ e = high-of _ d e (omega arith)
    by false true t₃ t₄ t₅ t₆ t₇ e = high-of _ d e (omega arith)
    by false false true t₄ t₅ t₆ t₇ e = high-of _ d e (omega arith)
    by false false false true t₅ t₆ t₇ e = high-of _ d e (omega arith)
    by false false false false true t₆ t₇ e = high-of _ d e (omega arith)
    by false false false false false true t₇ e = high-of _ d e (omega arith)
    by false false false false false false true e = high-of _ d e (omega arith)
    by false false false false false false false e = no (cc)

tails-high : (n : ℕ) → High (tails n)
tails-high zero = tt
tails-high (suc n) = omega arith

pub step-high : (plain : ℕ → Bool) (d : Due) (b : ℕ) (next : Due) → High d → step plain d b ≡ Some next → High next
unfolding step
step-high plain Start b next h e = by (ltb b 128) (plain b) e
  where
    by : (t u : Bool) → pick t (pick u (Some Start) None) (lead b) ≡ Some next → High next
    by true true e = high-of Start next e tt
    by true false e = no (cc)
    by false u e = lead_high b next e
step-high plain (Tail more low high) b next h e = by (within low high b) e
  where
    by : (t : Bool) → pick t (Some (tails more)) None ≡ Some next → High next
    by true e = high-of (tails more) next e (tails-high more)
    by false e = no (cc)

-- an ASCII byte stands only where a character may begin
pub low-start : (plain : ℕ → Bool) (d : Due) (b : ℕ) (next : Due) → b < 128 → High d → step plain d b ≡ Some next → d ≡ Start
unfolding step
low-start plain Start b next l h e = refl
low-start plain (Tail more low high) b next l h e =
    let z : None ≡ Some next = sym (ap (λ (t : Bool). pick (t && leb b high) (Some (tails more)) None) (lt-leb low b (omega arith))) ∙ e in no (cc)

-- ---- a text byte by byte

pub record Goes (plain : ℕ → Bool) (d : Due) (b : ℕ) (s : List ℕ) : Type 0 where
  pub next : Due
  pub one : step plain d b ≡ Some next
  pub rest : text_fault plain next s ≡ None

map-none : (o : Option ℕ) → option_map suc o ≡ None → o ≡ None
map-none None e = refl
map-none (Some n) e = no (cc)

pub goes : (plain : ℕ → Bool) (d : Due) (b : ℕ) (s : List ℕ) → text_fault plain d (b ∷ s) ≡ None → Goes plain d b s
unfolding text_fault
goes plain d b s e = by (step plain d b) refl e
  where
    by : (o : Option Due) → step plain d b ≡ o → maybe o (Some 0) (λ next. option_map suc (text_fault plain next s)) ≡ None → Goes plain d b s
    by None i e = no (cc)
    by (Some next) i e = record { next = next; one = i; rest = map-none (text_fault plain next s) e }

pub went : (plain : ℕ → Bool) (d : Due) (b : ℕ) (s : List ℕ) (next : Due) → step plain d b ≡ Some next → text_fault plain next s ≡ None → text_fault plain d (b ∷ s) ≡ None
unfolding text_fault
went plain d b s next e f = rw (e, f)

-- ---- a value

-- a value has no LF
no-lf : (d next : Due) → High d → step value_byte d 10 ≡ Some next → ⊥
unfolding step value_byte
no-lf d next h o =
    let j = low-start value_byte d 10 next (omega arith) h o in
    let z : step value_byte Start 10 ≡ Some next = ap (λ (x : Due). step value_byte x 10) (sym j) ∙ o in
    no (cc)

fault-clean : (s : List ℕ) (d : Due) → High d → text_fault value_byte d s ≡ None → Clean s
fault-clean [] d h e = tt
fault-clean (b ∷ s) d h e =
    let g = goes value_byte d b s e in
    (by-test (eqb b 10) (λ t. absurd (no-lf d g.next h (ap (step value_byte d) (sym (eqb-true b 10 t)) ∙ g.one))) (λ n. n), fault-clean s g.next (step-high value_byte d b g.next h g.one) g.rest)

pub value-clean : (s : List ℕ) → text_fault value_byte Start s ≡ None → Clean s
value-clean s e = fault-clean s Start tt e
