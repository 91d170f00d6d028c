-- What holds of an answer's refusal, line by line of a do block. Assumes nothing.
use Rattle.std.specs.Prelude.{Option, Some, None, Ok, Err}
use mathlib.Core.Path.{◌≡◌, refl, sym, ap, ◌∙◌}
use Prim.Native.Nat.{ℕ}
use mathlib.Core.Bool.{Bool, true, false, false≢true}
use lib.Dec.{eqb}
use Rattle.base.specs.Choice.{maybe}
use Rattle.base.proofs.Tests.{no}
use Rattle.fault.specs.declared.Fault.{Fault}
use Rattle.fault.specs.declared.Fault.TheVariants.{TooLong, BadLine, FirstGroup, RepeatedGroup, RepeatedKey, NoPlainKey, BadArgument, Missing, BadEscape, UnfitText, NoRoom, NothingLeft, JournalFull, Damaged, BadExec, BadCode, PostfixesRemain, Incomplete}
use Rattle.fault.specs.Table.{number_of, byte_of}
use Rattle.fault.specs.Answer.{Answer, ◌>>=◌, need, some_or, then}

-- this holds of the refusal, if there is one
abbrev pub IfRefused : {A : Type 0} → (Fault → Type 0) → Answer A → Type 0
IfRefused P (Ok a) = Unit {0}
IfRefused P (Err f) = P f

module _ (P : Fault → Type 0) where
  pub if-then : {A B : Type 0} (h : A → B) (a : Answer A) → IfRefused P a → IfRefused P (then h a)
  if-then h (Ok x) p = tt
  if-then h (Err f) p = p

  pub if-bind : {A B : Type 0} (a : Answer A) (k : A → Answer B) → IfRefused P a → ((x : A) → IfRefused P (k x)) → IfRefused P (a >>= k)
  if-bind (Ok x) k p h = h x
  if-bind (Err f) k p h = p

  pub if-test : (t : Bool) (f : Fault) → P f → IfRefused P (need t f)
  if-test true f p = tt
  if-test false f p = p

  pub if-need : {A : Type 0} (t : Bool) (f : Fault) (k : Unit {0} → Answer A) → P f → ((u : Unit {0}) → IfRefused P (k u)) → IfRefused P (need t f >>= k)
  if-need t f k p h = if-bind (need t f) k (if-test t f p) h

  pub if-or : {A : Type 0} (o : Option A) (f : Fault) → P f → IfRefused P (some_or o f)
  if-or (Some x) f p = tt
  if-or None f p = p

  pub if_some : {A B : Type 0} (o : Option A) (f : Fault) (k : A → Answer B) → P f → ((x : A) → IfRefused P (k x)) → IfRefused P (some_or o f >>= k)
  if_some o f k p h = if-bind (some_or o f) k (if-or o f p) h

  -- a refusal where something is found
  pub if_none : {A : Type 0} (o : Option A) (g : A → Fault) → ((x : A) → P (g x)) → IfRefused {A = Unit {0}} P (maybe o (Ok tt) (λ x. Err (g x)))
  if_none None g p = tt
  if_none (Some x) g p = p x

  -- the refusal that was given
  pub of-refusal : {A : Type 0} (a : Answer A) (f : Fault) → IfRefused P a → a ≡ Err f → P f
  of-refusal (Ok x) f p e = no (cc)
  of-refusal (Err g) f p e = let i : g ≡ f = cc in rw i at p

-- ---- refusals other than 2

-- the refusal's number is not 2
abbrev pub Not2 : Fault → Type 0
Not2 f = eqb (number_of f) 2 ≡ false

-- they have no byte
pub byte-zero : (f : Fault) → Not2 f → byte_of f ≡ 0
byte-zero TooLong n = refl
byte-zero (BadLine line byte) n = absurd (false≢true (sym n))
byte-zero (FirstGroup line) n = refl
byte-zero (RepeatedGroup line) n = refl
byte-zero (RepeatedKey line) n = refl
byte-zero (NoPlainKey line) n = refl
byte-zero BadArgument n = refl
byte-zero Missing n = refl
byte-zero (BadEscape at) n = refl
byte-zero UnfitText n = refl
byte-zero NoRoom n = refl
byte-zero NothingLeft n = refl
byte-zero JournalFull n = refl
byte-zero Damaged n = refl
byte-zero (BadExec at) n = refl
byte-zero (BadCode at) n = refl
byte-zero PostfixesRemain n = refl
byte-zero (Incomplete line) n = refl

-- 2 comes from what is asked later, where the test gives another refusal
pub came-later : {A : Type 0} (t : Bool) (f : Fault) (k : Unit {0} → Answer A) (line byte : ℕ) → Not2 f → (need t f >>= k) ≡ Err (BadLine line byte) → k tt ≡ Err (BadLine line byte)
came-later true f k line byte n e = e
came-later false f k line byte n e = let i : f ≡ BadLine line byte = cc in absurd (false≢true (sym n ∙ ap (λ (g : Fault). eqb (number_of g) 2) i))

-- 2 comes from what is asked first, where nothing asked later gives it
pub came-first : {A B : Type 0} (a : Answer A) (k : A → Answer B) (line byte : ℕ) → ((x : A) → IfRefused Not2 (k x)) → (a >>= k) ≡ Err (BadLine line byte) → a ≡ Err (BadLine line byte)
came-first (Ok x) k line byte h e = absurd (false≢true (sym (of-refusal Not2 (k x) (BadLine line byte) (h x) e)))
came-first (Err f) k line byte h e = cc
