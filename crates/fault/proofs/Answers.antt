-- A do block that gives an answer passed each of its lines, and one that refuses was refused by one. Assumes nothing.
use Rattle.std.specs.Prelude.{Option, Some, None, Ok, Err, ok_or, IsErrAnd}
use Rattle.std.proofs.lemmas.Result.{err_from_is_err_and}
use mathlib.Core.Path.{◌≡◌, refl, ap, ◌∙◌}
use mathlib.Core.Bool.{Bool, true, false, false≢true}
use Rattle.base.proofs.Tests.{no}
use Rattle.fault.specs.declared.Fault.{Fault}
use Rattle.fault.specs.Answer.{Answer, ◌>>=◌, need, some_or, unless, then, accepted}

pub bind-given : {A B : Type 0} (x : Answer A) (k : A → Answer B) (b : B) → (x >>= k) ≡ Ok b → (a : A) × (x ≡ Ok a) × (k a ≡ Ok b)
bind-given (Ok a) k b e = (a, refl, e)
bind-given (Err f) k b e = no (cc)

pub need-given : {A : Type 0} (t : Bool) (f : Fault) (k : Unit {0} → Answer A) (a : A) → (need t f >>= k) ≡ Ok a → (t ≡ true) × (k tt ≡ Ok a)
need-given true f k a e = (refl, e)
need-given false f k a e = no (cc)

pub some-given : {A B : Type 0} (o : Option A) (f : Fault) (k : A → Answer B) (b : B) → (some_or o f >>= k) ≡ Ok b → (a : A) × (o ≡ Some a) × (k a ≡ Ok b)
some-given (Some a) f k b e = (a, refl, e)
some-given None f k b e = no (cc)

pub some_is : {A : Type 0} (o : Option A) (f : Fault) (a : A) → some_or o f ≡ Ok a → o ≡ Some a
some_is (Some b) f a e = cc
some_is None f a e = no (cc)

pub unless-refused : (o : Option Fault) (f : Fault) → unless o ≡ Err f → o ≡ Some f
unless-refused None f e = no (cc)
unless-refused (Some g) f e = cc

pub unless-none : (o : Option Fault) → Ok tt ≡ unless o → o ≡ None
unless-none None e = refl
unless-none (Some f) e = no (cc)

-- what was given is one thing
pub given_is : {A : Type 0} (a b : A) → ◌≡◌ {A = Answer A} (Ok a) (Ok b) → a ≡ b
given_is a b e = cc

-- an answer, by what was made of it
pub then-given : {A B : Type 0} (h : A → B) (a : Answer A) {b : B} → Ok b ≡ then h a → (x : A) × (a ≡ Ok x)
then-given h (Ok x) e = (x, refl)
then-given h (Err f) e = no (cc)

pub then-refused : {A B : Type 0} (h : A → B) (a : Answer A) {f : Fault} → Err f ≡ then h a → a ≡ Err f
then-refused h (Ok x) e = no (cc)
then-refused h (Err g) e = cc

pub bind-then : {A B : Type 0} (h : A → B) (a : Answer A) → (a >>= λ x. Ok (h x)) ≡ then h a
bind-then h (Ok x) = refl
bind-then h (Err f) = refl

-- what is accepted was given
pub accepted-given : {A : Type 0} (a : Answer A) → accepted a ≡ true → (x : A) × (a ≡ Ok x)
accepted-given (Ok x) e = (x, refl)
accepted-given (Err f) e = absurd (false≢true e)

-- ---- the code's own words

-- a refusal that is handed on
pub handed-on : {A : Type 0} (r : Answer A) {f : Fault} → IsErrAnd r (λ g. g ≡ f) → r ≡ Err f
handed-on r h = let p = err_from_is_err_and r h in p.1 ∙ ap Err p.2

-- what is there, or else a refusal
pub ok_or-is : {A : Type 0} (o : Option A) (f : Fault) → ok_or o f ≡ some_or o f
ok_or-is (Some a) f = refl
ok_or-is None f = refl
