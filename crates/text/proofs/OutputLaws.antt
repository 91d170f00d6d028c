-- What a call that writes its answer to a lent output leaves, way by way. Assumes nothing.
use Rattle.std.specs.Prelude.{Ok, Err}
use mathlib.Core.Path.{◌≡◌, refl, ap}
use Prim.Native.Nat.{ℕ, ◌≤◌, ◌<◌}
use mathlib.Core.Bool.{true, false≢true}
use mathlib.Core.List.{List}
use lib.ListN.{length}
use borrow.Author.Tests.{le-leb, lt-leb}
use Rattle.base.specs.Over.{at_front}
use Rattle.base.proofs.Tests.{no}
use Rattle.fault.specs.declared.Fault.{Fault}
use Rattle.fault.specs.declared.Fault.TheVariants.{NoRoom}
use Rattle.fault.specs.Answer.{Answer, then, accepted}
use Rattle.text.specs.Output.{written_length, held}
use Rattle.text.specs.Step.{text_of}

-- what the caller is told and what the output holds
abbrev pub Leaves : Answer (List ℕ) → List ℕ → Answer ℕ → List ℕ → Type 0
Leaves a out r out' = record { answer : r ≡ written_length a out; output : out' ≡ held a out }

-- an answer whose length is told is given
pub given-length : (a : Answer (List ℕ)) (n : ℕ) → Ok n ≡ then length a → (accepted a ≡ true) × (n ≡ length (text_of a))
given-length (Ok s) n e = (refl, cc)
given-length (Err f) n e = no (cc)

pub leaves-refused : (a : Answer (List ℕ)) (f : Fault) (out : List ℕ) → a ≡ Err f → Leaves a out (Err f) out
leaves-refused a f out e = rw e (record { answer = refl; output = refl })

pub leaves-full : (a : Answer (List ℕ)) (out : List ℕ) → accepted a ≡ true → length out < length (text_of a) → Leaves a out (Err NoRoom) out
leaves-full (Ok s) out e h = rw (lt-leb (length s) (length out) h) (record { answer = refl; output = refl })
leaves-full (Err f) out e h = absurd (false≢true e)

pub leaves-written : (a : Answer (List ℕ)) (out : List ℕ) {out' : List ℕ} {n : ℕ} → accepted a ≡ true → length (text_of a) ≤ length out
    → (n ≡ length (text_of a)) × (out' ≡ at_front out (text_of a)) → Leaves a out (Ok n) out'
leaves-written (Ok s) out e h w = rw (le-leb (length s) (length out) h) (record { answer = ap Ok w.0; output = w.1 })
leaves-written (Err f) out e h w = absurd (false≢true e)
