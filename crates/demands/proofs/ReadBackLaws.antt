-- Text set is the text read back, as far as raw values go. Assumes nothing.
use Rattle.std.specs.Prelude.{Ok}
use mathlib.Core.Path.{◌≡◌, refl}
use Prim.Native.Nat.{ℕ}
use mathlib.Core.Bool.{true}
use mathlib.Core.Bool.{Bool, false}
use mathlib.Core.List.{List}
use Rattle.base.proofs.Tests.{no}
use Rattle.fault.specs.declared.Fault.TheVariants.{UnfitText}
use Rattle.fault.specs.Answer.{◌>>=◌, need}
use Rattle.text.specs.Escape.{write_text, raw_text, fit_text}
use Rattle.text.proofs.ReadBack.{read_back}
use Rattle.text.proofs.Values.{raw-text, raw-front}
use Rattle.demands.specs.ReadBack.{WrittenIsReadBack, WrittenIsAValue, FitIsWritten}

-- what was written is the raw value of a fit text
written : (text raw : List ℕ) → write_text text ≡ Ok raw → (fit_text text ≡ true) × (raw ≡ raw_text text)
unfolding write_text
written text raw e = go (fit_text text) refl e
  where
    go : (t : Bool) → fit_text text ≡ t → (need t UnfitText >>= λ _. Ok (raw_text text)) ≡ Ok raw → (fit_text text ≡ true) × (raw ≡ raw_text text)
    go true f e = (f, cc)
    go false f e = no (cc)

pub written-is-read-back : WrittenIsReadBack
unfolding WrittenIsReadBack
written-is-read-back text raw e = rw (written text raw e).1 (read_back text)

pub written-is-a-value : WrittenIsAValue
unfolding WrittenIsAValue
written-is-a-value text raw e = let w = written text raw e in rw w.1 (rw (raw-text text w.0) refl, raw-front text)

pub fit-is-written : FitIsWritten
unfolding FitIsWritten write_text
fit-is-written text f = rw f
