-- `asked::no_zero` meets its contract: no byte is 0 just where every byte is another. Assumes nothing.
use mathlib.Core.Path.{◌≡◌, refl, ap, ◌∙◌}
use mathlib.Core.Bool.{Bool, true, false, not, ◌&&◌, ◌||◌}
use mathlib.Core.List.{List, [], ◌∷◌}
use Prim.Native.Nat.{ℕ}
use lib.Dec.{eqb}
use Rattle.std.specs.List.{list_any}
use Rattle.base.specs.Lists.{all}
use Rattle.exec.specs.Expand.{no_zero}
use Rattle.exec.proofs.asked.no_zero.Goals as goal

none_zero : (s : List ℕ) → not (list_any (λ b. eqb b 0) s) ≡ all (λ b. not (eqb b 0)) s
unfolding all
none_zero [] = refl
none_zero (b ∷ s) = go (eqb b 0) (none_zero s)
  where
    go : (t : Bool) → not (list_any (λ b. eqb b 0) s) ≡ all (λ b. not (eqb b 0)) s → not (t || list_any (λ b. eqb b 0) s) ≡ (not t && all (λ b. not (eqb b 0)) s)
    go true e = refl
    go false e = e

pub returns : goal.returns
unfolding no_zero
returns c = ap not c.contains.ensures.value ∙ none_zero c.args.s.now
