-- `codes::one_of` meets its contract: a byte of the set is this one. Assumes nothing.
use Rattle.std.proofs.Common.{rules, tests, ◌≡◌, ◌∙◌, ap, ℕ, Bool, ◌||◌, List, [], ◌∷◌, refl}
use Rattle.std.proofs.lemmas.Iterator.{YieldsList-from_slice}
use Rattle.std.proofs.lemmas.Iterator.Search.{any_from_yields_List}
use Rattle.std.specs.List.{list_any}
use lib.Dec.{eqb}
use Rattle.base.specs.Lists.{any}
use Rattle.command.proofs.codes.one_of.Goals as goal

any_same : (p : ℕ → Bool) (s : List ℕ) → list_any p s ≡ any p s
unfolding any
any_same p [] = refl
any_same p (b ∷ s) = ap (λ (t : Bool). p b || t) (any_same p s)

pub returns : goal.returns
returns c =
    any_from_yields_List (eqb c.args.b) _ _ c.any.result c.any.ensures.ran (YieldsList-from_slice c.args.set.now cc) (λ x b q k. search (rules, tests))
    ∙ any_same (eqb c.args.b) c.args.set.now
