-- What an expansion is asked, and the runs that its items give. Assumes nothing.
use Rattle.std.specs.Prelude.{Option, Some, None, Ok, Err}
use mathlib.Core.Path.{◌≡◌, refl, sym}
use Prim.Native.Nat.{ℕ, zero, suc}
use mathlib.Core.Bool.{Bool, true, false, ◌&&◌}
use mathlib.Core.List.{List, []}
use lib.ListN.{length}
use Rattle.base.specs.Bounds.{list_most}
use Rattle.base.specs.Choice.{pick, maybe, there}
use Rattle.base.specs.Lists.{all}
use Rattle.base.proofs.Tests.{no}
use Rattle.fault.specs.declared.Fault.TheVariants.{BadArgument, UnfitText, Damaged}
use Rattle.fault.specs.Answer.{Answer, ◌>>=◌, need, some_or, then}
use Rattle.record.specs.Record.{read_list}
use Rattle.line.specs.Form.{locale_form}
use Rattle.wellformed.specs.Check.{check}
use Rattle.run.specs.Run.{runs_of}
use Rattle.exec.specs.Expand.{fit_item, fit_location, asked_items}
use Rattle.run.specs.Step.{items_in}

-- a list that reads
pub reads-some : (list : List ℕ) → there (read_list 2 list_most list) ≡ true → read_list 2 list_most list ≡ Some (items_in list)
reads-some list = go (read_list 2 list_most list)
  where
    go : (o : Option (List (List ℕ))) → there o ≡ true → o ≡ Some (maybe o [] (λ items. items))
    go None h = no (cc)
    go (Some bs) h = refl

-- what it says that so many items were counted
pub record Granted (file locale location list : List ℕ) (n : ℕ) : Type 0 where
  pub checks : Ok tt ≡ check file
  pub reads : there (read_list 2 list_most list) ≡ true
  pub counts : n ≡ length (items_in list)
  pub locale-form : locale_form locale ≡ true
  pub is : asked_items file locale location list ≡ Ok (items_in list)

pub asked-given : (file locale location list : List ℕ) {n : ℕ} → Ok n ≡ then length (asked_items file locale location list) → Granted file locale location list n
unfolding asked_items
asked-given file locale location list {n} h =
    go (check file) (read_list 2 list_most list) refl refl h
  where
    last : (t : Bool) (bs : List (List ℕ)) → Ok tt ≡ check file → read_list 2 list_most list ≡ Some bs → locale_form locale ≡ true → (all fit_item bs && fit_location location) ≡ t
        → Ok n ≡ then length (need t UnfitText >>= λ _. Ok bs) → Granted file locale location list n
    last false bs c r l f h = no (cc)
    last true bs c r l f h =
        record {
          checks = c;
          reads = rw r;
          counts = rw r (cc);
          locale-form = l;
          is = rw (← c, r, l, f);
        }

    go : (a : Answer (Unit {0})) (o : Option (List (List ℕ))) → check file ≡ a → read_list 2 list_most list ≡ o
        → Ok n ≡ then length (a >>= λ _. (some_or o Damaged >>= λ items. (need (locale_form locale) BadArgument >>= λ _. (need (all fit_item items && fit_location location) UnfitText >>= λ _. Ok items))))
        → Granted file locale location list n
    go (Err f) o c r h = no (cc)
    go (Ok tt) None c r h = no (cc)
    go (Ok tt) (Some bs) c r h = by (locale_form locale) refl h
      where
        by : (t : Bool) → locale_form locale ≡ t → Ok n ≡ then length (need t BadArgument >>= λ _. (need (all fit_item bs && fit_location location) UnfitText >>= λ _. Ok bs)) → Granted file locale location list n
        by false l h = no (cc)
        by true l h = last (all fit_item bs && fit_location location) bs (sym c) r l refl h

-- ---- runs

pub runs-some : (item : Bool) (n : ℕ) → (n ≡ 0 → ⊥) → runs_of item n ≡ pick item n 1
runs-some item zero h = absurd (h refl)
runs-some item (suc n) h = refl
