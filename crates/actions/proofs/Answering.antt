-- The calls, way by way: which answer the definitions have. Assumes nothing.
use Rattle.std.specs.Prelude.{Ok, Err}
use mathlib.Core.Path.{◌≡◌}
use Prim.Native.Nat.{ℕ}
use mathlib.Core.Bool.{true, false, ◌&&◌}
use mathlib.Core.List.{List, []}
use lib.ListN.{length}
use Rattle.base.specs.Lists.{same, any}
use Rattle.fault.specs.declared.Fault.{Fault}
use Rattle.fault.specs.declared.Fault.TheVariants.{BadArgument, Missing}
use Rattle.fault.specs.Answer.{then}
use Rattle.fault.proofs.Answers.{then-refused, bind-then}
use Rattle.record.specs.Record.{list_of}
use Rattle.text.specs.Element.{elements_of}
use Rattle.line.specs.Form.{locale_form}
use Rattle.rows.specs.Rows.{Row, read_rows}
use Rattle.wellformed.specs.Check.{check}
use Rattle.exec.specs.Expand.{asked_items, group_arguments}
use Rattle.run.specs.Step.{items_in}
use Rattle.exec.proofs.Asking.{Granted}
use Rattle.actions.specs.Actions.{actions_value, identifiers, action_group, is_action, listed_from, listed, labelled, actions, expand_action}
use Rattle.actions.specs.Step.{elements}
use Rattle.actions.proofs.Listing.{listed-raw, asked-raw}

-- ---- the list

module _ (rs : List Row) {raw : List ℕ} (q : raw ≡ actions_value rs) where
  listed-wrong : {f : Fault} → elements_of raw ≡ Err f → listed rs ≡ Err f
  unfolding listed identifiers
  listed-wrong e = rw (← q, e)

  listed-given : {ids : List (List ℕ)} → elements_of raw ≡ Ok ids → listed rs ≡ Ok (listed_from rs [] ids)
  unfolding listed identifiers
  listed-given e = rw (← q, e)

-- ---- the call that lists

module _ (file locale : List ℕ) where
  pub list-unsound : {f : Fault} → Err f ≡ check file → actions file locale ≡ Err f
  unfolding actions
  list-unsound e = rw (← e)

  module _ (c : Ok tt ≡ check file) where
    pub list-locale : locale_form locale ≡ false → actions file locale ≡ Err BadArgument
    unfolding actions
    list-locale l = rw (← c, l)

    module _ (l : locale_form locale ≡ true) {raw : List ℕ} (q : raw ≡ actions_value (read_rows file)) where
      pub list-wrong : {f : Fault} → elements_of raw ≡ Err f → actions file locale ≡ Err f
      unfolding actions
      list-wrong e = rw (← c, l, listed-wrong (read_rows file) q e)

      pub list_read : {ids : List (List ℕ)} → elements_of raw ≡ Ok ids
          → actions file locale ≡ then (list_of 2) (labelled (read_rows file) locale (listed_from (read_rows file) [] (elements raw)))
      unfolding actions
      list_read e =
          rw (← c, l, listed-given (read_rows file) q e, listed-raw (read_rows file) raw e) (bind-then (list_of 2) (labelled (read_rows file) locale (listed_from (read_rows file) [] (elements raw))))

-- ---- the expansion of an action

module _ (file action locale location list : List ℕ) (run : ℕ) where
  pub action-unasked : {f : Fault} → Err f ≡ then length (asked_items file locale location list) → expand_action file action locale location list run ≡ Err f
  unfolding expand_action
  action-unasked e = rw (then-refused length (asked_items file locale location list) e)

  module _ {n : ℕ} (g : Granted file locale location list n) {raw : List ℕ} (q : raw ≡ actions_value (read_rows file)) where
    pub action-wrong : {f : Fault} → elements_of raw ≡ Err f → expand_action file action locale location list run ≡ Err f
    unfolding expand_action
    action-wrong e = rw (g.is, listed-wrong (read_rows file) q e)

    module _ {ids : List (List ℕ)} (e : elements_of raw ≡ Ok ids) where
      pub action-other : (any (same action) (elements raw) && is_action (read_rows file) action) ≡ false → expand_action file action locale location list run ≡ Err Missing
      unfolding expand_action
      action-other h = rw (g.is, listed-given (read_rows file) q e, asked-raw (read_rows file) raw e action, h)

      pub action-listed : (any (same action) (elements raw) && is_action (read_rows file) action) ≡ true
          → expand_action file action locale location list run ≡ then (list_of 3) (group_arguments (read_rows file) (action_group action) locale location (items_in list) run)
      unfolding expand_action
      action-listed h =
          rw (g.is, listed-given (read_rows file) q e, asked-raw (read_rows file) raw e action, h)
          (bind-then (list_of 3) (group_arguments (read_rows file) (action_group action) locale location (items_in list) run))
