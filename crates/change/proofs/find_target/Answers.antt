-- `find_target` meets its contract: the tests that led to each return say which refusal comes first. Assumes nothing.
use Rattle.std.specs.Prelude.{Err}
use mathlib.Core.Path.{◌≡◌, sym, ◌∙◌}
use mathlib.Core.Bool.{true, false, ◌&&◌}
use mathlib.Core.List.{List}
use Prim.Native.Nat.{ℕ}
use Rattle.fault.specs.declared.Fault.TheVariants.{BadArgument}
use Rattle.text.specs.Escape.{fit_text}
use Rattle.line.specs.Form.{group_form, key_form}
use Rattle.change.specs.Change.{edit_of}
use Rattle.change.specs.Target.{request_by}
use Rattle.change.specs.declared.Operation.{Operation}
use Rattle.change.specs.declared.Operation.TheVariants.{Set, Remove}
use Rattle.change.proofs.find_target.Goals as goal
use Rattle.change.proofs.find_target.Goals.{Else-not-is_key}

-- an argument that is not of the form, whatever is asked for
bad-argument : (file group key text : List ℕ) (op : Operation) → (group_form group && key_form key) ≡ false → Err BadArgument ≡ edit_of file (request_by op group key text)
unfolding edit_of
bad-argument file group key text Set e = rw e
bad-argument file group key text Remove e = rw e

pub returns-then-not-is_group : goal.returns-then-not-is_group
returns-then-not-is_group c =
    let a = c.args in
    record { is = bad-argument a.file.now a.group.now a.key.now a.text.now a.op (rw (sym c.is_group.ensures ∙ c.if-not-is_group.true)); inside = tt }

-- both are of the form
good : (c : Else-not-is_key) → let a = c.args in (group_form a.group.now && key_form a.key.now) ≡ true
good c = rw (sym c.is_group.ensures ∙ c.if-not-is_group.false, sym c.is_key.ensures ∙ c.if-not-is_key.false)

pub returns-then-not-is_key : goal.returns-then-not-is_key
returns-then-not-is_key c =
    let a = c.args in
    record {
      is = bad-argument a.file.now a.group.now a.key.now a.text.now a.op (rw (sym c.is_group.ensures ∙ c.if-not-is_group.false, sym c.is_key.ensures ∙ c.if-not-is_key.true));
      inside = tt;
    }

pub find_remove-requires : goal.find_remove-requires
find_remove-requires c = (c.requires, good (goal.at.find_remove-requires c).Else-not-is_key)

pub returns-in-Remove : goal.returns-in-Remove
unfolding edit_of
returns-in-Remove c =
    let a = c.args in
    let f = c.find_remove.ensures in
    record { is = rw (c.in-Remove.is, good (goal.at.returns-in-Remove c).Else-not-is_key) (f.is a.text.now); inside = f.inside }

pub returns-in-Some : goal.returns-in-Some
unfolding edit_of fit_text
returns-in-Some c = record { is = rw (c.in-Set.is, good (goal.at.returns-in-Some c).Else-not-is_key, ← (sym c.in-Some.is ∙ c.scan.ensures)); inside = tt }

pub returns-in-None : goal.returns-in-None
unfolding edit_of fit_text
returns-in-None c =
    let a = c.args in
    let f = c.find_set.ensures in
    record {
      is = rw (c.in-Set.is, good (goal.at.returns-in-None c).Else-not-is_key, ← (sym c.in-None.is ∙ c.scan.ensures)) (f.is a.text.now);
      inside = f.inside;
    }
