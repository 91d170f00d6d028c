-- `labels::action_left` meets its contract: an element that is not listed takes nothing, another two records. Assumes nothing.
use mathlib.Core.Path.{◌≡◌, refl, sym, ap, ◌∙◌}
use mathlib.Core.Bool.{true}
use mathlib.Core.List.{List}
use Prim.Native.Nat.{ℕ}
use lib.ListN.{length}
use Rattle.base.specs.Lists.{part}
use Rattle.fault.specs.Answer.{then}
use Rattle.text.specs.Escape.{read_text}
use Rattle.fault.proofs.Answers.{then-refused}
use Rattle.rows.specs.Rows.{read_rows}
use Rattle.actions.specs.Actions.{action_group}
use Rattle.actions.specs.Step.{is_listed_at}
use Rattle.actions.proofs.Groups.{group-none, group-some}
use Rattle.actions.proofs.Labelling.{label_value, left_out, label-wrong, label-left}
use Rattle.actions.proofs.labels.action_left.Goals as goal
use Rattle.actions.proofs.labels.action_left.Goals.{After-label}

pub returns-then-group-eq0 : goal.returns-then-group-eq0
returns-then-group-eq0 c =
    let a = c.args in
    let f = group-none (is_listed_at (read_rows a.file.now) a.raw.now a.i a.e) (part a.i a.e a.raw.now) c.group_at-group.ensures c.if-group-eq0.true in
    left_out (read_rows a.file.now) a.locale.now a.raw.now a.i a.e f a.left

-- listed, with its label's value
label_is : (c : After-label) → let a = c.args in let rs = read_rows a.file.now in
    (is_listed_at rs a.raw.now a.i a.e ≡ true) × (c.label.result.now ≡ label_value rs a.locale.now (action_group (part a.i a.e a.raw.now)))
label_is c =
    let a = c.args in
    let g = group-some (is_listed_at (read_rows a.file.now) a.raw.now a.i a.e) (part a.i a.e a.raw.now) c.group_at-group.ensures c.if-group-eq0.false in
    (g.0, c.label.ensures ∙ ap (label_value (read_rows a.file.now) a.locale.now) g.1)

pub returns-in-Err : goal.returns-in-Err
unfolding read_text
returns-in-Err c =
    let w = label_is (goal.at.returns-in-Err c).After-label in
    let a = c.args in
    let v = label_value (read_rows a.file.now) a.locale.now (action_group (part a.i a.e a.raw.now)) in
    (label-wrong (read_rows a.file.now) a.locale.now a.raw.now a.i a.e w.0 a.left
    (then-refused length (read_text v) (sym c.in-Err.is ∙ c.text_length.ensures ∙ ap (λ (x : List ℕ). then length (read_text x)) w.1)))

pub returns-in-Ok : goal.returns-in-Ok
unfolding read_text
returns-in-Ok c =
    let w = label_is (goal.at.returns-in-Ok c).After-label in
    let a = c.args in
    label-left (read_rows a.file.now) a.locale.now a.raw.now a.i a.e w.0 a.left c.requires.3 refl
    (sym c.in-Ok.is ∙ c.text_length.ensures ∙ ap (λ (x : List ℕ). then length (read_text x)) w.1)
    c.spend.ensures c.spend-in-Ok.ensures c.spend-in-Ok-2.ensures
