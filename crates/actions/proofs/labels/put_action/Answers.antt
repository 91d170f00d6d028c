-- `labels::put_action` meets its contract: the identifier's record, and the label's right behind it. Assumes nothing.
use mathlib.Core.Path.{◌≡◌, ap, ◌∙◌}
use mathlib.Core.Bool.{true}
use Rattle.base.specs.Lists.{part}
use Rattle.text.specs.Escape.{read_text}
use Rattle.rows.specs.Rows.{read_rows}
use Rattle.actions.specs.Actions.{action_group}
use Rattle.actions.specs.Step.{is_listed_at}
use Rattle.actions.proofs.Groups.{group-none, group-some}
use Rattle.actions.proofs.Labelling.{label_value, nothing_put, label-sound, id-fits, label-fits, both-put}
use Rattle.actions.proofs.labels.put_action.Goals as goal
use Rattle.actions.proofs.labels.put_action.Goals.{After-label, Else-group-eq0}

pub returns-then-group-eq0 : goal.returns-then-group-eq0
returns-then-group-eq0 c =
    let a = c.args in
    let f = group-none (is_listed_at (read_rows a.file.now) a.raw.now a.i a.e) (part a.i a.e a.raw.now) c.group_at-group.ensures c.if-group-eq0.true in
    nothing_put (read_rows a.file.now) a.locale.now a.raw.now a.i a.e f a.out.now a.at

-- listed
group-is : (c : Else-group-eq0) → let a = c.args in
    (is_listed_at (read_rows a.file.now) a.raw.now a.i a.e ≡ true) × (c.group_at-group.result.now ≡ action_group (part a.i a.e a.raw.now))
group-is c =
    let a = c.args in
    group-some (is_listed_at (read_rows a.file.now) a.raw.now a.i a.e) (part a.i a.e a.raw.now) c.group_at-group.ensures c.if-group-eq0.false

-- its label's value
label_is : (c : After-label) → let a = c.args in
    c.label.result.now ≡ label_value (read_rows a.file.now) a.locale.now (action_group (part a.i a.e a.raw.now))
label_is c =
    let a = c.args in
    c.label.ensures
    ∙ ap (label_value (read_rows a.file.now) a.locale.now) (group-some (is_listed_at (read_rows a.file.now) a.raw.now a.i a.e) (part a.i a.e a.raw.now) c.group_at-group.ensures c.if-group-eq0.false).1

pub put-next-requires : goal.put-next-requires
put-next-requires c =
    let a = c.args in
    id-fits (read_rows a.file.now) a.locale.now a.raw.now a.i a.e (group-is (goal.at.put-next-requires c).Else-group-eq0).0 c.requires.4 a.out.now a.at c.requires.5

pub put-requires : goal.put-requires
unfolding read_text
put-requires c =
    let a = c.args in
    let rs = read_rows a.file.now in
    rw (label_is (goal.at.put-requires c).After-label) (
      label-sound rs a.locale.now a.raw.now a.i a.e (group-is (goal.at.put-requires c).Else-group-eq0).0 c.requires.4,
      label-fits rs a.locale.now a.raw.now a.i a.e (group-is (goal.at.put-requires c).Else-group-eq0).0 c.requires.4 a.out.now a.at c.requires.5 c.put-next.ensures,
    )

pub returns : goal.returns
unfolding read_text
returns c =
    let a = c.args in
    both-put (read_rows a.file.now) a.locale.now a.raw.now a.i a.e (group-is (goal.at.returns c).Else-group-eq0).0 c.requires.4 a.out.now a.at c.requires.5 c.put-next.ensures
    (rw (label_is (goal.at.returns c).After-label) at c.put.ensures)
