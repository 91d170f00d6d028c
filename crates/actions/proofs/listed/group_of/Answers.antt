-- `listed::group_of` meets its contract: the header that was found has the group's name. Assumes nothing.
use native.Mathlib.Omega.{arith}
use mathlib.Core.Path.{sym, ◌∙◌}
use Rattle.base.specs.Lists.{ascii}
use Rattle.base.proofs.Tests.{none-there}
use Rattle.rows.specs.Rows.{read_rows}
use Rattle.rows.specs.Title.{Group, Key, find_row}
use Rattle.rows.proofs.Told.{told-nothing, found-there}
use Rattle.actions.specs.Actions.{action_group}
use Rattle.actions.proofs.Groups.{Titled, titled, other-form, no_header, no_name, an-action}
use Rattle.actions.proofs.listed.group_of.Goals as goal
use Rattle.actions.proofs.listed.group_of.Goals.{In-Some}

pub returns-in_default : goal.returns-in_default
returns-in_default c =
    let a = c.args in
    rw (no_header (read_rows a.file.now) a.id.now (told-nothing (find_row (read_rows a.file.now) (Group (action_group a.id.now))) (sym c.find_group.ensures ∙ c.in_default.is)))

-- where the name stands in the file
name : (c : In-Some) → Titled c.args.file.now (action_group c.args.id.now) c.in-Some.row.start c.in-Some.row.end
name c =
    let a = c.args in
    titled a.file.now (action_group a.id.now) (sym c.find_group.ensures ∙ c.in-Some.is)

pub overflow_add-group : goal.overflow_add-group
overflow_add-group c = let t = name (goal.at.overflow_add-group c).In-Some in omega (arith, t.brackets, t.inside)

pub overflow_sub-group : goal.overflow_sub-group
overflow_sub-group c = let t = name (goal.at.overflow_sub-group c).In-Some in omega (arith, t.brackets, t.inside)

pub slice_bounds-group-count : goal.slice_bounds-group-count
slice_bounds-group-count c = let t = name (goal.at.slice_bounds-group-count c).In-Some in omega (arith, t.brackets)

pub slice_bounds-group-end : goal.slice_bounds-group-end
slice_bounds-group-end c = let t = name (goal.at.slice_bounds-group-end c).In-Some in omega (arith, t.inside)

-- with a Name, or without
pub returns-then-is_some : goal.returns-then-is_some
returns-then-is_some c =
    let a = c.args in
    let t = name (goal.at.returns-then-is_some c).In-Some in
    let k = found-there (find_row (read_rows a.file.now) (Key (action_group a.id.now) (ascii "Name"))) c.is_some.ensures (rw t.is at c.find_key.ensures) in
    rw (an-action (read_rows a.file.now) a.id.now (sym c.is_plain.ensures ∙ c.if-not-is_plain.false) t.there-is (k ∙ c.if-is_some.true)) t.is

pub returns : goal.returns
returns c =
    let a = c.args in
    let t = name (goal.at.returns c).In-Some in
    let k = found-there (find_row (read_rows a.file.now) (Key (action_group a.id.now) (ascii "Name"))) c.is_some.ensures (rw t.is at c.find_key.ensures) in
    rw (no_name (read_rows a.file.now) a.id.now (none-there _ (k ∙ c.if-is_some.false)))

pub returns-then-not-is_plain : goal.returns-then-not-is_plain
returns-then-not-is_plain c =
    let a = c.args in
    rw (other-form (read_rows a.file.now) a.id.now (sym c.is_plain.ensures ∙ c.if-not-is_plain.true))

pub slice_bounds-group-start : goal.slice_bounds-group-start
slice_bounds-group-start c = let t = name (goal.at.slice_bounds-group-start c).In-Some in omega (arith, t.brackets)
