-- `listed::value` meets its contract: what finding the row tells is its value. Assumes nothing.
use mathlib.Core.Path.{sym, ◌∙◌}
use Rattle.base.specs.Lists.{ascii}
use Rattle.rows.specs.Rows.{read_rows}
use Rattle.rows.specs.Title.{Key, desktop_entry, find_row}
use Rattle.rows.proofs.Told.{told-nothing}
use Rattle.exec.proofs.Values.{key-value}
use Rattle.actions.specs.Actions.{actions_value}
use Rattle.actions.proofs.listed.value.Goals as goal

pub returns-in_default : goal.returns-in_default
unfolding actions_value
returns-in_default c =
    let a = c.args in
    rw (told-nothing (find_row (read_rows a.file.now) (Key desktop_entry (ascii "Actions"))) (sym c.find_key.ensures ∙ c.in_default.is))

pub slice_bounds-result-count : goal.slice_bounds-result-count
slice_bounds-result-count c =
    let a = c.args in
    (key-value a.file.now (Key desktop_entry (ascii "Actions")) (sym c.find_key.ensures ∙ c.in-Some.is)).ordered

pub slice_bounds-result-end-2 : goal.slice_bounds-result-end-2
slice_bounds-result-end-2 c =
    let a = c.args in
    (key-value a.file.now (Key desktop_entry (ascii "Actions")) (sym c.find_key.ensures ∙ c.in-Some.is)).inside

pub returns : goal.returns
unfolding actions_value
returns c =
    let a = c.args in
    let w = key-value a.file.now (Key desktop_entry (ascii "Actions")) (sym c.find_key.ensures ∙ c.in-Some.is) in
    rw w.is w.bytes

pub slice_bounds-result-start : goal.slice_bounds-result-start
slice_bounds-result-start c =
    let a = c.args in
    (key-value a.file.now (Key desktop_entry (ascii "Actions")) (sym c.find_key.ensures ∙ c.in-Some.is)).ordered
