-- `find_set` meets its contract: what was found says which edit the definition has. Assumes nothing.
use mathlib.Core.Path.{sym, ap, ◌∙◌}
use Rattle.base.specs.Choice.{there}
use Rattle.rows.specs.Rows.{read_rows}
use Rattle.rows.specs.Title.{Key, find_row}
use Rattle.rows.proofs.Told.{told-nothing}
use Rattle.change.proofs.Aiming.{value-no-plain, set_value}
use Rattle.change.proofs.find_set.Goals as goal

pub find_place-requires : goal.find_place-requires
find_place-requires c =
    (c.requires, ap there (told-nothing (find_row (read_rows c.args.file.now) (Key c.args.group.now c.args.key.now)) (sym (sym c.in_default.is ∙ c.find_key.ensures))))

pub returns-then-has_plain : goal.returns-then-has_plain
returns-then-has_plain c =
    let s = c.args in
    set_value s.file.now s.group.now s.key.now (sym c.in-Some.is ∙ c.find_key.ensures) (sym c.if-has_plain.true ∙ c.has_plain.ensures)

pub returns : goal.returns
returns c =
    let s = c.args in
    value-no-plain s.file.now s.group.now s.key.now (sym c.in-Some.is ∙ c.find_key.ensures) (sym c.if-has_plain.false ∙ c.has_plain.ensures)
