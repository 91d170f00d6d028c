-- `choose_row` meets its contract: a plain locale means the plain key, and of another the best row is looked for. Assumes nothing.
use mathlib.Core.Path.{◌≡◌, sym, ◌∙◌}
use mathlib.Core.Bool.{true, not}
use lib.ListN.{length}
use lib.Dec.{eqb}
use Rattle.base.specs.Lists.{all}
use Rattle.base.proofs.Tests.{and_both}
use Rattle.characters.specs.Class.{key_byte}
use Rattle.line.specs.Form.{plain_form}
use Rattle.rows.specs.Rows.{read_rows}
use Rattle.choice.proofs.Stripped.{plain-found}
use Rattle.choice.proofs.Choices.{chosen_plain, chosen-other}
use Rattle.choice.proofs.choose_row.Goals as goal
use Rattle.choice.proofs.choose_row.Goals.{Start}

key-bytes : (s : Start) → all key_byte s.args.key.now ≡ true
unfolding plain_form
key-bytes s = (and_both (not (eqb (length s.args.key.now) 0)) (all key_byte s.args.key.now) s.requires.1).1

pub returns-then-is_plain : goal.returns-then-is_plain
returns-then-is_plain c =
    let a = c.args in
    let rs = read_rows a.file.now in
    rw (chosen_plain rs a.group.now a.key.now a.locale.now (sym c.is_plain.ensures ∙ c.if-is_plain.true), plain-found a.key.now (key-bytes (goal.at.returns-then-is_plain c).Start) rs a.group.now)
    c.find_key.ensures

pub returns : goal.returns
returns c =
    let a = c.args in
    rw (chosen-other (read_rows a.file.now) a.group.now a.key.now a.locale.now (sym c.is_plain.ensures ∙ c.if-is_plain.false)) c.find_best.ensures

pub find_best-requires : goal.find_best-requires
find_best-requires c = (c.requires.0, key-bytes (goal.at.find_best-requires c).Start, c.requires.2, c.read_parts-p.ensures)
