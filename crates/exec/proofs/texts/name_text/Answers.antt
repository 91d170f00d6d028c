-- `texts::name_text` meets its contract: the ends chosen tell the value that is read, and a refusal of the choice is passed on. Assumes nothing.
use native.Mathlib.Omega.{arith}
use Rattle.exec.proofs.Values.{chosen-within, name-chosen, name-unasked, read_none, read-refused}
use Rattle.base.specs.Lists.{all}
use Rattle.characters.specs.Class.{key_byte}
use Rattle.line.specs.Form.{plain_form}
use borrow.Author.Rules.{rules}
use Rattle.exec.proofs.texts.name_text.Goals as goal

pub chosen_ends-chosen-requires : goal.chosen_ends-chosen-requires
unfolding plain_form all key_byte
chosen_ends-chosen-requires c = search rules

pub returns-in_default : goal.returns-in_default
returns-in_default c =
    let a = c.args in
    rw (c.if-wanted.true, name-chosen a.file.now a.locale.now, ← c.chosen_ends-chosen.ensures, c.in_default.is)
    (read-refused a.out.now (rw c.in_default.is at c.refusal_of.ensures))

pub slice_bounds-read_whole-count : goal.slice_bounds-read_whole-count
slice_bounds-read_whole-count c = (chosen-within _ _ _ _ c.chosen_ends-chosen.ensures c.in-Ok.is).0

pub slice_bounds-read_whole-end : goal.slice_bounds-read_whole-end
slice_bounds-read_whole-end c = (chosen-within _ _ _ _ c.chosen_ends-chosen.ensures c.in-Ok.is).1

pub read_whole-requires : goal.read_whole-requires
read_whole-requires c =
    let w = chosen-within _ _ _ _ c.chosen_ends-chosen.ensures c.in-Ok.is in
    omega arith

pub returns-then-wanted : goal.returns-then-wanted
returns-then-wanted c =
    let a = c.args in
    rw (c.if-wanted.true, name-chosen a.file.now a.locale.now, ← c.chosen_ends-chosen.ensures, c.in-Ok.is) c.read_whole.ensures

pub returns : goal.returns
returns c =
    let a = c.args in
    rw (c.if-wanted.false, name-unasked a.file.now a.locale.now) (read_none a.out.now)

pub slice_bounds-read_whole-start : goal.slice_bounds-read_whole-start
slice_bounds-read_whole-start c = (chosen-within _ _ _ _ c.chosen_ends-chosen.ensures c.in-Ok.is).0
