-- `labels::label` meets its contract: the ends chosen tell the value. Assumes nothing.
use Rattle.base.specs.Lists.{all}
use Rattle.characters.specs.Class.{key_byte}
use Rattle.line.specs.Form.{plain_form}
use Rattle.exec.proofs.Values.{chosen-within}
use Rattle.actions.proofs.Labelling.{label-chosen}
use borrow.Author.Rules.{rules}
use Rattle.actions.proofs.labels.label.Goals as goal

pub chosen_ends-requires : goal.chosen_ends-requires
unfolding plain_form all key_byte
chosen_ends-requires c = search rules

pub returns-in_default : goal.returns-in_default
returns-in_default c =
    let a = c.args in
    rw (label-chosen a.file.now a.group.now a.locale.now, ← c.chosen_ends.ensures, c.in_default.is)

pub slice_bounds-result-count : goal.slice_bounds-result-count
slice_bounds-result-count c = (chosen-within _ _ _ _ c.chosen_ends.ensures c.in-Ok.is).0

pub slice_bounds-result-end-2 : goal.slice_bounds-result-end-2
slice_bounds-result-end-2 c = (chosen-within _ _ _ _ c.chosen_ends.ensures c.in-Ok.is).1

pub returns : goal.returns
returns c =
    let a = c.args in
    rw (label-chosen a.file.now a.group.now a.locale.now, ← c.chosen_ends.ensures, c.in-Ok.is)

pub slice_bounds-result-start : goal.slice_bounds-result-start
slice_bounds-result-start c = (chosen-within _ _ _ _ c.chosen_ends.ensures c.in-Ok.is).0
