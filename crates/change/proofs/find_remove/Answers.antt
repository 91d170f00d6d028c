-- `find_remove` meets its contract: what was found says which edit the definition has. Assumes nothing.
use mathlib.Core.Path.{sym, ◌∙◌}
use native.Mathlib.Omega.{arith}
use Rattle.change.proofs.Aiming.{remove-missing, remove-blocked, remove-row, last-start, remove-last}
use Rattle.change.proofs.find_remove.Goals as goal

pub returns-in_default : goal.returns-in_default
returns-in_default c =
    let s = c.args in
    remove-missing s.file.now s.group.now s.key.now (sym c.in_default.is ∙ c.find_key.ensures)

pub returns-then-has_postfixed : goal.returns-then-has_postfixed
returns-then-has_postfixed c =
    let s = c.args in
    remove-blocked s.file.now s.group.now s.key.now (sym c.in-Some.is ∙ c.find_key.ensures) (sym c.if-has_postfixed.true ∙ c.has_postfixed.ensures)

pub returns-then-row-file : goal.returns-then-row-file
returns-then-row-file c =
    let s = c.args in
    remove-row s.file.now s.group.now s.key.now (sym c.in-Some.is ∙ c.find_key.ensures) (sym c.if-has_postfixed.false ∙ c.has_postfixed.ensures) c.if-row-file.true

pub overflow_sub-result : goal.overflow_sub-result
overflow_sub-result c =
    let a = c.args in
    omega (
      arith,
      last-start a.file.now a.group.now a.key.now (sym c.in-Some.is ∙ c.find_key.ensures) (sym c.if-has_postfixed.false ∙ c.has_postfixed.ensures) c.if-row-file.false c.requires.1,
    )

pub returns : goal.returns
returns c =
    let a = c.args in
    remove-last a.file.now a.group.now a.key.now (sym c.in-Some.is ∙ c.find_key.ensures) (sym c.if-has_postfixed.false ∙ c.has_postfixed.ensures) c.if-row-file.false c.requires.1
