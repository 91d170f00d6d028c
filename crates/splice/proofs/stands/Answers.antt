-- `splice::stands` meets its contract: what is left of the file decides. Assumes nothing.
use native.Mathlib.Omega.{arith}
use mathlib.Core.Path.{◌∙◌}
use Rattle.splice.proofs.Standing.{stands-outside, stands-begins}
use Rattle.splice.proofs.stands.Goals as goal

pub returns-then-file-place : goal.returns-then-file-place
returns-then-file-place c = stands-outside _ _ _ (omega arith)

pub returns-then-file-place-2 : goal.returns-then-file-place-2
returns-then-file-place-2 c = stands-outside _ _ _ (omega arith)

pub returns : goal.returns
returns c =
    let a = c.args in
    c.starts_with.ensures.value ∙ stands-begins a.file.now a.place a.old.now (omega arith)
