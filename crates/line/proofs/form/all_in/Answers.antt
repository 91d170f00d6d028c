-- `form::all_in` meets its contract: the bytes of the class reach to the end exactly if all are of it. Assumes nothing.
use mathlib.Core.Path.{◌∙◌}
use Rattle.base.proofs.Span.{span-all}
use native.Mathlib.Nat.{zero-add}
use Rattle.characters.specs.Class.{member}
use Rattle.line.proofs.form.all_in.Goals as goal

pub returns : goal.returns
returns c =
    let a = c.args in
    rw (c.span_end.ensures ∙ zero-add _) (span-all (member a.k) a.s.now)
