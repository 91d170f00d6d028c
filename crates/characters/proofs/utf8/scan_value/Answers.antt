-- `utf8::scan_value` meets its contract: nothing is left, it is surely a value, or it is scanned. Assumes nothing.
use mathlib.Core.Path.{ap, ◌∙◌}
use Rattle.base.proofs.Scan.{done}
use Rattle.base.proofs.Tail.{tail-lent}
use Rattle.characters.specs.Class.{value_byte}
use Rattle.characters.specs.Utf8.{text_fault}
use Rattle.characters.specs.declared.Due.TheVariants.{Start}
use Rattle.characters.proofs.utf8.scan_value.Goals as goal

pub returns-then-s-from : goal.returns-then-s-from
unfolding text_fault
returns-then-s-from c = let a = c.args in rw (done a.s.now a.from c.if-s-from.true)

pub returns : goal.returns
returns c = let a = c.args in c.scan.ensures ∙ ap (text_fault value_byte Start) (tail-lent a.from a.s.now)
