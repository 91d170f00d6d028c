-- `escape::raw_length` meets its contract: what is counted and the raw value from `i` on make the whole length. Assumes nothing.
use borrow.Author.Rules.{rules}
use native.Mathlib.Omega.{arith}
use mathlib.Core.Path.{sym}
use Rattle.text.proofs.Writing.{count-plain, count-pair, count-end}
use Rattle.text.proofs.escape.raw_length.Goals as goal
use Rattle.text.proofs.escape.raw_length.Goals.{then-is_some, else-is_some}

pub loop-i-init : goal.loop-i-init
loop-i-init c = record { i-le = search rules; n-le = search rules; goes = omega arith }

pub loop-i-preserved : goal.loop-i-preserved
loop-i-preserved c =
    elim c.if-is_some.branch [
      | then-is_some w ↦ rw w.n-is (count-pair c.loop-i.invariant (search rules) c.letter_at.result c.letter_at.ensures (sym w.if-is_some.ensures))
      | else-is_some w ↦ rw w.n-is (count-plain c.loop-i.invariant (search rules) c.letter_at.result c.letter_at.ensures (sym w.if-is_some.ensures))
    ]

pub returns : goal.returns
returns c = count-end c.loop-i.invariant (search rules)
