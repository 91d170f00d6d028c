-- `escape::write_raw` meets its contract: what is written and the raw value from `i` on make the whole. Assumes nothing.
use borrow.Author.Rules.{rules}
use native.Mathlib.Omega.{arith}
use mathlib.Core.Path.{refl, sym, ◌∙◌}
use Rattle.text.proofs.Writing.{spell-plain, spell-pair, plain-room, pair-room, spell-end}
use Rattle.base.proofs.Fill.{fill_start}
use Rattle.text.specs.Escape.{raw_text}
use lib.ListN.{length-set}
use Rattle.text.proofs.escape.write_raw.Goals as goal
use Rattle.text.proofs.escape.write_raw.Goals.{in-None, in-Some}

pub loop-i-init : goal.loop-i-init
loop-i-init c = record { i-le = search rules; room = c.requires; fill = fill_start c.args.out.now (raw_text c.args.text.now) }

pub bounds-out-n : goal.bounds-out-n
bounds-out-n c = plain-room c.loop-i.invariant (search rules) (sym c.in-None.is ∙ c.letter_at.ensures)

pub overflow_add-n : goal.overflow_add-n
overflow_add-n c = omega (arith, plain-room c.loop-i.invariant (search rules) (sym c.in-None.is ∙ c.letter_at.ensures))

pub bounds-out-n-in-Some : goal.bounds-out-n-in-Some
bounds-out-n-in-Some c = omega (arith, pair-room c.loop-i.invariant (search rules) (sym c.in-Some.is ∙ c.letter_at.ensures))

pub overflow_add-out : goal.overflow_add-out
overflow_add-out c = omega (arith, pair-room c.loop-i.invariant (search rules) (sym c.in-Some.is ∙ c.letter_at.ensures))

pub bounds-out-n-in-Some-2 : goal.bounds-out-n-in-Some-2
bounds-out-n-in-Some-2 c = simp length-set (pair-room c.loop-i.invariant (search rules) (sym c.in-Some.is ∙ c.letter_at.ensures))

pub overflow_add-n-in-Some : goal.overflow_add-n-in-Some
overflow_add-n-in-Some c = omega (arith, pair-room c.loop-i.invariant (search rules) (sym c.in-Some.is ∙ c.letter_at.ensures))

pub loop-i-preserved : goal.loop-i-preserved
loop-i-preserved c =
    elim c.match-letter_at.branch [
      | in-None w ↦ rw (w.out-is, w.n-is) (spell-plain c.loop-i.invariant (search rules) (sym w.in-None.is ∙ c.letter_at.ensures))
      | in-Some w ↦ rw (w.out-is, w.n-is) (spell-pair c.loop-i.invariant (search rules) (sym w.in-Some.is ∙ c.letter_at.ensures) refl)
    ]

pub returns : goal.returns
returns c = spell-end c.loop-i.invariant (search rules)
