-- `escape::unescape` meets its contract: what is written and the text from `i` on make the whole text. Assumes nothing.
use borrow.Author.Rules.{rules}
use native.Mathlib.Omega.{arith}
use mathlib.Core.Path.{sym, ◌∙◌}
use Rattle.text.specs.Escape.{text_from}
use Rattle.text.specs.Step.{text_of}
use Rattle.text.proofs.Reading.{byte-within, reading-wrong, reading-room, reading-byte, reading-end}
use Rattle.base.proofs.Fill.{fill_start}
use mathlib.Core.Bool.{false}
use Rattle.text.proofs.escape.unescape.Goals as goal

pub loop-i-init : goal.loop-i-init
loop-i-init c =
    let a = c in
    record { i-le = search rules; sound = a.requires.0; room = a.requires.1; fill = fill_start a.args.out.now (text_of (text_from a.args.k a.args.raw.now false 0)) }

pub bounds-out-n : goal.bounds-out-n
bounds-out-n c =
    let m = c in
    reading-room m.loop-i.invariant (search rules) (sym c.in-Some.is ∙ m.decode.ensures)

pub overflow_add-i : goal.overflow_add-i
overflow_add-i c =
    let m = c in
    let l = m in
    let a = l.args in
    omega (arith, byte-within a.k a.raw.now 0 l.loop-i.i (search rules) (sym c.in-Some.is ∙ m.decode.ensures))

pub overflow_add-n : goal.overflow_add-n
overflow_add-n c =
    let m = c in
    omega (arith, reading-room m.loop-i.invariant (search rules) (sym c.in-Some.is ∙ m.decode.ensures))

pub loop-i-smaller : goal.loop-i-smaller
loop-i-smaller c =
    let m = c in
    let l = m in
    let a = l.args in
    omega (arith, byte-within a.k a.raw.now 0 l.loop-i.i (search rules) (sym c.in-Some.is ∙ m.decode.ensures))

pub loop-i-preserved : goal.loop-i-preserved
loop-i-preserved c =
    let m = c in
    reading-byte m.loop-i.invariant (search rules) (sym c.in-Some.is ∙ m.decode.ensures)

pub returns-in_default : goal.returns-in_default
returns-in_default c =
    let m = c in
    reading-wrong m.loop-i.invariant (search rules) (sym c.in_default.is ∙ m.decode.ensures)

pub returns : goal.returns
returns c = reading-end c.loop-i.invariant (search rules)
