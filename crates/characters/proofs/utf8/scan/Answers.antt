-- `utf8::scan` meets its contract: what is found from `i` on is the whole answer. Assumes nothing.
use borrow.Author.Rules.{rules}
use native.Mathlib.Omega.{arith}
use mathlib.Core.Path.{◌≡◌, sym, ◌∙◌}
use Rattle.base.specs.Lists.{span}
use Rattle.base.proofs.Span.{span-le}
use Rattle.characters.specs.Class.{value_byte, content_byte}
use Rattle.characters.specs.declared.Due.TheVariants.{Start}
use Rattle.characters.proofs.Utf8Laws.{value-step, skip-fault, fault-goes, fault-stops, fault-none}
use Rattle.characters.proofs.Characters.{character-goes, character-ends, ascii-step, ascii-stop}
use Rattle.characters.proofs.utf8.scan.Goals as goal

pub loop-i-init : goal.loop-i-init
loop-i-init c =
    let a = c.args in
    let e : c.plain_end-i.result ≡ span value_byte a.s.now = omega (arith, c.plain_end-i.ensures) in
    rw e (skip-fault a.k a.s.now, span-le value_byte a.s.now)

pub loop-i-preserved-then-is_value : goal.loop-i-preserved-then-is_value
loop-i-preserved-then-is_value c =
    let l = c.loop-i in
    let a = c.args in
    (sym (fault-goes (content_byte a.k) a.s.now l.i Start (search rules) (value-step a.k _ (sym c.is_value.ensures ∙ c.if-is_value.true))) ∙ l.invariant.0, search rules)

pub loop-i-preserved-then-may_stand : goal.loop-i-preserved-then-may_stand
loop-i-preserved-then-may_stand c =
    let l = c.loop-i in
    let a = c.args in
    (sym (fault-goes (content_byte a.k) a.s.now l.i Start (search rules) (ascii-step (content_byte a.k) _ c.if-s-i-lt128.true (sym c.may_stand.ensures ∙ c.if-may_stand.true))) ∙ l.invariant.0, search rules)

pub returns-else-may_stand : goal.returns-else-may_stand
returns-else-may_stand c =
    let l = c.loop-i in
    let a = c.args in
    sym (fault-stops (content_byte a.k) a.s.now l.i Start (search rules) (ascii-stop (content_byte a.k) _ c.if-s-i-lt128.true (sym c.may_stand.ensures ∙ c.if-may_stand.false))) ∙ l.invariant.0

pub loop-i-smaller : goal.loop-i-smaller
loop-i-smaller c =
    let l = c.loop-i in
    let a = c.args in
    let q = sym c.in-Ok.is ∙ c.character.ensures in
    let e = rw (← q) at (character-ends a.s.now l.i (search rules)) in
    omega (arith, e.0, e.1)

pub loop-i-preserved : goal.loop-i-preserved
loop-i-preserved c =
    let l = c.loop-i in
    let a = c.args in
    let q = sym c.in-Ok.is ∙ c.character.ensures in
    let e = rw (← q) at (character-ends a.s.now l.i (search rules)) in
    let g = rw (← q) at (character-goes a.s.now l.i (search rules) (content_byte a.k) c.if-s-i-lt128.false) in
    (sym g ∙ l.invariant.0, e.1)

pub returns-in-Err : goal.returns-in-Err
returns-in-Err c =
    let l = c.loop-i in
    let a = c.args in
    let q = sym c.in-Err.is ∙ c.character.ensures in
    let e = rw (← q) at (character-ends a.s.now l.i (search rules)) in
    let g = rw (← q) at (character-goes a.s.now l.i (search rules) (content_byte a.k) c.if-s-i-lt128.false) in
    sym g ∙ l.invariant.0

pub returns : goal.returns
returns c =
    let l = c.loop-i in
    let a = c.args in
    rw (fault-none (content_byte a.k) a.s.now l.i (search rules)) at l.invariant.0
