-- `utf8::rest` meets its contract: what is left of the character from `i` on is the whole answer. Assumes nothing.
use borrow.Author.Rules.{rules}
use mathlib.Core.Path.{refl, sym, ◌∙◌}
use Rattle.characters.proofs.Characters.{rest-none, rest-stops, rest-last, rest_more}
use Rattle.characters.proofs.utf8.rest.Goals as goal

pub returns-then-m-eq0 : goal.returns-then-m-eq0
returns-then-m-eq0 c =
    let l = c in
    sym (rest-last c.args.s.now l.loop-i.i l.loop-i.m l.loop-i.lo l.loop-i.hi (search rules) (sym c.within.ensures ∙ c.if-within.true) c.if-m-eq0.true) ∙ l.loop-i.invariant

pub loop-i-preserved : goal.loop-i-preserved
loop-i-preserved c =
    let l = c in
    sym (rest_more c.args.s.now l.loop-i.i l.loop-i.m l.loop-i.lo l.loop-i.hi (search rules) (sym c.within.ensures ∙ c.if-within.true) c.if-m-eq0.false) ∙ l.loop-i.invariant

pub returns-else-within : goal.returns-else-within
returns-else-within c =
    let l = c in
    sym (rest-stops c.args.s.now l.loop-i.i l.loop-i.m l.loop-i.lo l.loop-i.hi (search rules) (sym c.within.ensures ∙ c.if-within.false)) ∙ l.loop-i.invariant

pub returns : goal.returns
returns c =
    let l = c in
    sym (rest-none c.args.s.now l.loop-i.i l.loop-i.m l.loop-i.lo l.loop-i.hi (search rules)) ∙ l.loop-i.invariant

pub loop-i-init : goal.loop-i-init
loop-i-init c = refl
