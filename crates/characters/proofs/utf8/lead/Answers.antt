-- `utf8::lead` meets its contract: the tests that led to each return say which case of the definition holds. Assumes nothing.
use borrow.Author.Tests.{eq-eqb, ne_eqb}
use mathlib.Core.Path.{sym, ◌∙◌}
use Rattle.characters.specs.Utf8.{lead}
use Rattle.characters.proofs.utf8.lead.Goals as goal

pub returns-then-within : goal.returns-then-within
unfolding lead
returns-then-within c = rw (sym c.within.ensures ∙ c.if-within.true) c.tail.ensures

pub returns-then-b-eq224 : goal.returns-then-b-eq224
unfolding lead
returns-then-b-eq224 c = rw (sym c.within.ensures ∙ c.if-within.false, eq-eqb _ _ c.if-b-eq224.true) c.tail-then-b-eq224.ensures

pub returns-then-b-eq237 : goal.returns-then-b-eq237
unfolding lead
returns-then-b-eq237 c = rw (sym c.within.ensures ∙ c.if-within.false, ne_eqb _ _ c.if-b-eq224.false, eq-eqb _ _ c.if-b-eq237.true) c.tail-then-b-eq237.ensures

pub returns-then-within-2 : goal.returns-then-within-2
unfolding lead
returns-then-within-2 c = rw (sym c.within.ensures ∙ c.if-within.false, ne_eqb _ _ c.if-b-eq224.false, ne_eqb _ _ c.if-b-eq237.false, sym c.within-2.ensures ∙ c.if-within-2.true) c.tail-then-within-2.ensures

pub returns-then-b-eq240 : goal.returns-then-b-eq240
unfolding lead
returns-then-b-eq240 c = rw (sym c.within.ensures ∙ c.if-within.false, ne_eqb _ _ c.if-b-eq224.false, ne_eqb _ _ c.if-b-eq237.false, sym c.within-2.ensures ∙ c.if-within-2.false, eq-eqb _ _ c.if-b-eq240.true) c.tail-then-b-eq240.ensures

pub returns-then-within-3 : goal.returns-then-within-3
unfolding lead
returns-then-within-3 c = rw (sym c.within.ensures ∙ c.if-within.false, ne_eqb _ _ c.if-b-eq224.false, ne_eqb _ _ c.if-b-eq237.false, sym c.within-2.ensures ∙ c.if-within-2.false, ne_eqb _ _ c.if-b-eq240.false, sym c.within-3.ensures ∙ c.if-within-3.true) c.tail-then-within-3.ensures

pub returns-then-b-eq244 : goal.returns-then-b-eq244
unfolding lead
returns-then-b-eq244 c = rw (sym c.within.ensures ∙ c.if-within.false, ne_eqb _ _ c.if-b-eq224.false, ne_eqb _ _ c.if-b-eq237.false, sym c.within-2.ensures ∙ c.if-within-2.false, ne_eqb _ _ c.if-b-eq240.false, sym c.within-3.ensures ∙ c.if-within-3.false, eq-eqb _ _ c.if-b-eq244.true) c.tail-then-b-eq244.ensures

pub returns : goal.returns
unfolding lead
returns c = rw (sym c.within.ensures ∙ c.if-within.false, ne_eqb _ _ c.if-b-eq224.false, ne_eqb _ _ c.if-b-eq237.false, sym c.within-2.ensures ∙ c.if-within-2.false, ne_eqb _ _ c.if-b-eq240.false, sym c.within-3.ensures ∙ c.if-within-3.false, ne_eqb _ _ c.if-b-eq244.false)
