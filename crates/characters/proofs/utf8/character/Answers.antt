-- `utf8::character` meets its contract: the first byte says what is due after it. Assumes nothing.
use mathlib.Core.Path.{sym, ◌∙◌}
use Rattle.characters.specs.Step.{character_at}
use Rattle.characters.specs.Utf8.{lead}
use Rattle.characters.proofs.Letters.{lead-middle}
use Rattle.characters.proofs.utf8.character.Goals as goal

pub returns-then-within : goal.returns-then-within
unfolding character_at lead
returns-then-within c = rw (sym c.within.ensures ∙ c.if-within.true) c.last_byte.ensures

pub returns-then-b : goal.returns-then-b
unfolding character_at lead
returns-then-b c = rw c.if-b.true c.last_two.ensures

pub returns-then-within-2 : goal.returns-then-within-2
unfolding character_at
returns-then-within-2 c = rw (lead-middle _ (sym c.within-2.ensures ∙ c.if-within-2.true)) c.last_two-then-within-2.ensures

pub returns-in-None : goal.returns-in-None
unfolding character_at
returns-in-None c = rw (sym c.lead.ensures ∙ c.in-None.is)

pub returns-in-Some-Start : goal.returns-in-Some-Start
unfolding character_at
returns-in-Some-Start c = rw (sym c.lead.ensures ∙ c.in-Some-Start.is, c.in-Some-Start.field-0-is)

pub returns-in-Some-Tail : goal.returns-in-Some-Tail
unfolding character_at
returns-in-Some-Tail c = rw (sym c.lead.ensures ∙ c.in-Some-Tail.is, c.in-Some-Tail.field-0-is) c.rest.ensures
