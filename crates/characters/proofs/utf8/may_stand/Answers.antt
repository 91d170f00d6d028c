-- `utf8::may_stand` meets its contract: each arm is its content. Assumes nothing.
use Rattle.characters.proofs.utf8.may_stand.Goals as goal

pub returns-in-Value : goal.returns-in-Value
returns-in-Value c = rw c.in-Value.is c.is_value.ensures

pub returns-in-Text : goal.returns-in-Text
returns-in-Text c = rw c.in-Text.is c.is_text.ensures
