-- `classes::is_in` meets its contract: each arm is the class of its name. Assumes nothing.
use Rattle.characters.proofs.classes.is_in.Goals as goal

pub returns-in-Key : goal.returns-in-Key
returns-in-Key c = rw c.in-Key.is c.is_key.ensures

pub returns-in-Group : goal.returns-in-Group
returns-in-Group c = rw c.in-Group.is c.is_group.ensures

pub returns-in-Space : goal.returns-in-Space
returns-in-Space c = rw c.in-Space.is

pub returns-in-Blank : goal.returns-in-Blank
returns-in-Blank c = rw c.in-Blank.is c.is_blank.ensures
