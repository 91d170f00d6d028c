-- `after` meets its contract: what a line's reading tells lies in the file. Assumes nothing.
use native.Mathlib.Omega.{arith}
use borrow.Author.Tests.{eq-eqb, ne_eqb}
use Rattle.wellformed.proofs.Places.{reads-within, key-lies}
use Rattle.wellformed.proofs.after.Goals as goal

pub overflow_sub-name : goal.overflow_sub-name
overflow_sub-name c = let w = rw c.in-Header.is at (reads-within c.requires.0) in omega (arith, w.0)

pub after_plain-requires : goal.after_plain-requires
after_plain-requires c = (c.requires.1, key-lies (rw c.in-Entry.is at c.requires.0))

pub returns-then-there : goal.returns-then-there
returns-then-there c = rw (c.in-Entry.is, c.if-there.true) c.after_plain.ensures

pub after_plain-requires-then-key-name : goal.after_plain-requires-then-key-name
after_plain-requires-then-key-name c = (c.requires.1, key-lies (rw c.in-Entry.is at c.requires.0))

pub returns-then-key-name : goal.returns-then-key-name
returns-then-key-name c = rw (c.in-Entry.is, c.if-there.false, eq-eqb _ _ c.if-key-name.true) c.after_plain-then-key-name.ensures

pub after_postfixed-requires : goal.after_postfixed-requires
after_postfixed-requires c = (c.requires.1, key-lies (rw c.in-Entry.is at c.requires.0))

pub returns-in-Blank : goal.returns-in-Blank
returns-in-Blank c = rw c.in-Blank.is

pub returns-in-Comment : goal.returns-in-Comment
returns-in-Comment c = rw c.in-Comment.is

pub returns-in-Bad : goal.returns-in-Bad
returns-in-Bad c = rw c.in-Bad.is

pub returns-in-Header : goal.returns-in-Header
returns-in-Header c = rw c.in-Header.is c.after_header.ensures

pub returns-else-key-name : goal.returns-else-key-name
returns-else-key-name c = rw (c.in-Entry.is, c.if-there.false, ne_eqb _ _ c.if-key-name.false) c.after_postfixed.ensures
