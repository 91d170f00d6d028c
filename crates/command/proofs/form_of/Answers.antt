-- `form_of` meets its contract: the tests that led to each return say which case of the definition holds. Assumes nothing.
use mathlib.Core.Path.{sym, ◌∙◌}
use borrow.Author.Tests.{eq-eqb, ne_eqb}
use Rattle.command.specs.Command.{form_of}
use Rattle.command.proofs.form_of.Goals as goal

pub returns-then-byte_at-eq34 : goal.returns-then-byte_at-eq34
unfolding form_of
returns-then-byte_at-eq34 c = rw (← c.byte_at.ensures, eq-eqb _ _ c.if-byte_at-eq34.true)

pub returns-then-one_of : goal.returns-then-one_of
unfolding form_of
returns-then-one_of c =
    rw (sym c.is_pair.ensures ∙ c.if-is_pair.true, ← c.byte_at.ensures, ← c.byte_at-c.ensures, ne_eqb _ _ c.if-byte_at-eq34.false, sym c.one_of.ensures ∙ c.if-one_of.true)

pub returns-then-c-eq105 : goal.returns-then-c-eq105
unfolding form_of
returns-then-c-eq105 c =
    rw (sym c.is_pair.ensures ∙ c.if-is_pair.true, ← c.byte_at.ensures, ← c.byte_at-c.ensures, ne_eqb _ _ c.if-byte_at-eq34.false, sym c.one_of.ensures ∙ c.if-one_of.false, eq-eqb _ _ c.if-c-eq105.true)

pub returns-then-is_pair : goal.returns-then-is_pair
unfolding form_of
returns-then-is_pair c =
    rw (sym c.is_pair.ensures ∙ c.if-is_pair.true, ← c.byte_at.ensures, ← c.byte_at-c.ensures, ne_eqb _ _ c.if-byte_at-eq34.false, sym c.one_of.ensures ∙ c.if-one_of.false, ne_eqb _ _ c.if-c-eq105.false)

pub returns : goal.returns
unfolding form_of
returns c = rw (sym c.is_pair.ensures ∙ c.if-is_pair.false, ← c.byte_at.ensures, ne_eqb _ _ c.if-byte_at-eq34.false)
