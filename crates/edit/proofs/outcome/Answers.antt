-- `edit::outcome` meets its contract: each test decides one line of the definition. Assumes nothing.
use native.Mathlib.Omega.{arith}
use mathlib.Core.Path.{sym, ◌∙◌}
use Rattle.edit.proofs.Replaying.{stands-inside, not_there, over-room, over-most, ill-formed, made}
use Rattle.edit.proofs.outcome.Goals as goal

pub returns-then-not-stands : goal.returns-then-not-stands
returns-then-not-stands c = not_there _ _ _ (sym c.stands.ensures ∙ c.if-not-stands.true)

pub overflow_sub-kept : goal.overflow_sub-kept
overflow_sub-kept c =
    let h = sym c.stands.ensures ∙ c.if-not-stands.false in
    let i = stands-inside _ _ _ h in
    omega arith

pub returns-then-room-kept : goal.returns-then-room-kept
returns-then-room-kept c =
    let h = sym c.stands.ensures ∙ c.if-not-stands.false in
    let i = stands-inside _ _ _ h in
    over-room _ _ _ h (omega arith)

pub returns-then-kept-come : goal.returns-then-kept-come
returns-then-kept-come c =
    let h = sym c.stands.ensures ∙ c.if-not-stands.false in
    let i = stands-inside _ _ _ h in
    over-most _ _ _ h (omega arith) (omega arith)

pub makes_well-requires : goal.makes_well-requires
makes_well-requires c =
    let h = sym c.stands.ensures ∙ c.if-not-stands.false in
    let i = stands-inside _ _ _ h in
    (i, omega arith, omega arith)

pub returns-then-makes_well : goal.returns-then-makes_well
returns-then-makes_well c =
    let h = sym c.stands.ensures ∙ c.if-not-stands.false in
    let i = stands-inside _ _ _ h in
    made _ _ _ h (omega arith) (omega arith) (sym c.if-makes_well.true ∙ c.makes_well.ensures)

pub returns : goal.returns
returns c =
    let h = sym c.stands.ensures ∙ c.if-not-stands.false in
    let i = stands-inside _ _ _ h in
    ill-formed _ _ _ h (omega arith) (omega arith) (sym c.if-makes_well.false ∙ c.makes_well.ensures)
