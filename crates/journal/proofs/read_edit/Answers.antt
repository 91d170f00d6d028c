-- `journal::read_edit` meets its contract: the end, no record, one of another kind, or one that `read_parts` reads. Assumes nothing.
use mathlib.Core.Path.{refl, sym, ◌∙◌}
use Rattle.std.specs.Prelude.{Ok, Err}
use native.Mathlib.Omega.{arith}
use Rattle.fault.proofs.Answers.{handed-on}
use Rattle.record.proofs.Place.{front-damaged, front-record}
use Rattle.journal.specs.Journal.{NoPerson, Person}
use Rattle.journal.proofs.Read.{no-edit, edit-other, edit-bare, edit-person, edit-stub, reads-by}
use Rattle.journal.proofs.read_edit.Goals as goal

pub returns-in_default : goal.returns-in_default
returns-in_default c = (refl, omega arith, no-edit _ _ (front-damaged _ _ (sym c.read.ensures ∙ c.in_default.is)))

pub read_parts-requires : goal.read_parts-requires
read_parts-requires c =
    let k = c in
    let r = front-record _ _ (sym k.read.ensures ∙ k.in-Some.is) in
    (r.head-inside, r.inside)

pub returns-in_err-read_parts : goal.returns-in_err-read_parts
returns-in_err-read_parts c =
    let k = c in
    let r = front-record _ _ (sym k.read.ensures ∙ k.in-Some.is) in
    rw (handed-on _ c.from_residual.ensures.1) (reads-by r NoPerson _ (edit-bare r c.if-kind-eq1.true) (omega arith) (Err _) c.in_err-read_parts.ensures)

pub returns-then-kind-eq1 : goal.returns-then-kind-eq1
returns-then-kind-eq1 c =
    let k = c in
    let r = front-record _ _ (sym k.read.ensures ∙ k.in-Some.is) in
    reads-by r NoPerson _ (edit-bare r c.if-kind-eq1.true) (omega arith) (Ok _) c.in_ok-read_parts.ensures

pub returns-then-kind-ne4 : goal.returns-then-kind-ne4
returns-then-kind-ne4 c =
    let k = c in
    let r = front-record _ _ (sym k.read.ensures ∙ k.in-Some.is) in
    (refl, omega arith, edit-other r c.if-kind-eq1.false c.if-kind-ne4.true)

pub returns-then-end-at : goal.returns-then-end-at
returns-then-end-at c =
    let k = c in
    let r = front-record _ _ (sym k.read.ensures ∙ k.in-Some.is) in
    (refl, omega arith, edit-stub r c.if-kind-ne4.false c.if-end-at.true)

pub read_parts-requires-2 : goal.read_parts-requires-2
read_parts-requires-2 c =
    let k = c in
    let r = front-record _ _ (sym k.read.ensures ∙ k.in-Some.is) in
    (c.if-end-at.false, r.inside)

pub returns-in_err-read_parts-2 : goal.returns-in_err-read_parts-2
returns-in_err-read_parts-2 c =
    let k = c in
    let r = front-record _ _ (sym k.read.ensures ∙ k.in-Some.is) in
    rw (handed-on _ c.from_residual-in_err-read_parts-2.ensures.1) (reads-by r (Person _) _ (edit-person r c.if-kind-ne4.false c.if-end-at.false) (omega arith) (Err _) c.in_err-read_parts-2.ensures)

pub returns : goal.returns
returns c =
    let k = c in
    let r = front-record _ _ (sym k.read.ensures ∙ k.in-Some.is) in
    reads-by r (Person _) _ (edit-person r c.if-kind-ne4.false c.if-end-at.false) (omega arith) (Ok _) c.in_ok-read_parts-2.ensures
