-- `actions` meets its contract: the calls that led to each return say which answer the definition has. Assumes nothing.
use Rattle.std.specs.Prelude.{Some, Ok}
use mathlib.Core.Path.{◌≡◌, sym, ap, ◌∙◌}
use mathlib.Core.Bool.{true}
use Rattle.fault.proofs.Answers.{then-given, then-refused, handed-on}
use Rattle.text.specs.Element.{elements_of}
use Rattle.text.specs.Step.{spend_all}
use Rattle.text.proofs.OutputLaws.{leaves-refused}
use Rattle.line.specs.Form.{locale_form}
use Rattle.rows.specs.Title.{desktop_entry}
use Rattle.wellformed.specs.Check.{check}
use Rattle.wellformed.proofs.Accepts.{check-good}
use Rattle.actions.specs.Actions as spec
use Rattle.actions.proofs.Answering.{list-unsound, list-locale, list-wrong, list_read}
use Rattle.actions.proofs.actions.Goals as goal
use Rattle.actions.proofs.actions.Goals.{In_ok-check, Else-not-is_locale}

-- the file is sound
checks : (c : In_ok-check) → Ok tt ≡ check c.args.file.now
checks c = sym c.in_ok-check.was ∙ c.check.ensures

-- the locale has the form
form : (c : Else-not-is_locale) → locale_form c.args.locale.now ≡ true
form c = sym c.is_locale.ensures ∙ c.if-not-is_locale.false

pub value-raw-requires : goal.value-raw-requires
value-raw-requires c = (check-good desktop_entry c.args.file.now (checks (goal.at.value-raw-requires c).In_ok-check)).0

pub write_all-requires : goal.write_all-requires
write_all-requires c =
    ((check-good desktop_entry c.args.file.now (checks (goal.at.write_all-requires c).In_ok-check)).0, form (goal.at.write_all-requires c).Else-not-is_locale)

pub returns-in_err-room_after : goal.returns-in_err-room_after
returns-in_err-room_after c =
    let a = c.args in
    rw (handed-on _ c.from_residual-in_err-room_after.ensures.1) (leaves-refused (spec.actions a.file.now a.locale.now) _ a.out.now
    (list-wrong a.file.now a.locale.now (checks (goal.at.returns-in_err-room_after c).In_ok-check) (form (goal.at.returns-in_err-room_after c).Else-not-is_locale) c.value-raw.ensures
    (then-refused (spend_all (Some 0)) (elements_of c.value-raw.result.now) (sym c.in_err-room_after.was ∙ c.room_after.ensures))))

pub returns : goal.returns
returns c =
    let a = c.args in
    let ids = then-given (spend_all (Some 0)) (elements_of c.value-raw.result.now) (sym c.in_ok-room_after.was ∙ c.room_after.ensures) in
    rw (list_read a.file.now a.locale.now (checks (goal.at.returns c).In_ok-check) (form (goal.at.returns c).Else-not-is_locale) c.value-raw.ensures ids.1) c.write_all.ensures

pub returns-in_err-check : goal.returns-in_err-check
returns-in_err-check c =
    let a = c.args in
    rw (handed-on _ c.from_residual.ensures.1) (leaves-refused (spec.actions a.file.now a.locale.now) _ a.out.now
    (list-unsound a.file.now a.locale.now (sym c.in_err-check.was ∙ c.check.ensures)))

pub returns-then-not-is_locale : goal.returns-then-not-is_locale
returns-then-not-is_locale c =
    let a = c.args in
    leaves-refused (spec.actions a.file.now a.locale.now) _ a.out.now
    (list-locale a.file.now a.locale.now (checks (goal.at.returns-then-not-is_locale c).In_ok-check) (sym c.is_locale.ensures ∙ c.if-not-is_locale.true))
