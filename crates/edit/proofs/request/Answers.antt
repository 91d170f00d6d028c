-- `edit::request` meets its contract: what was opened is edited. Assumes nothing.
use Rattle.std.specs.Prelude.{Ok}
use mathlib.Core.Path.{◌≡◌, sym, ◌∙◌}
use Rattle.fault.proofs.Answers.{handed-on}
use Rattle.journal.specs.Journal.{Person, Authored, by}
use Rattle.change.specs.Change.{Request}
use Rattle.change.specs.Target.{request_by}
use Rattle.edit.specs.Calls as calls
use Rattle.edit.specs.Calls.{State, lent}
use Rattle.edit.specs.Step.{passed}
use Rattle.edit.proofs.Opening.{opened-fits}
use Rattle.edit.proofs.Applying.{not_opened, was-opened}
use Rattle.edit.proofs.request.Goals as goal
use Rattle.edit.proofs.request.Goals.{In_ok-check_lent, Start}

-- what is lent, and what is asked for
abbrev held : Start → State
held c = lent c.args.file.now c.args.size c.args.journal.now c.args.used c.args.standing

abbrev asked : Start → Authored Request
asked c = by (Person c.args.person) (request_by c.args.op c.args.group.now c.args.key.now c.args.text.now)

opened : (c : In_ok-check_lent) → Ok tt ≡ passed (calls.opened (lent c.args.file.now c.args.size c.args.journal.now c.args.used c.args.standing))
opened c = sym c.in_ok-check_lent.was ∙ c.check_lent.ensures

pub returns-in_err-check_lent : goal.returns-in_err-check_lent
returns-in_err-check_lent c =
    let w = (goal.at.returns-in_err-check_lent c).Start in
    rw (handed-on _ c.from_residual.ensures.1) (not_opened (held w) (asked w) (sym c.in_err-check_lent.was ∙ c.check_lent.ensures))

pub returns : goal.returns
returns c =
    let w = (goal.at.returns c).Start in
    was-opened (held w) (asked w) (opened (goal.at.returns c).In_ok-check_lent) c.carry_out.ensures

pub carry_out-requires : goal.carry_out-requires
carry_out-requires c = (opened-fits (held (goal.at.carry_out-requires c).Start) (opened (goal.at.carry_out-requires c).In_ok-check_lent)).ready
