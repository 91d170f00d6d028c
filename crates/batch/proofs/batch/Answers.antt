-- `batch::batch` meets its contract: what is asked first decides whether the requests are run. Assumes nothing.
use Rattle.std.specs.Prelude.{Ok}
use mathlib.Core.Path.{◌≡◌, sym, ◌∙◌}
use Rattle.journal.specs.Journal.{Person}
use Rattle.edit.specs.Calls as calls
use Rattle.edit.specs.Calls.{State, lent}
use Rattle.edit.specs.Step.{passed}
use Rattle.batch.proofs.Running.{not_opened, not-read}
use Rattle.batch.proofs.batch.Goals as goal
use Rattle.batch.proofs.batch.Goals.{In-Ok, Start}

-- what is lent
abbrev held : Start → State
held c = lent c.args.file.now c.args.size c.args.journal.now c.args.used c.args.standing

opened : (c : In-Ok) → Ok tt ≡ passed (calls.opened (lent c.args.file.now c.args.size c.args.journal.now c.args.used c.args.standing))
opened c = sym c.in-Ok.is ∙ c.check_lent.ensures

pub run-requires : goal.run-requires
run-requires c = record { opens = opened (goal.at.run-requires c).In-Ok; list_reads = sym c.sound.ensures ∙ c.if-sound.true }

pub returns-in-Err : goal.returns-in-Err
returns-in-Err c =
    record { is = not_opened (held (goal.at.returns-in-Err c).Start) (Person _) _ (sym c.in-Err.is ∙ c.check_lent.ensures) }

pub returns-else-sound : goal.returns-else-sound
returns-else-sound c =
    record { is = not-read (held (goal.at.returns-else-sound c).Start) (Person _) _ (opened (goal.at.returns-else-sound c).In-Ok) (sym c.sound.ensures ∙ c.if-sound.false) }
