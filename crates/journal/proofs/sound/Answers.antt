-- `journal::sound` meets its contract: the walk says whether the journal reads. Assumes nothing.
use Rattle.std.specs.Prelude.{Ok, Err}
use mathlib.Core.Path.{◌≡◌, sym, ap, ◌∙◌}
use mathlib.Core.List.{List}
use Prim.Native.Nat.{ℕ}
use Rattle.base.specs.Choice.{there}
use Rattle.fault.specs.Answer.{Answer}
use Rattle.journal.specs.Journal.{read_journal}
use Rattle.journal.specs.Walk.{Walks}
use Rattle.std.specs.Result.{is_ok}
use Rattle.journal.proofs.sound.Goals as goal

walks-there : (s : List ℕ) (standing : ℕ) (a : Answer ℕ) → Walks s standing a → is_ok a ≡ there (read_journal s standing)
walks-there s standing (Ok last) w = sym (ap there w.reads)
walks-there s standing (Err f) w = sym (ap there w.1)

pub returns : goal.returns
returns c = c.is_ok.ensures.value ∙ walks-there _ _ c.walk.result c.walk.ensures
