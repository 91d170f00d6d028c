-- `write_run` meets its contract: the room left says whether the records are written. Assumes nothing.
use Rattle.std.specs.Prelude.{Ok}
use mathlib.Core.Path.{refl, sym, ◌∙◌}
use Rattle.text.proofs.OutputLaws.{leaves-full, leaves-written}
use Rattle.command.specs.Command.{arguments_in}
use Rattle.run.specs.Run.{run_of}
use Rattle.run.specs.Step.{put_of, items_in}
use Rattle.text.proofs.RoomLaws.{spend-was, spend-lacks}
use Rattle.run.proofs.Arguments.{records_of}
use Rattle.run.proofs.write_run.Goals as goal

pub put_run-requires : goal.put_run-requires
put_run-requires c =
    (c.requires.0, c.requires.1, spend-was (sym c.in-Some.is ∙ c.run_left.ensures))

pub returns-in-None : goal.returns-in-None
returns-in-None c =
    let a = c.args in
    let x = records_of (run_of (put_of a.item.now a.name.now a.location.now) (items_in a.list.now) a.icon.now) (arguments_in a.exec.now) in
    leaves-full (Ok x) a.out.now refl (spend-lacks (sym c.in-None.is ∙ c.run_left.ensures))

pub returns-in-Some : goal.returns-in-Some
returns-in-Some c =
    let a = c.args in
    let x = records_of (run_of (put_of a.item.now a.name.now a.location.now) (items_in a.list.now) a.icon.now) (arguments_in a.exec.now) in
    leaves-written (Ok x) a.out.now refl (spend-was (sym c.in-Some.is ∙ c.run_left.ensures)) c.put_run.ensures
