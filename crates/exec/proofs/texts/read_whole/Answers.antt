-- `texts::read_whole` meets its contract: a text is no longer than its raw value, so there is room for it. Assumes nothing.
use native.Mathlib.Omega.{arith}
use Rattle.text.specs.Escape.{read_text}
use Rattle.exec.proofs.Values.{read-le, read-room}
use Rattle.exec.proofs.texts.read_whole.Goals as goal

pub returns : goal.returns
returns c =
    read-room (read_text c.args.raw.now) c.args.out.now (omega (arith, read-le c.args.raw.now)) c.read_text.ensures
