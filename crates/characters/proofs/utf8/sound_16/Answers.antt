-- `utf8::sound_16` meets its contract: the bytes asked so far may follow. Assumes nothing.
use native.Mathlib.Omega.{arith}
use mathlib.Core.Path.{◌≡◌, sym, ◌∙◌}
use Prim.Native.Nat.{◌+◌}
use Rattle.base.proofs.Tests.{and_both}
use Rattle.characters.proofs.Windows.{followed-none, followed-more}
use Rattle.characters.proofs.utf8.sound_16.Goals as goal

pub loop-j-init : goal.loop-j-init
loop-j-init c = let a = c.args in (omega arith, λ e. followed-none a.s.now a.i (a.i + 0) (omega arith))

pub loop-j-preserved : goal.loop-j-preserved
loop-j-preserved c =
    let l = c.loop-j in
    let a = c.args in
    let k : a.i + (l.j + 1) ≡ a.i + l.j + 1 = omega arith in
    (omega arith, λ e. let b = and_both l.sound c.follows-sound.result e in rw k (followed-more a.s.now a.i (a.i + l.j) (l.invariant.1 b.0) (sym c.follows-sound.ensures ∙ b.1)))

pub returns : goal.returns
returns c =
    let l = c.loop-j in
    let q : l.j ≡ 16 = omega arith in
    rw q at l.invariant.1
