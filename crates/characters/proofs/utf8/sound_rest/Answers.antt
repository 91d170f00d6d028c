-- `utf8::sound_rest` meets its contract: the bytes asked so far may follow. Assumes nothing.
use native.Mathlib.Omega.{arith}
use mathlib.Core.Path.{◌≡◌, refl, sym, ◌∙◌}
use mathlib.Core.Bool.{false≢true}
use Prim.Native.Nat.{◌+◌, ◌-◌}
use lib.ListN.{length}
use Rattle.characters.proofs.Windows.{followed-none, followed-join, not-true}
use Rattle.characters.proofs.utf8.sound_rest.Goals as goal

pub loop-k-init : goal.loop-k-init
loop-k-init c = let a = c.args in (omega arith, omega arith, followed-none a.s.now a.at a.at refl)

pub loop-k-preserved : goal.loop-k-preserved
loop-k-preserved c =
    let l = c.loop-k in
    let a = c.args in
    (omega arith, omega arith, followed-join a.s.now a.at l.k l.k (l.k + 16) l.invariant.2 (c.sound_16.ensures c.if-sound_16.true) (omega arith))

pub returns-else-sound_16 : goal.returns-else-sound_16
returns-else-sound_16 c = λ e. absurd (false≢true e)

pub returns-then-sound_16-2 : goal.returns-then-sound_16-2
returns-then-sound_16-2 c =
    let l = c.loop-k in
    let a = c.args in
    let n = length a.s.now in
    let q : n - 19 + 16 ≡ n - 3 = omega arith in
    λ e. record {
      all_follow = followed-join a.s.now a.at l.k (n - 19) (n - 3) l.invariant.2 (rw q at (c.sound_16-2.ensures c.if-sound_16-2.true)) (omega arith);
      none_due = sym c.is_due.ensures ∙ not-true c.is_due.result e;
    }

pub returns : goal.returns
returns c = λ e. absurd (false≢true e)
