-- `utf8::sound_from` meets its contract: bytes that may follow, from the place on or from an earlier one. Assumes nothing.
use native.Mathlib.Omega.{arith}
use mathlib.Core.Path.{sym, ◌∙◌}
use mathlib.Core.Bool.{false≢true}
use Prim.Native.Nat.{◌-◌}
use lib.ListN.{length}
use Rattle.characters.proofs.Windows.{sound-less, rest-sound}
use Rattle.characters.proofs.utf8.sound_from.Goals as goal

pub returns-then-s-lt19 : goal.returns-then-s-lt19
returns-then-s-lt19 c = λ e. absurd (false≢true e)

pub returns-then-k-lt3 : goal.returns-then-k-lt3
returns-then-k-lt3 c = λ e. absurd (false≢true e)

pub returns-then-is_due : goal.returns-then-is_due
returns-then-is_due c = λ e. absurd (false≢true e)

pub returns-then-s-k-lt16 : goal.returns-then-s-k-lt16
returns-then-s-k-lt16 c =
    let a = c.args in
    λ e. rest-sound a.s.now a.k (omega arith) (omega arith) (sym c.is_due.ensures ∙ c.if-is_due.false) (sound-less a.s.now (length a.s.now - 19) (a.k - 3) (omega arith) (c.sound_rest.ensures e))

pub returns : goal.returns
returns c =
    let a = c.args in
    λ e. rest-sound a.s.now a.k (omega arith) (omega arith) (sym c.is_due.ensures ∙ c.if-is_due.false) (c.sound_rest-2.ensures e)
