-- `rows::line_end` meets its contract: what is left to find from `i` is the whole answer. Assumes nothing.
use Rattle.rows.proofs.Step.{line-none, line-near, line-skip}
use native.Mathlib.Omega.{arith}
use mathlib.Core.Path.{refl, sym, ◌∙◌}
use lib.ListN.{length, drop}
use Prim.Native.Nat.{◌+◌, ◌<◌}
use Rattle.rows.specs.Find.{line_length}
use Rattle.rows.proofs.line_end.Goals as goal
use Rattle.rows.proofs.line_end.Goals.{Else-clear}

pub loop-i-preserved : goal.loop-i-preserved
loop-i-preserved c =
    let s = c.args.s.now in
    omega (arith, c.loop-i.invariant, line-skip 16 c.loop-i.i s (omega arith) (sym c.clear.ensures ∙ c.if-clear.true))

-- an LF stands among the sixteen bytes
next-inside : (c : Else-clear) → c.loop-i.i + line_length (drop c.loop-i.i c.args.s.now) < length c.args.s.now
next-inside c =
    let s = c.args.s.now in
    omega (arith, line-near 16 c.loop-i.i s (sym c.clear.ensures ∙ c.if-clear.false))

pub loop-i-init : goal.loop-i-init
loop-i-init c = refl

pub returns-then-s-i-lt16 : goal.returns-then-s-i-lt16
returns-then-s-i-lt16 c = c.near_end.ensures ∙ c.loop-i.invariant

pub next_lf-requires : goal.next_lf-requires
next_lf-requires c = next-inside (goal.at.next_lf-requires c).Else-clear

pub returns-else-clear : goal.returns-else-clear
returns-else-clear c = c.next_lf.ensures ∙ c.loop-i.invariant

pub returns : goal.returns
returns c = omega (arith, line-none c.args.s.now c.loop-i.i c.loop-i-test.false)
