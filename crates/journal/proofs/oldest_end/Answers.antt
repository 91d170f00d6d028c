-- `journal::oldest_end` meets its contract: the oldest k end where record k ends, if that stands. Assumes nothing.
use native.Mathlib.Omega.{arith}
use mathlib.Core.Path.{◌∙◌, sym}
use Rattle.base.proofs.Tests.{some-there}
use Rattle.journal.proofs.Joined.{of, journal-says}
use Rattle.journal.proofs.Forgotten.{oldest-none}
use Rattle.journal.proofs.Ends.{oldest-missing, oldest-beyond, oldest-ends}
use Rattle.journal.proofs.oldest_end.Goals as goal

pub returns-then-k-eq0 : goal.returns-then-k-eq0
returns-then-k-eq0 c j h = rw c.if-k-eq0.true (omega arith, oldest-none j.stand)

pub nth-requires : goal.nth-requires
nth-requires c =
    let j = some-there _ c.requires in
    rw (of _ _ (journal-says _ _ j.0 j.1).edits_are).cuts

pub returns-in_default : goal.returns-in_default
returns-in_default c j h =
    let n = c in
    oldest-missing _ _ _ j h (omega (arith, n.if-k-eq0.false)) (sym n.nth.ensures ∙ c.in_default.is)

pub returns-then-standing-to : goal.returns-then-standing-to
returns-then-standing-to c j h =
    let e = c in
    let n = e in
    oldest-beyond _ _ _ j h (omega (arith, n.if-k-eq0.false)) (sym n.nth.ensures ∙ e.in-Some.is) c.if-standing-to.true

pub returns : goal.returns
returns c j h =
    let e = c in
    let n = e in
    oldest-ends _ _ _ j h (omega (arith, n.if-k-eq0.false)) (sym n.nth.ensures ∙ e.in-Some.is) c.if-standing-to.false
