-- `record::read` meets its contract: each test that fails says that no whole record stands there. Assumes nothing.
use native.Mathlib.Omega.{arith}
use lib.ListN.{length-drop}
use Rattle.record.proofs.Place.{whole-if, no-head, no_length, no_bytes, damaged-at, record-there}
use Rattle.record.proofs.read.Goals as goal

pub returns : goal.returns
returns c =
    record-there _ _ (whole-if _ (simp length-drop (omega arith)) (omega arith) (simp length-drop (omega arith)))
    c.number-kind.ensures.0 (omega arith)

pub returns-then-s-at : goal.returns-then-s-at
returns-then-s-at c = damaged-at _ _ (no-head _ (simp length-drop (omega arith)))

pub returns-then-s-at-lt-HEAD : goal.returns-then-s-at-lt-HEAD
returns-then-s-at-lt-HEAD c = damaged-at _ _ (no-head _ (simp length-drop (omega arith)))

pub returns-then-size-lt-HEAD : goal.returns-then-size-lt-HEAD
returns-then-size-lt-HEAD c = damaged-at _ _ (no_length _ (omega arith))

pub returns-then-s-at-2 : goal.returns-then-s-at-2
returns-then-s-at-2 c = damaged-at _ _ (no_bytes _ (simp length-drop (omega arith)))
