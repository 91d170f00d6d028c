-- `journal::put_front` meets its contract: five writes, one after another, are the front of the record. Assumes nothing.
use Prim.Native.Nat.{◌+◌}
use native.Mathlib.Omega.{arith}
use Rattle.record.proofs.Numbers.{length-number}
use Rattle.journal.specs.Journal.{Person}
use Rattle.journal.proofs.Front.{front-written}
use Rattle.journal.proofs.put_front.Goals as goal

pub returns : goal.returns
returns c =
    let s = c in
    let a = s.args in
    cc (front-written a.out.now a.at (Person a.person) a.place a.old.now a.new s.requires {b = a.at + 8} {c = a.at + 12} {d = a.at + 16}
    (omega (arith, length-number 2 a.person)) (omega arith) (omega arith))
