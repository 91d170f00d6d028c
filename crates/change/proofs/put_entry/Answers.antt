-- `put_entry` meets its contract: each piece stands right behind the last. Assumes nothing.
use native.Mathlib.Omega.{arith}
use Rattle.change.proofs.Writing.{write_then}
use Rattle.change.proofs.Writing.{entry_length}
use Rattle.change.proofs.put_entry.Goals as goal

pub write-sign-requires : goal.write-sign-requires
write-sign-requires c = let a = c.args in omega (arith, entry_length a.key.now a.text.now)

pub write-from-requires : goal.write-from-requires
write-from-requires c =
    let a = c.args in
    omega (arith, entry_length a.key.now a.text.now)

pub put_raw-requires : goal.put_raw-requires
put_raw-requires c =
    let a = c.args in
    omega (arith, entry_length a.key.now a.text.now)

pub returns : goal.returns
returns c =
    let a = c.args in
    let n = entry_length a.key.now a.text.now in
    write_then (write_then c.write-sign.ensures c.write-from.ensures (omega arith)) c.put_raw.ensures (omega arith)
