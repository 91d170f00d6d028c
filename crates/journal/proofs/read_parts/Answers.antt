-- `journal::read_parts` meets its contract: the numbers in the bytes say where the edit's bytes stand. Assumes nothing.
use mathlib.Core.Path.{refl}
use native.Mathlib.Omega.{arith}
use Rattle.journal.proofs.Read.{bytes-short, bytes-unlike, bytes_read}
use Rattle.journal.proofs.read_parts.Goals as goal

pub returns-then-size-lt12 : goal.returns-then-size-lt12
returns-then-size-lt12 c =
    let s = c in
    (refl, bytes-short _ _ _ s.requires.0 s.requires.1 c.if-size-lt12.true)

pub returns-then-size-old : goal.returns-then-size-old
returns-then-size-old c =
    let n = c in
    let s = n in
    (refl, bytes-unlike _ _ _ s.requires.0 s.requires.1 (omega arith) n.number-old.ensures.0 n.number-new.ensures.0 c.if-size-old.true)

pub returns : goal.returns
returns c =
    let n = c in
    let s = n in
    let e = bytes_read _ _ _ s.requires.0 s.requires.1 (omega arith) n.number-old.ensures.0 n.number-new.ensures.0 c.if-size-old.false c.number-place.ensures.0 in
    (refl, refl, e, refl, omega arith, omega arith)
