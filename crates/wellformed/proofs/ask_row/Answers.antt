-- `ask_row` meets its contract: the plain key is the entry's own, the last one, or looked for. Assumes nothing.
use mathlib.Core.Path.{sym, ◌∙◌}
use borrow.Author.Tests.{ne_eqb}
use Rattle.rows.specs.Rows.{read_rows}
use Rattle.rows.specs.Title.{find_row, Key}
use Rattle.rows.proofs.Told.{found-there}
use Rattle.wellformed.specs.Pass.{bytes}
use Rattle.wellformed.proofs.Places.{reads-within, key-lies}
use Rattle.wellformed.proofs.Plain.{there-as}
use Rattle.wellformed.proofs.ask_row.Goals as goal

pub returns-then-same_bytes : goal.returns-then-same_bytes
returns-then-same_bytes c =
    let x = rw c.in-Entry.is at c.requires.0 in
    let t = sym c.same_bytes.ensures ∙ c.if-same_bytes.true in
    let y = there-as c.args.file.now (bytes c.args.file.now c.args.s.group) c.args.s.last _ c.requires.1.last (key-lies x) (reads-within x).0 t c.requires.3 in
    rw (c.in-Entry.is, ne_eqb _ _ c.if-key-name.false, y)

pub returns-else-same_bytes : goal.returns-else-same_bytes
returns-else-same_bytes c =
    let t = found-there (find_row (read_rows c.args.file.now) (Key c.bytes-own.result.now c.bytes.result.now)) c.is_some-there.ensures c.find_key.ensures in
    rw (c.in-Entry.is, ne_eqb _ _ c.if-key-name.false, ← c.bytes-own.ensures, ← c.bytes.ensures, t) c.refuse_unless.ensures

pub same_bytes-requires : goal.same_bytes-requires
same_bytes-requires c = (c.requires.1.last, key-lies (rw c.in-Entry.is at c.requires.0))

pub bytes-requires : goal.bytes-requires
bytes-requires c = key-lies (rw c.in-Entry.is at c.requires.0)
