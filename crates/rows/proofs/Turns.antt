-- A turn of the iterator over the lines of a file, said of the file. Assumes nothing.
use Rattle.std.specs.Prelude.{◌≡◌, ℕ, ◌+◌, ◌<◌, List, length, drop}
use Rattle.base.specs.Lists.{part}
use Rattle.rows.specs.Find.{line_length}
use Rattle.rows.specs.Lines.{Turn}
use Rattle.rows.specs.declared.Lines.{Lines}
use Rattle.rows.specs.declared.LineAt.{LineAt}

module _ {s : List ℕ} {lines later : Lines} {l : LineAt} (o : lines.file.now ≡ s) (t : Turn lines l later) where
  pub turn-inside : lines.start < length s
  turn-inside = rw o at t.inside

  pub turn-end : l.end ≡ lines.start + line_length (drop lines.start s)
  turn-end = rw o at t.end

  pub turn-bytes : l.bytes.now ≡ part lines.start l.end s
  turn-bytes = rw (t.start, o) at t.bytes

  pub turn-of : later.file.now ≡ s
  turn-of = rw t.of o
