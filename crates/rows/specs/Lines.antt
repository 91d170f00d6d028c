-- The lines of a file, one after another. Assumes nothing.
use Rattle.std.specs.Prelude.{◌≡◌, ◌+◌, ◌≤◌, ◌<◌, List, ℕ, Option, Some, None, length, drop}
use Rattle.base.specs.Lists.{part}
use Rattle.rows.specs.Find.{line_length}
use Rattle.rows.specs.declared.Lines.{Lines}
use Rattle.rows.specs.declared.LineAt.{LineAt}

-- the lines are those of a file, from its start
pub record Begins (file : List ℕ) (lines : Lines) : Type 0 where
  pub of : lines.file.now ≡ file
  pub number : lines.number ≡ 1
  pub start : lines.start ≡ 0

-- the next line, and the lines behind it
pub record Turn (lines : Lines) (line : LineAt) (later : Lines) : Type 0 where
  pub inside : lines.start < length lines.file.now
  pub number : line.number ≡ lines.number
  pub start : line.start ≡ lines.start
  pub end : line.end ≡ lines.start + line_length (drop lines.start lines.file.now)
  pub bytes : line.bytes.now ≡ part line.start line.end lines.file.now
  pub of : later.file ≡ lines.file
  pub next_number : later.number ≡ lines.number + 1
  pub next_start : later.start ≡ line.end + 1

-- what `next` gives: the next line, or nothing at the end of the file
abbrev pub GivesLine : Lines → Option LineAt → Lines → Type 0
GivesLine lines (Some line) later = Turn lines line later
GivesLine lines None later = length lines.file.now ≤ lines.start
