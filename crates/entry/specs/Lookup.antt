-- Lookup: the raw value of a key with its postfix in a group (01, "What the caller is told"). Assumes nothing.
use Rattle.std.specs.Prelude.{ℕ, ◌+◌, ◌&&◌, List, [], length, Option, Some, None, Ok, Err}
use Rattle.base.specs.Lists.{part}
use Rattle.fault.specs.declared.Fault.TheVariants.{BadArgument, Missing}
use Rattle.fault.specs.Answer.{Answer, ◌>>=◌, need, some_or}
use Rattle.line.specs.Form.{group_form, key_form}
use Rattle.rows.specs.Rows.{Row, line_of, read_rows, value_start}
use Rattle.rows.specs.Title.{Key, find_row}
use Rattle.rows.specs.declared.Row as told
use Rattle.wellformed.specs.Check.{check}
use Rattle.entry.specs.declared.Ends.{Ends}

-- the ends of a row's value: to the end of its line
unfoldable pub value_ends : Row → Ends
value_ends r = record { from = r.start + value_start r.reading; to = r.start + length (line_of r.bytes) }

-- lookup's two ends, or its refusal
unfoldable pub lookup : List ℕ → List ℕ → List ℕ → Answer Ends
lookup file group key = do
  _ ← check file
  _ ← need (group_form group && key_form key) BadArgument
  r ← some_or (find_row (read_rows file) (Key group key)) Missing
  Ok (value_ends r)

-- the part of the file between two ends; empty when refused
abbrev pub part_of : List ℕ → Answer Ends → List ℕ
part_of file (Ok e) = part e.from e.to file
part_of file (Err f) = []

-- the ends that finding a row tells
abbrev pub ends_of : Option told.Row → Answer Ends
ends_of (Some r) = Ok (record { from = r.value; to = r.end })
ends_of None = Err Missing
