-- What the functions of this crate answer, by the definitions of rows. Assumes nothing.
use Rattle.std.specs.Prelude.{ℕ, suc, ◌+◌, Bool, false, not, List, [], ◌∷◌, length, take, eqb, Option, option_map, Result, Ok, Err}
use Prim.Native.Char.{code}
use Rattle.base.specs.Choice.{pick}
use Rattle.base.specs.Lists.{same, part, any}
use Rattle.line.specs.declared.Name.{Name}
use Rattle.line.specs.declared.Line.{Line}
use Rattle.line.specs.declared.Line.TheVariants.{Blank, Comment, Header, Entry, Bad}
use Rattle.line.specs.Line.{is_bad}
use Rattle.rows.specs.Rows.{Row, line_of, read_rows, value_start}
use Rattle.rows.specs.declared.Row as told

-- a byte of a line: any but LF
abbrev pub no_lf : ℕ → Bool
no_lf b = not (eqb b (code "\n"))

-- the length of the first line, without its LF
unfoldable pub line_length : List ℕ → ℕ
line_length [] = 0
line_length (b ∷ bs) = let more : ℕ = suc (line_length bs) in pick (eqb b (code "\n")) 0 more

-- no row is bad
unfoldable pub none_bad : List ℕ → Bool
none_bad file = not (any (λ r. is_bad r.reading) (read_rows file))

-- what is told of a row: its number, where it starts, where its line ends, where its value starts
abbrev pub places : Row → told.Row
places r = record { line = r.line; start = r.start; end = r.start + length (line_of r.bytes); value = r.start + value_start r.reading }

-- the same of a row that may be there
abbrev pub found_of : Option Row → Option told.Row
found_of = option_map places

-- the line's key with its postfix is this one
abbrev pub named_as : List ℕ → List ℕ → Result Name ℕ → Bool
named_as key line (Ok n) = same key (take n.name line)
named_as key line (Err n) = false

-- whether a line and what follows stand in a group, if what stood before it did
abbrev pub inside_after : List ℕ → List ℕ → Bool → Line → Bool
inside_after group line inside Blank = inside
inside_after group line inside Comment = inside
inside_after group line inside (Header e) = same group (part 1 e line)
inside_after group line inside (Entry key name value) = inside
inside_after group line inside (Bad n) = inside
