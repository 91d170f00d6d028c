-- The rows of a file (01, "Lines of a file"). A row is a line with its LF, which only the last may lack: the rows joined are the file.
-- Assumes nothing.
use Rattle.std.specs.Prelude.{ℕ, suc, ◌+◌, Bool, not, ◌≡◌, List, [], ◌∷◌, length, drop, eqb}
use Prim.Native.Char.{code}
use Rattle.base.specs.Choice.{pick}
use Rattle.base.specs.Lists.{part, before, joined}
use Rattle.line.specs.Line.{read_line}
use Rattle.line.specs.declared.Line.{Line}
use Rattle.line.specs.declared.Line.TheVariants.{Blank, Comment, Header, Entry, Bad}

-- the rows of a file: each LF ends one
unfoldable pub rows : List ℕ → List (List ℕ)
rows [] = []
rows (b ∷ bs) = pick (eqb b (code "\n")) ((b ∷ []) ∷ rows bs) (before b (rows bs))

-- the rows joined are the file (proved: `joined-rows`)
abbrev pub RowsJoined : Type 0
RowsJoined = (file : List ℕ) → joined (rows file) ≡ file

-- a row's line: the bytes before its LF
unfoldable pub line_of : List ℕ → List ℕ
line_of [] = []
line_of (b ∷ bs) = pick (eqb b (code "\n")) [] (b ∷ line_of bs)

-- the row has its LF
unfoldable pub ended : List ℕ → Bool
ended r = not (eqb (length (line_of r)) (length r))

-- A row of a file: its number from 1, where it starts, its bytes with the LF, what its line is, and the group that it stands in,
-- a header in its own. Before any header the group is empty, which is no group's name.
pub record Row : Type 0 where
  pub line : ℕ
  pub start : ℕ
  pub bytes : List ℕ
  pub reading : Line
  pub group : List ℕ

-- the group after a line
abbrev pub group_after : List ℕ → List ℕ → Line → List ℕ
group_after group line Blank = group
group_after group line Comment = group
group_after group line (Header e) = part 1 e line
group_after group line (Entry key name value) = group
group_after group line (Bad n) = group

-- rows as they are numbered and placed from here on, in a group
unfoldable pub rows_from : ℕ → ℕ → List ℕ → List (List ℕ) → List Row
rows_from n at group [] = []
rows_from n at group (r ∷ rs) =
    let l : Line = read_line (line_of r) in
    let g : List ℕ = group_after group (line_of r) l in
    record { line = n; start = at; bytes = r; reading = l; group = g } ∷ rows_from (suc n) (at + length r) g rs

-- the rows of a whole file
unfoldable pub read_rows : List ℕ → List Row
read_rows file = rows_from 1 0 [] (rows file)

-- where an entry's value starts in its line
abbrev pub value_start : Line → ℕ
value_start Blank = 0
value_start Comment = 0
value_start (Header e) = 0
value_start (Entry key name value) = value
value_start (Bad n) = 0

-- the raw value
unfoldable pub raw_value : Row → List ℕ
raw_value r = drop (value_start r.reading) (line_of r.bytes)
