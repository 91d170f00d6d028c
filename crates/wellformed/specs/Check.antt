-- The check: the faults 1 to 6 of a file, in 01's order (01, "Lines of a file" and "What the caller is told"). Assumes nothing.
use Rattle.std.specs.Prelude.{ℕ, Bool, true, false, not, List, [], ◌∷◌, length, take, leb, Option, Some, None, Ok, Err}
use Rattle.base.specs.Bounds.{file_most}
use Rattle.base.specs.Choice.{pick, maybe}
use Rattle.base.specs.Lists.{span, any, first}
use Rattle.fault.specs.declared.Fault.{Fault}
use Rattle.fault.specs.declared.Fault.TheVariants.{TooLong, BadLine, FirstGroup, RepeatedGroup, RepeatedKey, NoPlainKey}
use Rattle.fault.specs.Answer.{Answer, ◌>>=◌, need, unless}
use Rattle.characters.specs.Class.{key_byte}
use Rattle.line.specs.declared.Line.{Line}
use Rattle.line.specs.declared.Line.TheVariants.{Blank, Comment, Header, Entry, Bad}
use Rattle.rows.specs.Rows.{Row, read_rows}
use Rattle.rows.specs.Title.{desktop_entry, Title, Nameless, Group, Key, title, same_title, seeing, has}

-- A title after those seen: the first must be the group named, and none comes twice.
unfoldable pub title_fault : List ℕ → List Title → Title → ℕ → Fault → Option Fault
title_fault leading [] t line again = pick (same_title t (Group leading)) None (Some (FirstGroup line))
title_fault leading (s ∷ seen) t line again = pick (any (same_title t) (s ∷ seen)) (Some again) None

-- what is wrong with a row, after the titles seen: bad, out of place, or repeated
abbrev pub row_fault : List ℕ → List Title → Title → ℕ → Line → Option Fault
row_fault leading seen t line Blank = None
row_fault leading seen t line Comment = None
row_fault leading seen t line (Header e) = title_fault leading seen t line (RepeatedGroup line)
row_fault leading seen t line (Entry key name value) = title_fault leading seen t line (RepeatedKey line)
row_fault leading seen t line (Bad n) = Some (BadLine line n)

-- the earliest line with 2 to 5
unfoldable pub earliest : List ℕ → List Title → List Row → Option Fault
earliest leading seen [] = None
earliest leading seen (r ∷ rs) =
    let later : Option Fault = earliest leading (seeing (title r) seen) rs in
    maybe (row_fault leading seen (title r) r.line r.reading) later Some

-- a header of any group
abbrev pub is_group : Title → Bool
is_group Nameless = false
is_group (Group g) = true
is_group (Key g k) = false

-- a key without its postfix
unfoldable pub plain_of : List ℕ → List ℕ
plain_of key = take (span key_byte key) key

-- the title of the plain key that a key asks for; a plain key asks for itself
abbrev pub plain_title : Title → Title
plain_title Nameless = Nameless
plain_title (Group g) = Nameless
plain_title (Key g k) = Key g (plain_of k)

-- the title is a key's, and no row has it
abbrev pub wanted : List Row → Title → Bool
wanted rs Nameless = false
wanted rs (Group g) = false
wanted rs (Key g k) = not (has rs (Key g k))

-- the row is a postfixed key that stands nowhere plain in its group
unfoldable pub no_plain : List Row → Row → Bool
no_plain rs r = wanted rs (plain_title (title r))

-- 2 to 5, then 3 for no header
unfoldable pub titled_as : List ℕ → List Row → Answer (Unit {0})
titled_as leading rs = do
  _ ← unless (earliest leading [] rs)
  need (any (λ r. is_group (title r)) rs) (FirstGroup 0)

-- 6
unfoldable pub plain_all : List Row → Answer (Unit {0})
plain_all rs = maybe (first (no_plain rs) rs) (Ok tt) (λ r. Err (NoPlainKey r.line))

-- 2 to 6, of the rows of a file that is not too long
abbrev pub checked_rows : List ℕ → List Row → Answer (Unit {0})
checked_rows leading rs = titled_as leading rs >>= λ _. plain_all rs

-- the faults 1 to 6 of a file whose first group has this name, in 01's order
unfoldable pub check_as : List ℕ → List ℕ → Answer (Unit {0})
check_as leading file = do
  _ ← need (leb (length file) file_most) TooLong
  checked_rows leading (read_rows file)

-- the check: the first group is Desktop Entry
abbrev pub check : List ℕ → Answer (Unit {0})
check file = check_as desktop_entry file
