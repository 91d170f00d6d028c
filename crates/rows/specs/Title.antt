-- What a row names: a group, or a key with its postfix in a group. "No group twice", "no key twice in its group" and lookup are one notion.
-- Assumes nothing.
use Rattle.std.specs.Prelude.{ℕ, Bool, false, ◌&&◌, List, [], ◌∷◌, take, Option}
use Rattle.base.specs.Choice.{there}
use Rattle.base.specs.Lists.{ascii, same, first}
use Rattle.line.specs.declared.Line.{Line}
use Rattle.line.specs.declared.Line.TheVariants.{Blank, Comment, Header, Entry, Bad}
use Rattle.rows.specs.Rows.{Row, line_of}

-- the group that comes first
abbrev pub desktop_entry : List ℕ
desktop_entry = ascii "Desktop Entry"

-- what a row names
pub data Title : Type 0 where
  Nameless : Title
  Group : List ℕ → Title
  Key : List ℕ → List ℕ → Title

-- what a row names, by its group, its line and its reading
abbrev pub title_of : List ℕ → List ℕ → Line → Title
title_of group line Blank = Nameless
title_of group line Comment = Nameless
title_of group line (Header e) = Group group
title_of group line (Entry key name value) = Key group (take name line)
title_of group line (Bad n) = Nameless

-- the same of a row
unfoldable pub title : Row → Title
title r = title_of r.group (line_of r.bytes) r.reading

-- two titles are the same; what has none is the same as nothing
unfoldable pub same_title : Title → Title → Bool
same_title Nameless t = false
same_title (Group g) Nameless = false
same_title (Group g) (Group h) = same g h
same_title (Group g) (Key h k) = false
same_title (Key g k) Nameless = false
same_title (Key g k) (Group h) = false
same_title (Key g k) (Key h l) = same g h && same k l

-- the titles that there are, with one more
abbrev pub seeing : Title → List Title → List Title
seeing Nameless seen = seen
seeing (Group g) seen = Group g ∷ seen
seeing (Key g k) seen = Key g k ∷ seen

-- the titles of rows, in order
unfoldable pub titles : List Row → List Title
titles [] = []
titles (r ∷ rs) = seeing (title r) (titles rs)

-- the first row of a title
unfoldable pub find_row : List Row → Title → Option Row
find_row rs t = first (λ r. same_title t (title r)) rs

-- a row of that title is there
abbrev pub has : List Row → Title → Bool
has rs t = there (find_row rs t)
