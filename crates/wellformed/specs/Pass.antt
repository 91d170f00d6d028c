-- What the functions of this crate answer, by the definitions of the check. Assumes nothing.
use Rattle.std.specs.Prelude.{◌≡◌, ℕ, ◌+◌, ◌-◌, ◌%◌, ◌≤◌, ◌<◌, Bool, true, false, not, ◌||◌, List, length, take, drop, eqb, Ok, Err}
use Rattle.base.specs.Choice.{pick}
use Rattle.base.specs.Lists.{same}
use Rattle.fault.specs.Answer.{Answer, need}
use Rattle.fault.specs.declared.Fault.{Fault}
use Rattle.fault.specs.declared.Fault.TheVariants.{BadLine, FirstGroup, RepeatedGroup, RepeatedKey, NoPlainKey}
use Rattle.line.specs.Line.{read_line}
use Rattle.line.specs.declared.Line.{Line}
use Rattle.line.specs.declared.Line.TheVariants.{Blank, Comment, Header, Entry, Bad}
use Rattle.marks.specs.Marks.{marked, with_mark}
use Rattle.rows.specs.Rows.{Row, group_after, read_rows}
use Rattle.rows.specs.Title.{Title, Nameless, Group, Key, title_of, same_title, has}
use Rattle.wellformed.specs.Check.{plain_all}
use Rattle.wellformed.specs.declared.Part.{Part}
use Rattle.wellformed.specs.declared.State.{State}
use Rattle.wellformed.specs.declared.Order.{Order}
use Rattle.wellformed.specs.declared.Order.TheVariants.{Settled, Doubtful}

-- ---- parts of the file

-- the bytes of a part
abbrev pub bytes : List ℕ → Part → List ℕ
bytes file x = take x.len (drop x.from file)

-- the part lies in the file
abbrev pub Lies : List ℕ → Part → Type 0
Lies file x = x.from + x.len ≤ length file

-- the row's line lies in the file, and this is its reading
pub record Reads (file : List ℕ) (row : Part) (r : Line) : Type 0 where
  pub lies : Lies file row
  pub reading : r ≡ read_line (bytes file row)

-- the parts of a state lie in the file
pub record Within (file : List ℕ) (s : State) : Type 0 where
  pub group : Lies file s.group
  pub last : Lies file s.last
  pub want : Lies file s.want

-- ---- the fault of a row

-- a title after some rows: it must be the leading group's where they have none, which the flag tells, and else be new
unfoldable pub title_after : Bool → List ℕ → List Row → Title → ℕ → Fault → Answer (Unit {0})
title_after true leading rs t n again = need (same_title t (Group leading)) (FirstGroup n)
title_after false leading rs t n again = need (not (has rs t)) again

-- 2 to 5 of a row after some rows, by what its line is
abbrev pub row_after : Bool → List ℕ → List Row → Title → ℕ → Line → Answer (Unit {0})
row_after first leading rs t n Blank = Ok tt
row_after first leading rs t n Comment = Ok tt
row_after first leading rs t n (Header end) = title_after first leading rs t n (RepeatedGroup n)
row_after first leading rs t n (Entry key name value) = title_after first leading rs t n (RepeatedKey n)
row_after first leading rs t n (Bad b) = Err (BadLine n b)

-- the title of a row that is read in a state
abbrev pub named : List ℕ → Part → Line → State → Title
named file row r s = title_of (group_after (bytes file s.group) (bytes file row) r) (bytes file row) r

-- What the marks tell of some rows: a group without a mark is not among them, and no key of the group with this number either.
pub record MarksTell (m : List ℕ) (tag : ℕ) (group : List ℕ) (rs : List Row) : Type 0 where
  pub words : 0 < length m
  pub groups : (x : List ℕ) → marked m 0 x ≡ false → has rs (Group x) ≡ false
  pub keys : (x : List ℕ) → marked m tag x ≡ false → has rs (Key group x) ≡ false

-- the marks with a title's own
abbrev pub marks_with : List ℕ → ℕ → Title → List ℕ
marks_with m tag Nameless = m
marks_with m tag (Group g) = with_mark m 0 g
marks_with m tag (Key g k) = with_mark m tag k

-- ---- the state after a row

-- no part
abbrev pub nowhere : Part
nowhere = record { from = 0; len = 0 }

-- before the first row
abbrev pub start : State
start = record { tag = 0; group = nowhere; last = nowhere; want = nowhere; doubt = false }

-- after a header: a plain key that did not come is a doubt
abbrev pub after_header : State → Part → State
after_header s name =
    pick (eqb s.want.len 0)
    (record { tag = s.tag % 65535 + 1; group = name; last = nowhere; want = s.want; doubt = s.doubt })
    (record { tag = s.tag % 65535 + 1; group = name; last = nowhere; want = nowhere; doubt = true })

-- after a plain key: it is the last, and no longer to come
abbrev pub after_plain : List ℕ → State → Part → State
after_plain file s key =
    pick (same (bytes file s.want) (bytes file key))
    (record { tag = s.tag; group = s.group; last = key; want = nowhere; doubt = s.doubt })
    (record { tag = s.tag; group = s.group; last = key; want = s.want; doubt = s.doubt })

-- after a postfixed key: its plain key is the last, or still to come; a second one that is still to come is a doubt
abbrev pub after_postfixed : List ℕ → State → Part → State
after_postfixed file s key =
    pick (same (bytes file s.last) (bytes file key)) s
    (pick (same (bytes file s.want) (bytes file key)) s
    (pick (eqb s.want.len 0)
    (record { tag = s.tag; group = s.group; last = s.last; want = key; doubt = s.doubt })
    (record { tag = s.tag; group = s.group; last = s.last; want = s.want; doubt = true })))

-- after a row that starts at p, by what its line is; the flag: a postfixed key's plain key is there
abbrev pub after : List ℕ → ℕ → Bool → State → Line → State
after file p there s Blank = s
after file p there s Comment = s
after file p there s (Header end) = after_header s (record { from = p + 1; len = end - 1 })
after file p there s (Entry key name value) =
    let x : Part = record { from = p; len = key } in
    pick (there || eqb key name) (after_plain file s x) (after_postfixed file s x)
after file p there s (Bad b) = s

-- ---- the two passes

-- what the first pass says of 2 to 5
abbrev pub scanned : Answer Order → Answer (Unit {0})
scanned (Ok order) = Ok tt
scanned (Err f) = Err f

-- what it says of 6
abbrev pub Settles : Answer Order → List Row → Type 0
Settles (Ok Settled) rs = Ok tt ≡ plain_all rs
Settles (Ok Doubtful) rs = Unit
Settles (Err f) rs = Unit

-- the last key, if there is one, stands in the file
abbrev pub LastThere : List ℕ → State → Type 0
LastThere file s = 0 < s.last.len → has (read_rows file) (Key (bytes file s.group) (bytes file s.last)) ≡ true

-- 6 of a row that starts at p: the plain key of a postfixed key stands in its group
abbrev pub plain_at : List ℕ → ℕ → State → ℕ → Line → Answer (Unit {0})
plain_at file p s n Blank = Ok tt
plain_at file p s n Comment = Ok tt
plain_at file p s n (Header end) = Ok tt
plain_at file p s n (Entry key name value) =
    let x : Part = record { from = p; len = key } in
    need (eqb key name || has (read_rows file) (Key (bytes file s.group) (bytes file x))) (NoPlainKey n)
plain_at file p s n (Bad b) = Ok tt
