-- Set and remove, each as one edit of a file (01, "Edits and the journal"). Assumes nothing.
use Rattle.std.specs.Prelude.{ℕ, ◌+◌, ◌-◌, Bool, false, not, ◌&&◌, ◌||◌, List, [], ◌++◌, length, Ok}
use Rattle.base.specs.Choice.{pick, maybe}
use Rattle.base.specs.Lists.{ascii, same, any, last}
use Rattle.fault.specs.declared.Fault.TheVariants.{NoPlainKey, BadArgument, Missing, UnfitText, PostfixesRemain}
use Rattle.fault.specs.Answer.{Answer, ◌>>=◌, need, some_or}
use Rattle.text.specs.Escape.{fit_text, raw_text}
use Rattle.line.specs.Form.{group_form, key_form}
use Rattle.rows.specs.Rows.{Row, ended, read_rows, raw_value}
use Rattle.rows.specs.Title.{Title, Nameless, Group, Key, title, find_row, has}
use Rattle.wellformed.specs.Check.{plain_of}
use Rattle.entry.specs.Lookup.{value_ends}
use Rattle.splice.specs.Edit.{Edit}

-- a request of the caller
pub data Request : Type 0 where
  Set : List ℕ → List ℕ → List ℕ → Request  -- group, key with postfix, text
  Remove : List ℕ → List ℕ → Request  -- group, key with postfix

-- the key has no postfix
abbrev pub is_plain : List ℕ → Bool
is_plain key = same (plain_of key) key

-- the row is the group's header or one of its entries
abbrev pub of_group : List ℕ → Title → Bool
of_group group Nameless = false
of_group group (Group g) = same group g
of_group group (Key g k) = same group g

-- the row is an entry of the group whose key is this one with a postfix
abbrev pub postfix_of : List ℕ → List ℕ → Title → Bool
postfix_of group key Nameless = false
postfix_of group key (Group g) = false
postfix_of group key (Key g k) = same group g && same key (plain_of k) && not (is_plain k)

-- entry present: only the value bytes are replaced
abbrev pub replacing : Row → List ℕ → Edit
replacing r value = record { place = (value_ends r).from; old = raw_value r; new = value }

-- an entry as it is inserted
abbrev pub entry_bytes : List ℕ → List ℕ → List ℕ
entry_bytes key value = key ++ ascii "=" ++ value

-- an entry with its LF, after it or before it
abbrev pub with_lf : Bool → List ℕ → List ℕ
with_lf after entry = pick after (entry ++ ascii "\n") (ascii "\n" ++ entry)

-- entry absent: `Key=value` and LF after the row's LF, or, where that isn't there, LF and `Key=value`
unfoldable pub inserting : Row → List ℕ → List ℕ → Edit
inserting r key value = record { place = r.start + length r.bytes; old = []; new = with_lf (ended r.bytes) (entry_bytes key value) }

-- the row goes with its LF; a last row without LF goes with the LF before it
unfoldable pub removing : Row → Edit
removing r =
    pick (ended r.bytes)
    (record { place = r.start; old = r.bytes; new = [] })
    (record { place = r.start - 1; old = ascii "\n" ++ r.bytes; new = [] })

-- a set's edit, or 8 and 6
unfoldable pub set_edit : List Row → List ℕ → List ℕ → List ℕ → Answer Edit
set_edit rs group key text = do
  end ← some_or (last (λ r. of_group group (title r)) rs) Missing
  _ ← need (is_plain key || has rs (Key group (plain_of key))) (NoPlainKey 0)
  Ok (maybe (find_row rs (Key group key)) (inserting end key (raw_text text)) (λ r. replacing r (raw_text text)))

-- a remove's edit, or 8 and 17
unfoldable pub remove_edit : List Row → List ℕ → List ℕ → Answer Edit
remove_edit rs group key = do
  r ← some_or (find_row rs (Key group key)) Missing
  _ ← need (not (any (λ s. postfix_of group key (title s)) rs)) PostfixesRemain
  Ok (removing r)

-- a request's edit of a well-formed file, or the first of 7, 10, 8, 6, 17
unfoldable pub edit_of : List ℕ → Request → Answer Edit
edit_of file (Set group key text) = do
  _ ← need (group_form group && key_form key) BadArgument
  _ ← need (fit_text text) UnfitText
  set_edit (read_rows file) group key text
edit_of file (Remove group key) = do
  _ ← need (group_form group && key_form key) BadArgument
  remove_edit (read_rows file) group key
