-- Completeness (01, "Lines of a file"): by plain keys of Desktop Entry and raw values. Assumes nothing.
use Rattle.std.specs.Prelude.{ℕ, Bool, false, not, ◌&&◌, ◌||◌, List, [], ◌∷◌, Ok, Err}
use Rattle.base.specs.Choice.{maybe}
use Rattle.base.specs.Lists.{ascii, same, any, first}
use Rattle.fault.specs.declared.Fault.TheVariants.{Incomplete}
use Rattle.fault.specs.Answer.{Answer, ◌>>=◌, need, some_or}
use Rattle.rows.specs.Rows.{Row, raw_value}
use Rattle.rows.specs.Title.{desktop_entry, Title, Key, title, same_title, find_row, has}

-- a plain key of Desktop Entry
abbrev pub main : List ℕ → Title
main key = Key desktop_entry key

-- the key is there with exactly this raw value
unfoldable pub value_is : List Row → List ℕ → List ℕ → Bool
value_is rs key value = maybe (find_row rs (main key)) false (λ r. same (raw_value r) value)

-- one of the three types
unfoldable pub known_type : List ℕ → Bool
known_type v = any (same v) (ascii "Application" ∷ ascii "Link" ∷ ascii "Directory" ∷ [])

-- Exec is there for an application, unless DBusActivatable is `true`
unfoldable pub exec_where_due : List Row → Bool
exec_where_due rs = not (value_is rs (ascii "Type") (ascii "Application")) || has rs (main (ascii "Exec")) || value_is rs (ascii "DBusActivatable") (ascii "true")

-- URL is there for a link
unfoldable pub url_where_due : List Row → Bool
url_where_due rs = not (value_is rs (ascii "Type") (ascii "Link")) || has rs (main (ascii "URL"))

-- the keys that are `true` or `false`
abbrev pub boolean_keys : List (List ℕ)
boolean_keys = ascii "NoDisplay" ∷ ascii "Hidden" ∷ ascii "DBusActivatable" ∷ ascii "Terminal" ∷ ascii "StartupNotify" ∷ []

-- `true` or `false`
unfoldable pub is_boolean : List ℕ → Bool
is_boolean v = any (same v) (ascii "true" ∷ ascii "false" ∷ [])

-- a boolean key with another value
unfoldable pub bad_boolean : Row → Bool
bad_boolean r = any (λ k. same_title (main k) (title r)) boolean_keys && not (is_boolean (raw_value r))

-- a refusal at the first boolean key with another value
unfoldable pub booleans : List Row → Answer (Unit {0})
booleans rs = maybe (first bad_boolean rs) (Ok tt) (λ r. Err (Incomplete r.line))

-- 18, of the rows of a well-formed file: Type, Name, Exec, URL, the booleans by line
unfoldable pub complete_rows : List Row → Answer (Unit {0})
complete_rows rs = do
  type ← some_or (find_row rs (main (ascii "Type"))) (Incomplete 0)
  _ ← need (known_type (raw_value type)) (Incomplete type.line)
  _ ← need (has rs (main (ascii "Name"))) (Incomplete 0)
  _ ← need (exec_where_due rs) (Incomplete 0)
  _ ← need (url_where_due rs) (Incomplete 0)
  booleans rs
