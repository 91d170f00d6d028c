-- What the functions of this crate answer, by the definitions of completeness. Assumes nothing.
use Rattle.std.specs.Prelude.{ℕ, Bool, false, not, ◌&&◌, List, take, drop}
use Rattle.base.specs.Lists.{ascii, same, any}
use Rattle.line.specs.declared.Line.{Line}
use Rattle.line.specs.declared.Line.TheVariants.{Blank, Comment, Header, Entry, Bad}
use Rattle.rows.specs.Rows.{Row}
use Rattle.rows.specs.Title.{has}
use Rattle.complete.specs.Complete.{main, exec_where_due, url_where_due, boolean_keys, is_boolean}

-- Name is there, and Exec and URL where they are due
unfoldable pub keys_there : List Row → Bool
keys_there rs = has rs (main (ascii "Name")) && exec_where_due rs && url_where_due rs

-- a boolean key's name
unfoldable pub boolean_key : List ℕ → Bool
boolean_key name = any (λ k. same k name) boolean_keys

-- the line of a boolean key with another value
abbrev pub wrong_in : List ℕ → Line → Bool
wrong_in line Blank = false
wrong_in line Comment = false
wrong_in line (Header e) = false
wrong_in line (Entry key name value) = boolean_key (take name line) && not (is_boolean (drop value line))
wrong_in line (Bad n) = false
