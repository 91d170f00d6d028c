-- What a line is: blank, comment, header, entry or bad (01, "Lines of a file"). Assumes nothing.
use Rattle.std.specs.Prelude.{ℕ, ◌+◌, Bool, true, false, List, length, drop, eqb, Result, Ok, Err}
use Prim.Native.Char.{code}
use Rattle.base.specs.Choice.{pick, maybe}
use Rattle.base.specs.Lists.{span}
use Rattle.characters.specs.Class.{group_byte, space_byte, blank_byte, value_byte}
use Rattle.characters.specs.Utf8.{text_fault}
use Rattle.characters.specs.declared.Due.TheVariants.{Start}
use Rattle.line.specs.Name.{byte_at, read_name}
use Rattle.line.specs.declared.Name.{Name}
use Rattle.line.specs.declared.Line.{Line}
use Rattle.line.specs.declared.Line.TheVariants.{Blank, Comment, Header, Entry, Bad}

-- after the name: spaces, `=`, all spaces that follow, and the value to the end
unfoldable pub entry_after : List ℕ → ℕ → ℕ → Line
entry_after s key name =
    let sign : ℕ = name + span space_byte (drop name s) in
    let value : ℕ = sign + 1 + span space_byte (drop (sign + 1) s) in
    pick (eqb (byte_at s sign) (code "="))
    (maybe (text_fault value_byte Start (drop value s)) (Entry key name value) (λ n. Bad (value + n)))
    (Bad sign)

-- the entry after a name, if there is one
abbrev pub entry_of : List ℕ → Result Name ℕ → Line
entry_of s (Ok n) = entry_after s n.key n.name
entry_of s (Err n) = Bad n

-- an entry, or the byte that makes it none
unfoldable pub read_entry : List ℕ → Line
read_entry s = entry_of s (read_name s)

-- `[`, a name of one byte or more, `]`, and nothing after
unfoldable pub read_header : List ℕ → Line
read_header s =
    let e : ℕ = 1 + span group_byte (drop 1 s) in
    pick (eqb e 1) (Bad 1)
    (pick (eqb (byte_at s e) (code "]")) (pick (eqb (e + 1) (length s)) (Header e) (Bad (e + 1))) (Bad e))

-- blank, comment, header, entry or bad, tried in this order
unfoldable pub read_line : List ℕ → Line
read_line s =
    let blank : ℕ = span blank_byte s in
    pick (eqb blank (length s)) Blank
    (pick (eqb (byte_at s 0) (code "#")) Comment
    (pick (eqb (byte_at s 0) (code "[")) (read_header s)
    (pick (eqb blank 0) (read_entry s) (Bad blank))))

-- a bad line
abbrev pub is_bad : Line → Bool
is_bad Blank = false
is_bad Comment = false
is_bad (Header end) = false
is_bad (Entry key name value) = false
is_bad (Bad n) = true
