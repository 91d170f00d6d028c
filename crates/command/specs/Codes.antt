-- Field codes, and which bytes stand for themselves in an argument (01, "Building a command"). Assumes nothing.
use Rattle.std.specs.Prelude.{ℕ, Bool, not, ◌&&◌, ◌||◌, List, eqb, leb}
use Prim.Native.Char.{code}
use Rattle.base.specs.Choice.{pick}
use Rattle.base.specs.Lists.{ascii, any}
use Rattle.characters.specs.Class.{space_byte}
use Rattle.command.specs.declared.Piece.{Piece}
use Rattle.command.specs.declared.Piece.TheVariants as piece

-- the byte is one of these
abbrev pub one_of : List ℕ → ℕ → Bool
one_of bytes b = any (eqb b) bytes

-- ---- bytes

-- reserved: these stand in no unquoted argument
unfoldable pub reserved : ℕ → Bool
reserved b = one_of (ascii "\t\n\"'\\><~|&;$*?#()`") b

-- a byte of an unquoted argument: a space parts arguments
unfoldable pub unquoted_byte : ℕ → Bool
unquoted_byte b = leb b 0x7e && not (space_byte b) && not (reserved b)

-- the bytes that in quotes need a backslash before them
unfoldable pub needs_backslash : ℕ → Bool
needs_backslash b = one_of (ascii "\"`$\\") b

-- a byte that stands for itself in quotes
unfoldable pub quoted_byte : ℕ → Bool
quoted_byte b = leb b 0x7e && not (needs_backslash b)

-- a byte that stands for itself; the program holds no `=`
unfoldable pub stands_in : Bool → Bool → ℕ → Bool
stands_in quoted program b = not (program && eqb b (code "=")) && pick quoted (quoted_byte b) (unquoted_byte b)

-- ---- codes

-- one list item a run
abbrev pub item_code : ℕ → Bool
item_code c = one_of (ascii "fu") c

-- each list item its own argument: only as a whole argument
abbrev pub files_code : ℕ → Bool
files_code c = one_of (ascii "FU") c

-- these vanish
abbrev pub vanished_code : ℕ → Bool
vanished_code c = one_of (ascii "dDnNvm") c

-- what `%` with this byte stands for inside an argument
unfoldable pub code_piece : ℕ → Piece
code_piece c =
    pick (eqb c (code "%")) (piece.Byte c)
    (pick (item_code c) piece.Item
    (pick (eqb c (code "c")) piece.Name (pick (eqb c (code "k")) piece.Location piece.Vanished)))

-- `%` with this byte may stand inside an argument: in quotes and in the program only `%%`; f and u only where no code that takes files stood before
unfoldable pub code_in : Bool → Bool → Bool → ℕ → Bool
code_in quoted program taken c =
    eqb c (code "%") || (not quoted && not program && pick (item_code c) (not taken) (one_of (ascii "ck") c || vanished_code c))
