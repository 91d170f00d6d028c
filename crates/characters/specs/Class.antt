-- Which bytes may stand where (01, "Lines of a file" and "Language, escapes, lists"). Assumes nothing.
use Rattle.std.specs.Prelude.{ℕ, Bool, not, ◌&&◌, ◌||◌, eqb, leb}
use Prim.Native.Char.{code}
use Rattle.characters.specs.declared.Class.{Class}
use Rattle.characters.specs.declared.Class.TheVariants as class
use Rattle.characters.specs.declared.Content.{Content}
use Rattle.characters.specs.declared.Content.TheVariants as content

-- from low to high, both included
abbrev pub within : ℕ → ℕ → ℕ → Bool
within low high b = leb low b && leb b high

-- a byte of a key: A-Z a-z 0-9 and -
unfoldable pub key_byte : ℕ → Bool
key_byte b = within (code "A") (code "Z") b || within (code "a") (code "z") b || within (code "0") (code "9") b || eqb b (code "-")

-- a byte of a group's name: 0x20 to 0x7E without [ and ]
unfoldable pub group_byte : ℕ → Bool
group_byte b = within 0x20 0x7e b && not (eqb b (code "[")) && not (eqb b (code "]"))

-- the byte that may stand around `=`
abbrev pub space_byte : ℕ → Bool
space_byte b = eqb b (code " ")

-- a byte of a blank line
unfoldable pub blank_byte : ℕ → Bool
blank_byte b = eqb b (code " ") || eqb b (code "\t")

-- an ASCII byte of a value: none of 0x00 to 0x1F and 0x7F
unfoldable pub value_byte : ℕ → Bool
value_byte b = within 0x20 0x7e b

-- an ASCII byte of text to set: LF, tab and CR too
unfoldable pub text_byte : ℕ → Bool
text_byte b = value_byte b || eqb b (code "\n") || eqb b (code "\t") || eqb b (code "\r")

-- the bytes of a class; those of a locale's part are a key's
abbrev pub member : Class → ℕ → Bool
member class.Key b = key_byte b
member class.Group b = group_byte b
member class.Space b = space_byte b
member class.Blank b = blank_byte b

-- the ASCII bytes of a content
abbrev pub content_byte : Content → ℕ → Bool
content_byte content.Value b = value_byte b
content_byte content.Text b = text_byte b
