-- A key, at once perhaps with a postfix `[LOCALE]` (01, "Lines of a file"). Assumes nothing.
use Rattle.std.specs.Prelude.{ℕ, ◌+◌, List, drop, get_or, eqb, Result, Ok, Err}
use Prim.Native.Char.{code}
use Rattle.base.specs.Choice.{pick, maybe}
use Rattle.base.specs.Lists.{span}
use Rattle.characters.specs.Class.{key_byte}
use Rattle.line.specs.Locale.{parts, locale_end, empty_part}
use Rattle.line.specs.declared.Parts.{Parts}
use Rattle.line.specs.declared.Name.{Name}

-- the byte at a place, 0 past the end
abbrev pub byte_at : List ℕ → ℕ → ℕ
byte_at s n = get_or s n 0

-- a key and its postfix, by where each ends
abbrev pub name_of : ℕ → ℕ → Name
name_of key name = record { key = key; name = name }

-- a postfix from the place on where its `[` stands, after a key
unfoldable pub postfix_at : List ℕ → ℕ → Result Name ℕ
postfix_at s key =
    let p : Parts = parts (drop (key + 1) s) in
    let e : ℕ = key + 1 + locale_end p in
    maybe (empty_part p) (pick (eqb (byte_at s e) (code "]")) (Ok (name_of key (e + 1))) (Err e)) (λ n. Err (key + 1 + n))

-- a key of one byte or more, and at once, perhaps, a postfix
unfoldable pub read_name : List ℕ → Result Name ℕ
read_name s =
    let key : ℕ = span key_byte s in
    pick (eqb key 0) (Err 0) (pick (eqb (byte_at s key) (code "[")) (postfix_at s key) (Ok (name_of key key)))
