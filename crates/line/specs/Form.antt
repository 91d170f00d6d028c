-- The forms of group, key and locale arguments (01, "What the caller is told"; 7 for others). Assumes nothing.
use Rattle.std.specs.Prelude.{ℕ, Bool, false, not, ◌&&◌, ◌||◌, List, length, eqb, Result, Ok, Err}
use Rattle.base.specs.Lists.{all}
use Rattle.characters.specs.Class.{group_byte, key_byte}
use Rattle.line.specs.Locale.{is_locale}
use Rattle.line.specs.Name.{read_name}
use Rattle.line.specs.declared.Name.{Name}

-- a group argument: one byte or more of a group's name
unfoldable pub group_form : List ℕ → Bool
group_form g = not (eqb (length g) 0) && all group_byte g

-- a plain key argument
unfoldable pub plain_form : List ℕ → Bool
plain_form k = not (eqb (length k) 0) && all key_byte k

-- the name is the whole list
abbrev pub names_all : List ℕ → Result Name ℕ → Bool
names_all k (Ok n) = eqb n.name (length k)
names_all k (Err n) = false

-- a key argument, perhaps with a postfix
unfoldable pub key_form : List ℕ → Bool
key_form k = names_all k (read_name k)

-- a locale argument: empty (house), or a locale
unfoldable pub locale_form : List ℕ → Bool
locale_form s = eqb (length s) 0 || is_locale s
