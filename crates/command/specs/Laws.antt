-- What is promised of every command that is read: one code at most takes files (01, "Building a command"). Assumes nothing.
use Rattle.std.specs.Prelude.{ℕ, ◌+◌, ◌≤◌, ◌≡◌, List, [], ◌∷◌, Ok}
use Rattle.base.specs.Choice.{pick}
use Rattle.command.specs.declared.Piece.{Piece}
use Rattle.command.specs.Command.{Argument, Files, Icon, Text, is_item, read_command}

-- how many item codes stand among pieces
abbrev pub item_codes : List Piece → ℕ
item_codes [] = 0
item_codes (p ∷ ps) = pick (is_item p) 1 0 + item_codes ps

-- how many codes that take files stand in an argument
abbrev pub file_codes : Argument → ℕ
file_codes Files = 1
file_codes Icon = 0
file_codes (Text quoted ps) = item_codes ps

-- and in some arguments
abbrev pub all_file_codes : List Argument → ℕ
all_file_codes [] = 0
all_file_codes (a ∷ args) = file_codes a + all_file_codes args

-- a command that is read has one at most
abbrev pub OneTakesFiles : Type 0
OneTakesFiles = (exec : List ℕ) (args : List Argument) → read_command exec ≡ Ok args → all_file_codes args ≤ 1
