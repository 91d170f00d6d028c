-- A run: what the arguments of a command become (01, "Building a command"). Assumes nothing.
use Rattle.std.specs.Prelude.{ℕ, zero, suc, Bool, true, false, not, ◌&&◌, List, [], ◌∷◌, ◌++◌, map, length, eqb}
use Rattle.base.specs.Choice.{pick}
use Rattle.base.specs.Lists.{ascii, any, all, joined}
use Rattle.command.specs.Command.{Argument, Files, Icon, Text, has_piece, is_item}
use Rattle.command.specs.declared.Piece.{Piece}
use Rattle.command.specs.declared.Piece.TheVariants as piece

-- what codes put in inside an argument: the item of f and u (empty: none), Name, location
pub record Put : Type 0 where
  pub item : List ℕ
  pub name : List ℕ
  pub location : List ℕ

-- what the codes stand for in a run: inside an argument; all items; the Icon (empty: none)
pub record Run : Type 0 where
  pub put : Put
  pub items : List (List ℕ)
  pub icon : List ℕ

-- a run of these
abbrev pub run_of : Put → List (List ℕ) → List ℕ → Run
run_of put items icon = record { put = put; items = items; icon = icon }

-- what a piece stands for; what is put in is not searched for codes
unfoldable pub piece_bytes : Put → Piece → List ℕ
piece_bytes x (piece.Byte b) = b ∷ []
piece_bytes x piece.Item = x.item
piece_bytes x piece.Name = x.name
piece_bytes x piece.Location = x.location
piece_bytes x piece.Vanished = []

-- the bytes of an argument's pieces
unfoldable pub pieces_bytes : Put → List Piece → List ℕ
pieces_bytes x ps = joined (map (piece_bytes x) ps)

-- a piece of which nothing is left: a vanished code, or f or u with no item
unfoldable pub leaves_nothing : List ℕ → Piece → Bool
leaves_nothing item (piece.Byte b) = false
leaves_nothing item piece.Item = eqb (length item) 0
leaves_nothing item piece.Name = false
leaves_nothing item piece.Location = false
leaves_nothing item piece.Vanished = true

-- `--icon` and the Icon; nothing if it is missing or empty
unfoldable pub icon_arguments : List ℕ → List (List ℕ)
icon_arguments icon = pick (eqb (length icon) 0) [] (ascii "--icon" ∷ icon ∷ [])

-- what an argument becomes: each item its own; `--icon` and the Icon; itself, or nothing where it is dropped
unfoldable pub expanded : Run → Argument → List (List ℕ)
expanded r Files = r.items
expanded r Icon = icon_arguments r.icon
expanded r (Text quoted ps) = pick (not quoted && all (leaves_nothing r.put.item) ps) [] (pieces_bytes r.put ps ∷ [])

-- what all arguments become
unfoldable pub expanded_all : Run → List Argument → List (List ℕ)
expanded_all r [] = []
expanded_all r (a ∷ args) = expanded r a ++ expanded_all r args

-- how many runs so many items give: one for each where f or u stands, and one at least
abbrev pub runs_of : Bool → ℕ → ℕ
runs_of item zero = 1
runs_of item (suc n) = pick item (suc n) 1

-- the same by the arguments
unfoldable pub runs : List Argument → ℕ → ℕ
runs args n = runs_of (any (has_piece is_item) args) n
