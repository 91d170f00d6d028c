-- What the inner functions of this crate answer, by the definitions of a command. Assumes nothing.
use Rattle.std.specs.Prelude.{true, false, List, [], ◌∷◌, Option, Ok, Err}
use Rattle.base.specs.Choice.{maybe}
use Rattle.fault.specs.declared.Fault.{Fault}
use Rattle.fault.specs.Answer.{Answer}
use Rattle.base.specs.Lists.{any}
use Rattle.command.specs.Command.{Argument, Files, Icon, Text, takes_files, has_piece, is_item, is_name, is_icon}
use Rattle.command.specs.declared.Piece.{Piece}
use Rattle.command.specs.declared.Piece.TheVariants as piece
use Rattle.command.specs.declared.Seen.{Seen}

-- which codes stand, with one piece more
abbrev pub see_piece : Seen → Piece → Seen
see_piece s (piece.Byte b) = s
see_piece s piece.Item = record { taken = true; item = true; name = s.name; icon = s.icon }
see_piece s piece.Name = record { taken = s.taken; item = s.item; name = true; icon = s.icon }
see_piece s piece.Location = s
see_piece s piece.Vanished = s

-- with some pieces more
unfoldable pub see_pieces : Seen → List Piece → Seen
see_pieces s [] = s
see_pieces s (p ∷ ps) = see_pieces (see_piece s p) ps

-- with one argument more
abbrev pub see_argument : Seen → Argument → Seen
see_argument s Files = record { taken = true; item = s.item; name = s.name; icon = s.icon }
see_argument s Icon = record { taken = s.taken; item = s.item; name = s.name; icon = true }
see_argument s (Text quoted ps) = see_pieces s ps

-- with some arguments more
unfoldable pub see_arguments : Seen → List Argument → Seen
see_arguments s [] = s
see_arguments s (a ∷ more) = see_arguments (see_argument s a) more

-- a fault, or which codes then stand
abbrev pub unless_fault : Option Fault → Seen → Answer Seen
unless_fault o s = maybe o (Ok s) Err

-- nothing seen yet
abbrev pub unseen : Seen
unseen = record { taken = false; item = false; name = false; icon = false }

-- which codes stand in some arguments
unfoldable pub codes_in : List Argument → Seen
codes_in args = record { taken = any takes_files args; item = any (has_piece is_item) args; name = any (has_piece is_name) args; icon = any is_icon args }
