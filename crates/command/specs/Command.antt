-- A command: the arguments of an unescaped Exec, and the lowest place where it is badly written (15) or has a wrong field code (16)
-- (01, "Building a command"). Places count in the unescaped value. Assumes nothing.
use Rattle.std.specs.Prelude.{ℕ, zero, suc, ◌+◌, ◌-◌, Bool, true, false, ◌&&◌, ◌||◌, List, [], ◌∷◌, map, length, take, drop, eqb, leb, Option, Some, None, Ok}
use Prim.Native.Char.{code}
use Rattle.base.specs.Choice.{pick, maybe}
use Rattle.base.specs.Lists.{any}
use Rattle.fault.specs.declared.Fault.{Fault}
use Rattle.fault.specs.declared.Fault.TheVariants.{BadExec, BadCode}
use Rattle.fault.specs.Answer.{Answer, ◌>>=◌, unless}
use Rattle.line.specs.Name.{byte_at}
use Rattle.command.specs.Words.{Word, words, opens, inside_length}
use Rattle.command.specs.Codes.{files_code, needs_backslash, stands_in, code_piece, code_in}
use Rattle.command.specs.declared.Piece.{Piece}
use Rattle.command.specs.declared.Piece.TheVariants as piece
use Rattle.command.specs.declared.Form.{Form}
use Rattle.command.specs.declared.Form.TheVariants as form

-- ---- what stands in a word that is well written

-- `%` takes the next byte with it, and so does a backslash in quotes
abbrev pub takes_next : Bool → ℕ → Bool
takes_next quoted b = eqb b (code "%") || (quoted && eqb b (code "\\"))

-- the piece that begins with these two bytes; the second is 0 at the end
unfoldable pub piece_of : Bool → ℕ → ℕ → Piece
piece_of quoted b c = pick (eqb b (code "%")) (code_piece c) (piece.Byte (pick (takes_next quoted b) c b))

-- how many bytes it takes
unfoldable pub width_of : Bool → ℕ → ℕ
width_of quoted b = pick (takes_next quoted b) 2 1

-- the pieces of bytes, after so many that belong to a piece found before
unfoldable pub pieces_after : Bool → List ℕ → ℕ → List Piece
pieces_after quoted [] n = []
pieces_after quoted (b ∷ bs) (suc n) = pieces_after quoted bs n
pieces_after quoted (b ∷ bs) zero = piece_of quoted b (byte_at bs 0) ∷ pieces_after quoted bs (width_of quoted b - 1)

-- the pieces of bytes that stand in quotes or in none
abbrev pub pieces_of : Bool → List ℕ → List Piece
pieces_of quoted s = pieces_after quoted s 0

-- an argument: F or U, i, or a text, quoted or not, with its pieces
pub data Argument : Type 0 where
  Files : Argument
  Icon : Argument
  Text : Bool → List Piece → Argument

-- `%` and one byte more
abbrev pub pair : List ℕ → Bool
pair s = eqb (length s) 2 && eqb (byte_at s 0) (code "%")

-- which kind of argument a word is: F, U and i stand only as a whole
unfoldable pub form_of : List ℕ → Form
form_of s =
    pick (opens s) form.Quoted
    (pick (pair s && files_code (byte_at s 1)) form.Files (pick (pair s && eqb (byte_at s 1) (code "i")) form.Icon form.Bare))

-- the bytes in a word's quotes
abbrev pub inside : List ℕ → List ℕ
inside s = take (inside_length s) (drop 1 s)

-- the argument of a word by its form
abbrev pub argument_as : Form → List ℕ → Argument
argument_as form.Quoted s = Text true (pieces_of true (inside s))
argument_as form.Files s = Files
argument_as form.Icon s = Icon
argument_as form.Bare s = Text false (pieces_of false s)

-- the argument of a word
unfoldable pub argument_of : Word → Argument
argument_of w = argument_as (form_of w.bytes) w.bytes

-- ---- faults, in the order of their places

-- the fault of the piece that begins with these two bytes; the flags: in quotes; of the program; a code that takes files stood before
unfoldable pub piece_fault : Bool → Bool → Bool → ℕ → ℕ → ℕ → Option Fault
piece_fault quoted program taken b c at =
    pick (eqb b (code "%")) (pick (code_in quoted program taken c) None (Some (BadCode at)))
    (pick (pick (takes_next quoted b) (needs_backslash c) (stands_in quoted program b)) None (Some (BadExec at)))

-- the piece is an item code
abbrev pub is_item : Piece → Bool
is_item (piece.Byte b) = false
is_item piece.Item = true
is_item piece.Name = false
is_item piece.Location = false
is_item piece.Vanished = false

-- the first fault among the pieces from a place on, after so many bytes that belong to a piece found before
unfoldable pub pieces_fault : Bool → Bool → Bool → List ℕ → ℕ → ℕ → Option Fault
pieces_fault quoted program taken [] n at = None
pieces_fault quoted program taken (b ∷ bs) (suc n) at = pieces_fault quoted program taken bs n (at + 1)
pieces_fault quoted program taken (b ∷ bs) zero at =
    let c : ℕ = byte_at bs 0 in
    let later : Option Fault = pieces_fault quoted program (is_item (piece_of quoted b c) || taken) bs (width_of quoted b - 1) (at + 1) in
    maybe (piece_fault quoted program taken b c at) later Some

-- a word of so many bytes, of them so many in quotes: it is not closed, or it is an empty program
abbrev pub unfit : Bool → ℕ → ℕ → Bool
unfit program size n = leb size (n + 1) || (program && eqb n 0)

-- a quoted word: an unclosed quote and an empty program have their place at the opening quote; behind the closing one stands nothing
unfoldable pub quoted_fault : Bool → Bool → Word → Option Fault
quoted_fault program taken w =
    let n : ℕ = inside_length w.bytes in
    let behind : Option Fault = pick (eqb (length w.bytes) (n + 2)) None (Some (BadExec (w.start + n + 2))) in
    pick (unfit program (length w.bytes) n) (Some (BadExec w.start))
    (maybe (pieces_fault true program taken (inside w.bytes) 0 (w.start + 1)) behind Some)

-- a word's first fault, by its form: the program is no code, and one code at most takes files
abbrev pub fault_as : Form → Bool → Bool → Word → Option Fault
fault_as form.Quoted program taken w = quoted_fault program taken w
fault_as form.Files program taken w = pick (program || taken) (Some (BadCode w.start)) None
fault_as form.Icon program taken w = pick program (Some (BadCode w.start)) None
fault_as form.Bare program taken w = pieces_fault false program taken w.bytes 0 w.start

-- a word's first fault
unfoldable pub word_fault : Bool → Bool → Word → Option Fault
word_fault program taken w = fault_as (form_of w.bytes) program taken w

-- the argument has a piece of this kind
abbrev pub has_piece : (Piece → Bool) → Argument → Bool
has_piece p Files = false
has_piece p Icon = false
has_piece p (Text quoted ps) = any p ps

-- the argument takes files
abbrev pub takes_files : Argument → Bool
takes_files Files = true
takes_files Icon = false
takes_files (Text quoted ps) = any is_item ps

-- the words' first fault; the program must be there
unfoldable pub words_fault : Bool → Bool → List Word → Option Fault
words_fault true taken [] = Some (BadExec 0)
words_fault false taken [] = None
words_fault program taken (w ∷ ws) =
    let later : Option Fault = words_fault false (takes_files (argument_of w) || taken) ws in
    maybe (word_fault program taken w) later Some

-- ---- the command

-- the piece is the Name
abbrev pub is_name : Piece → Bool
is_name (piece.Byte b) = false
is_name piece.Item = false
is_name piece.Name = true
is_name piece.Location = false
is_name piece.Vanished = false

-- the argument is the Icon
abbrev pub is_icon : Argument → Bool
is_icon Files = false
is_icon Icon = true
is_icon (Text quoted ps) = false

-- the arguments of an unescaped Exec that is well written
abbrev pub arguments_in : List ℕ → List Argument
arguments_in exec = map argument_of (words exec)

-- the arguments of an unescaped Exec, or the fault of the lowest place
unfoldable pub read_command : List ℕ → Answer (List Argument)
read_command exec = do
  _ ← unless (words_fault true false (words exec))
  Ok (arguments_in exec)
