-- What the inner functions of this crate answer, by the definitions of text. Assumes nothing.
use Rattle.std.specs.Prelude.{ℕ, ◌+◌, ◌-◌, Bool, true, false, List, [], ◌∷◌, length, eqb, ltb, leb, Option, Some, None, Ok, Err}
use Prim.Native.Char.{code}
use Rattle.base.specs.Choice.{pick}
use Rattle.fault.specs.Answer.{Answer}
use Rattle.characters.specs.Bare.{bare_length}
use Rattle.record.specs.Record.{head_length}
use Rattle.text.specs.Escape.{escape}
use Rattle.text.specs.declared.Escapes.{Escapes}
use Rattle.text.specs.declared.Decoded.{Decoded}

-- the byte that an escape stands for, with the two raw bytes it takes
abbrev pub pair_of : Option ℕ → Option Decoded
pair_of None = None
pair_of (Some x) = Some (record { byte = x; width = 2 })

-- the same of the byte after a backslash
unfoldable pub decoded_after : Escapes → List ℕ → Option Decoded
decoded_after k [] = None
decoded_after k (c ∷ bs) = pair_of (escape k c)

-- the first byte of raw bytes' text, and how many raw bytes it takes
unfoldable pub decoded_of : Escapes → List ℕ → Option Decoded
decoded_of k [] = None
decoded_of k (b ∷ bs) = pick (eqb b (code "\\")) (decoded_after k bs) (Some (record { byte = b; width = 1 }))

-- the text, where it is given
abbrev pub text_of : Answer (List ℕ) → List ℕ
text_of (Ok t) = t
text_of (Err f) = []

-- the elements, where they are given
abbrev pub elements_in : Answer (List (List ℕ)) → List (List ℕ)
elements_in (Ok es) = es
elements_in (Err f) = []

-- the room left after n bytes; none where it is too short
unfoldable pub spend : Option ℕ → ℕ → Option ℕ
spend (Some room) n = pick (leb n room) (Some (room - n)) None
spend None n = None

-- the room left after a record whose body has n bytes, if its length has 4
unfoldable pub spend_record : Option ℕ → ℕ → Option ℕ
spend_record room n = pick (ltb (head_length + n) 0x100000000) (spend room (head_length + n)) None

-- the room left after the records of some bodies
unfoldable pub spend_all : Option ℕ → List (List ℕ) → Option ℕ
spend_all room [] = room
spend_all room (e ∷ es) = spend_all (spend_record room (length e)) es

-- how many raw bytes the first element has; the flag: a backslash took the first byte
abbrev pub element_length : List ℕ → Bool → ℕ
element_length s taken = bare_length (code ";") s taken

-- the letter that stands after a backslash for a byte of text, unless the byte stands for itself
unfoldable pub letter : ℕ → Option ℕ
letter b =
    pick (eqb b (code "\\")) (Some (code "\\"))
    (pick (eqb b (code "\n")) (Some (code "n"))
    (pick (eqb b (code "\t")) (Some (code "t"))
    (pick (eqb b (code "\r")) (Some (code "r")) None)))

-- the same, where the first byte may be a space
abbrev pub letter_of : Bool → ℕ → Option ℕ
letter_of true b = pick (eqb b (code " ")) (Some (code "s")) (letter b)
letter_of false b = letter b
