-- The number and the place of each refusal (01, "What the caller is told"), and the byte of a bad line (02, A6). Assumes nothing.
use Rattle.std.specs.Prelude.{ℕ}
use Rattle.fault.specs.declared.Fault.{Fault}
use Rattle.fault.specs.declared.Fault.TheVariants.{TooLong, BadLine, FirstGroup, RepeatedGroup, RepeatedKey, NoPlainKey, BadArgument, Missing, BadEscape, UnfitText, NoRoom, NothingLeft, JournalFull, Damaged, BadExec, BadCode, PostfixesRemain, Incomplete}

-- the table's number
abbrev pub number_of : Fault → ℕ
number_of TooLong = 1
number_of (BadLine line byte) = 2
number_of (FirstGroup line) = 3
number_of (RepeatedGroup line) = 4
number_of (RepeatedKey line) = 5
number_of (NoPlainKey line) = 6
number_of BadArgument = 7
number_of Missing = 8
number_of (BadEscape at) = 9
number_of UnfitText = 10
number_of NoRoom = 11
number_of NothingLeft = 12
number_of JournalFull = 13
number_of Damaged = 14
number_of (BadExec at) = 15
number_of (BadCode at) = 16
number_of PostfixesRemain = 17
number_of (Incomplete line) = 18

-- the table's place: a line from 1, an offset from 0, or 0 where none is named
abbrev pub place_of : Fault → ℕ
place_of TooLong = 0
place_of (BadLine line byte) = line
place_of (FirstGroup line) = line
place_of (RepeatedGroup line) = line
place_of (RepeatedKey line) = line
place_of (NoPlainKey line) = line
place_of BadArgument = 0
place_of Missing = 0
place_of (BadEscape at) = at
place_of UnfitText = 0
place_of NoRoom = 0
place_of NothingLeft = 0
place_of JournalFull = 0
place_of Damaged = 0
place_of (BadExec at) = at
place_of (BadCode at) = at
place_of PostfixesRemain = 0
place_of (Incomplete line) = line

-- the byte in a bad line, from 0; 0 for every other refusal
abbrev pub byte_of : Fault → ℕ
byte_of TooLong = 0
byte_of (BadLine line byte) = byte
byte_of (FirstGroup line) = 0
byte_of (RepeatedGroup line) = 0
byte_of (RepeatedKey line) = 0
byte_of (NoPlainKey line) = 0
byte_of BadArgument = 0
byte_of Missing = 0
byte_of (BadEscape at) = 0
byte_of UnfitText = 0
byte_of NoRoom = 0
byte_of NothingLeft = 0
byte_of JournalFull = 0
byte_of Damaged = 0
byte_of (BadExec at) = 0
byte_of (BadCode at) = 0
byte_of PostfixesRemain = 0
byte_of (Incomplete line) = 0
