-- The most bytes that a call takes, by 01. Assumes nothing.
use Rattle.std.specs.Prelude.{ℕ}

-- of a file ("Lines of a file")
abbrev pub file_most : ℕ
file_most = 32768

-- of a journal, those used ("What the caller is told", 13 and 14)
abbrev pub journal_most : ℕ
journal_most = 65536

-- of a list of records ("Building a command", the file list; 02, A4)
abbrev pub list_most : ℕ
list_most = 65536

-- of a location ("Building a command")
abbrev pub location_most : ℕ
location_most = 4096
