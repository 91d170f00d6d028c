-- What the inner functions of this crate answer, by the definitions of UTF-8. Assumes nothing.
use Rattle.std.specs.Prelude.{ℕ, zero, suc, ◌+◌, List, length, get_or, ltb, Option, Some, None, Result, Ok, Err}
use Rattle.base.specs.Choice.{pick}
use Rattle.characters.specs.Class.{within}
use Rattle.characters.specs.Utf8.{lead}
use Rattle.characters.specs.declared.Due.{Due}
use Rattle.characters.specs.declared.Due.TheVariants as due

-- a tail byte at a place: none, one that does not fit, or what comes after it
abbrev pub tail_at : List ℕ → ℕ → ℕ → ℕ → Result ℕ ℕ → Result ℕ ℕ
tail_at s i low high after = pick (ltb i (length s)) (pick (within low high (get_or s i 0)) after (Err i)) (Err i)

-- the rest of a character from a place on: a byte from low to high, and so many more after it
unfoldable pub rest_at : List ℕ → ℕ → ℕ → ℕ → ℕ → Result ℕ ℕ
rest_at s i zero low high = tail_at s i low high (Ok (i + 1))
rest_at s i (suc more) low high = let after : Result ℕ ℕ = rest_at s (i + 1) more 0x80 0xbf in tail_at s i low high after

-- a character by what its first byte asks for
abbrev pub begun_at : List ℕ → ℕ → Option Due → Result ℕ ℕ
begun_at s i None = Err i
begun_at s i (Some due.Start) = Ok (i + 1)
begun_at s i (Some (due.Tail more low high)) = rest_at s (i + 1) more low high

-- the character over 0x7F at a place
unfoldable pub character_at : List ℕ → ℕ → Result ℕ ℕ
character_at s i = begun_at s i (lead (get_or s i 0))
