-- The place of a bad line's byte is right: after it no ending makes a good line, and before it some ending does. Assumes nothing.
use Rattle.std.specs.Prelude.{ℕ, ◌+◌, ◌≤◌, ◌<◌, ◌≡◌, Bool, true, false, not, ◌&&◌, List, ◌++◌, length, take, eqb, ltb}
use Prim.Native.Char.{code}
use Rattle.base.specs.Lists.{all}
use Rattle.line.specs.Line.{read_line, is_bad}
use Rattle.line.specs.declared.Line.TheVariants.{Bad}

-- a byte of a line: any but LF
abbrev pub line_byte : ℕ → Bool
line_byte b = ltb b 256 && not (eqb b (code "\n"))

-- the bad byte stands in the line; the place is the line's length where the line is only unfinished
abbrev pub BadWithin : Type 0
BadWithin = (s : List ℕ) (n : ℕ) → read_line s ≡ Bad n → n ≤ length s

-- whatever follows the bad byte, the line is bad
abbrev pub BadByte : Type 0
BadByte = (s : List ℕ) (n : ℕ) → read_line s ≡ Bad n → n < length s → (t : List ℕ) → is_bad (read_line (take (n + 1) s ++ t)) ≡ true

-- an ending that makes a good line of a front
pub record Mended (front : List ℕ) : Type 0 where
  pub ending : List ℕ
  pub bytes : all line_byte ending ≡ true
  pub good : is_bad (read_line (front ++ ending)) ≡ false

-- what stands before the bad byte can still become a good line
abbrev pub GoodBefore : Type 0
GoodBefore = (s : List ℕ) (n : ℕ) → read_line s ≡ Bad n → Mended (take n s)
