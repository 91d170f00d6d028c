-- The parts of the file that a state holds, and the row that is read in it. Assumes nothing.
use mathlib.Core.Path.{◌≡◌, sym, ap, ◌∙◌}
use Prim.Native.Nat.{ℕ, ◌+◌, ◌-◌, ◌%◌, ◌<◌}
use native.Mathlib.Omega.{arith}
use mathlib.Core.List.{List}
use lib.ListN.{length, take, drop, length-drop}
use lib.Seq.{length-take-le}
use Rattle.base.specs.Lists.{part}
use Rattle.base.proofs.Parts.{drop-part, take_part}
use Rattle.line.specs.Line.{read_line}
use Rattle.line.specs.declared.Line.{Line}
use Rattle.line.specs.declared.Line.TheVariants.{Blank, Comment, Header, Entry, Bad}
use Rattle.line.proofs.Bounds.{LineWithin, line-within}
use Rattle.rows.specs.Find.{line_length}
use Rattle.rows.proofs.Step.{start-le, end-le}
use Rattle.wellformed.specs.declared.Part.{Part}
use Rattle.wellformed.specs.Pass.{bytes, Lies, Reads}

pub bytes-length : (file : List ℕ) (x : Part) → Lies file x → length (bytes file x) ≡ x.len
bytes-length file x h = length-take-le x.len (drop x.from file) (simp length-drop (omega arith))

-- what a line's reading tells lies in the line
pub reads-within : {file : List ℕ} {row : Part} {r : Line} → Reads file row r → LineWithin row.len r
reads-within {file} {row} w = rw w.reading (rw (bytes-length file row w.lies) at (line-within (bytes file row)))

pub line-length : {file l : List ℕ} {row : Part} {r : Line} → Reads file row r → l ≡ bytes file row → length l ≡ row.len
line-length {file} {l} {row} w i = ap length i ∙ bytes-length file row w.lies

-- so does its key
pub key-lies : {file : List ℕ} {row : Part} {key name value : ℕ} → Reads file row (Entry key name value) → Lies file (record { from = row.from; len = key })
key-lies w = let b = reads-within w in omega (arith, w.lies, b.1, b.2, b.3)

-- the group's number after a row
abbrev pub tag_after : ℕ → Line → ℕ
tag_after tag Blank = tag
tag_after tag Comment = tag
tag_after tag (Header end) = tag % 65535 + 1
tag_after tag (Entry key name value) = tag
tag_after tag (Bad b) = tag

module _ (file : List ℕ) {p e : ℕ} (h : p < length file) (q : e ≡ p + line_length (drop p file)) where
  pub reads : {r : Line} → r ≡ read_line (part p e file) → Reads file (record { from = p; len = e - p }) r
  reads x = record { lies = omega (arith, start-le file h q, end-le file h q); reading = x }

  pub name-lies : {end : ℕ} → Header end ≡ read_line (part p e file) → Lies file (record { from = p + 1; len = end - 1 })
  name-lies x = let w = reads-within (reads x) in omega (arith, w.0, w.1, end-le file h q)

  pub name-bytes : {end : ℕ} → Header end ≡ read_line (part p e file) → bytes file (record { from = p + 1; len = end - 1 }) ≡ part 1 end (part p e file)
  name-bytes {end} x =
      let w = reads-within (reads x) in
      sym (ap (take (end - 1)) (drop-part 1 p e file) ∙ take_part (end - 1) (p + 1) e file (omega (arith, w.0, w.1)))

  pub key-bytes : {key name value : ℕ} → Entry key name value ≡ read_line (part p e file) → bytes file (record { from = p; len = key }) ≡ take key (part p e file)
  key-bytes {key} x =
      let w = reads-within (reads x) in
      sym (take_part key p e file (omega (arith, w.0, w.1, w.2, w.3, start-le file h q)))
