-- Value lists (01, "Language, escapes, lists"). Assumes nothing.
use Rattle.std.specs.Prelude.{ℕ, ◌+◌, Bool, true, false, List, [], ◌∷◌, length, eqb, ltb, Ok}
use Prim.Native.Char.{code}
use Rattle.base.specs.Choice.{pick}
use Rattle.base.specs.Lists.{all, before}
use Rattle.fault.specs.declared.Fault.TheVariants.{NoRoom}
use Rattle.fault.specs.Answer.{Answer, ◌>>=◌, need}
use Rattle.record.specs.Record.{record_length, list_of}
use Rattle.text.specs.Escape.{text_from}
use Rattle.text.specs.declared.Escapes.TheVariants as escapes

-- The raw elements: a backslash takes the next byte with it, a `;` outside such a pair ends an element, and bytes left at the end are one
-- more. The flag: a backslash took the first byte.
unfoldable pub raw_elements : List ℕ → Bool → List (List ℕ)
raw_elements [] taken = []
raw_elements (b ∷ bs) true = before b (raw_elements bs false)
raw_elements (b ∷ bs) false =
    let ended : List (List ℕ) = [] ∷ raw_elements bs false in
    let more : List (List ℕ) = before b (raw_elements bs (eqb b (code "\\"))) in
    pick (eqb b (code ";")) ended more

-- each raw element read as text; the place of 9 counts in the whole value, where a `;` follows each element
unfoldable pub each_read : List (List ℕ) → ℕ → Answer (List (List ℕ))
each_read [] at = Ok []
each_read (e ∷ es) at = do
  t ← text_from escapes.List e false at
  ts ← each_read es (at + length e + 1)
  Ok (t ∷ ts)

-- the elements of a raw value, or 9
unfoldable pub elements_of : List ℕ → Answer (List (List ℕ))
elements_of raw = each_read (raw_elements raw false) 0

-- a record with this body has a length of 4 bytes
abbrev pub fits_record : List ℕ → Bool
fits_record body = ltb (record_length body) 0x100000000

-- the elements as records of kind 2; no output has room for an element that no record holds
unfoldable pub read_elements : List ℕ → Answer (List ℕ)
read_elements raw = do
  es ← elements_of raw
  _ ← need (all fits_record es) NoRoom
  Ok (list_of 2 es)
