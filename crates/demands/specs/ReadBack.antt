-- Text set is the text read back (demand 2), as far as raw values go. Assumes nothing.
use Rattle.std.specs.Prelude.{◌≡◌, ℕ, true, List, Ok}
use Rattle.base.specs.Lists.{span}
use Rattle.characters.specs.Class.{space_byte, value_byte}
use Rattle.characters.specs.Utf8.{is_text}
use Rattle.text.specs.Escape.{read_text, write_text, raw_text, fit_text}

-- what can be written is given back by reading what was written
unfoldable pub WrittenIsReadBack : Type 0
WrittenIsReadBack = (text raw : List ℕ) → write_text text ≡ Ok raw → read_text raw ≡ Ok text

-- what is written is a value: UTF-8 without 0x00 to 0x1F and 0x7F, and no space in front
unfoldable pub WrittenIsAValue : Type 0
WrittenIsAValue = (text raw : List ℕ) → write_text text ≡ Ok raw → (is_text value_byte raw ≡ true) × (span space_byte raw ≡ 0)

-- every fit text can be written
unfoldable pub FitIsWritten : Type 0
FitIsWritten = (text : List ℕ) → fit_text text ≡ true → write_text text ≡ Ok (raw_text text)
