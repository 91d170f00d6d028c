-- Choice of language, by the file: the raw value of a plain key that a locale takes (01, "Language, escapes, lists"). Assumes nothing.
use Rattle.std.specs.Prelude.{ℕ, ◌&&◌, List, Ok}
use Rattle.fault.specs.declared.Fault.TheVariants.{BadArgument, Missing}
use Rattle.fault.specs.Answer.{Answer, ◌>>=◌, need, some_or}
use Rattle.line.specs.Form.{group_form, plain_form, locale_form}
use Rattle.rows.specs.Rows.{Row, read_rows}
use Rattle.wellformed.specs.Check.{check}
use Rattle.choice.specs.Locale.{chosen}
use Rattle.entry.specs.Lookup.{value_ends}
use Rattle.entry.specs.declared.Ends.{Ends}

-- the two ends of the value that a locale takes in rows already checked, or 8
abbrev pub chosen_ends : List Row → List ℕ → List ℕ → List ℕ → Answer Ends
chosen_ends rs group key locale = do
  r ← some_or (chosen rs group key locale) Missing
  Ok (value_ends r)

-- choice's two ends, or its refusal
unfoldable pub choose : List ℕ → List ℕ → List ℕ → List ℕ → Answer Ends
choose file group key locale = do
  _ ← check file
  _ ← need (group_form group && plain_form key && locale_form locale) BadArgument
  chosen_ends (read_rows file) group key locale
