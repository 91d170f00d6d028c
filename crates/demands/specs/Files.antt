-- What holds of checking, lookup and choice together (demands 1 and 2). Assumes nothing.
use Rattle.std.specs.Prelude.{◌≡◌, ℕ, ◌+◌, Bool, true, false, not, ◌&&◌, List, [], ◌∷◌, ◌++◌, drop, eqb, Option, Some, None, Ok, Err}
use Rattle.base.specs.Choice.{maybe}
use Rattle.base.specs.Lists.{part, span, any}
use Rattle.fault.specs.declared.Fault.TheVariants.{BadArgument, Missing}
use Rattle.fault.specs.Answer.{Answer, ◌>>=◌, need, some_or, then, accepted}
use Rattle.characters.specs.Class.{key_byte}
use Rattle.line.specs.Locale.{parts}
use Rattle.line.specs.Form.{group_form, key_form, plain_form, locale_form}
use Rattle.rows.specs.Rows.{Row, read_rows}
use Rattle.rows.specs.Title.{Title, Nameless, Group, Key, title, same_title, find_row, has}
use Rattle.wellformed.specs.Check.{check}
use Rattle.wellformed.specs.WellFormed.{well_formed}
use Rattle.choice.specs.Locale.{stripped_title, keys_of}
use Rattle.entry.specs.Lookup.{value_ends, lookup}
use Rattle.entry.specs.declared.Ends.{Ends}
use Rattle.entry.specs.Choose.{choose}

-- what lookup hands back: a part of the file, or its refusal
abbrev pub handed : List ℕ → List ℕ → List ℕ → Answer (List ℕ)
handed file group key = then (λ e. part e.from e.to file) (lookup file group key)

-- what choice hands back: a part of the file, or its refusal
abbrev pub chosen_part : List ℕ → List ℕ → List ℕ → List ℕ → Answer (List ℕ)
chosen_part file group key locale = then (λ e. part e.from e.to file) (choose file group key locale)

-- lookup in a well-formed file, with arguments of the form: a name that is there is accepted, and one that is not is refused with 8
unfoldable pub LookupMisses : Type 0
LookupMisses = (file group key : List ℕ) → well_formed file ≡ true → (group_form group && key_form key) ≡ true
    → (has (read_rows file) (Key group key) ≡ true → accepted (lookup file group key) ≡ true)
    × (has (read_rows file) (Key group key) ≡ false → lookup file group key ≡ Err Missing)

-- choice is refused with 8 exactly if the plain key is missing, or its whole group
unfoldable pub ChoiceMisses : Type 0
ChoiceMisses = (file group key locale : List ℕ) → well_formed file ≡ true → (group_form group && plain_form key && locale_form locale) ≡ true
    → (choose file group key locale ≡ Err Missing → has (read_rows file) (Key group key) ≡ false)
    × (has (read_rows file) (Key group key) ≡ false → choose file group key locale ≡ Err Missing)

-- a row names a key in a group, encodings apart
abbrev pub names : List ℕ → List ℕ → Row → Bool
names group k r = same_title (Key group k) (stripped_title (title r))

-- otherwise, of the keys that the locale asks for, it takes the first that a row names, encodings apart, and of the rows that name it the first
unfoldable pub ChoiceTakesFirst : Type 0
ChoiceTakesFirst = (file group key locale k : List ℕ) (before after : List (List ℕ)) (above below : List Row) (r : Row) → well_formed file ≡ true
    → (group_form group && plain_form key && locale_form locale) ≡ true
    → keys_of key locale ≡ before ++ (k ∷ after)
    → any (λ j. any (names group j) (read_rows file)) before ≡ false
    → read_rows file ≡ above ++ (r ∷ below)
    → any (names group k) above ≡ false
    → names group k r ≡ true
    → choose file group key locale ≡ Ok (value_ends r)

-- the first of the keys that is in the group, each compared whole: 01's choice
unfoldable pub first_whole : List Row → List ℕ → List (List ℕ) → Option Row
first_whole rs group [] = None
first_whole rs group (k ∷ ks) = let later : Option Row = first_whole rs group ks in maybe (find_row rs (Key group k)) later Some

-- the call, as it was in 01
unfoldable pub choose_whole : List ℕ → List ℕ → List ℕ → List ℕ → Answer Ends
choose_whole file group key locale = do
  _ ← check file
  _ ← need (group_form group && plain_form key && locale_form locale) BadArgument
  r ← some_or (first_whole (read_rows file) group (keys_of key locale)) Missing
  Ok (value_ends r)

-- the postfix of the key that a row names has an encoding
abbrev pub has_encoding : Title → Bool
has_encoding Nameless = false
has_encoding (Group g) = false
has_encoding (Key g k) = not (eqb (parts (drop (span key_byte k + 1) k)).encoding 0)

-- in a file without encodings the choice is that of 01
unfoldable pub ChoiceWithoutEncodings : Type 0
ChoiceWithoutEncodings = (file group key locale : List ℕ) → any (λ r. has_encoding (title r)) (read_rows file) ≡ false
    → choose file group key locale ≡ choose_whole file group key locale
