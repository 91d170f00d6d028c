-- The expansion of Exec: its refusals in 01's order, and the arguments of a run as records of kind 3 (01, "Building a command"). Assumes nothing.
use Rattle.std.specs.Prelude.{ℕ, Bool, true, false, not, ◌&&◌, List, [], length, get_or, eqb, leb, ltb, Ok}
use Rattle.base.specs.Bounds.{list_most, location_most}
use Rattle.base.specs.Choice.{maybe}
use Rattle.base.specs.Lists.{ascii, any, all}
use Rattle.fault.specs.declared.Fault.TheVariants.{BadArgument, Missing, UnfitText, Damaged}
use Rattle.fault.specs.Answer.{Answer, ◌>>=◌, need, some_or}
use Rattle.record.specs.Record.{read_list, list_of}
use Rattle.text.specs.Escape.{read_text}
use Rattle.line.specs.Form.{locale_form}
use Rattle.rows.specs.Rows.{Row, read_rows, raw_value}
use Rattle.rows.specs.Title.{Key, find_row, desktop_entry}
use Rattle.wellformed.specs.Check.{check}
use Rattle.choice.specs.Locale.{chosen}
use Rattle.command.specs.Command.{Argument, read_command, has_piece, is_name, is_icon}
use Rattle.run.specs.Run.{run_of, expanded_all, runs}

-- no zero byte
unfoldable pub no_zero : List ℕ → Bool
no_zero s = all (λ b. not (eqb b 0)) s

-- a list item: not empty, no zero byte
unfoldable pub fit_item : List ℕ → Bool
fit_item s = not (eqb (length s) 0) && no_zero s

-- a location: not too long, no zero byte
unfoldable pub fit_location : List ℕ → Bool
fit_location s = leb (length s) location_most && no_zero s

-- the items of the list, where file, list, locale, items and location are in order: 1 to 6, 14, 7, 10
unfoldable pub asked_items : List ℕ → List ℕ → List ℕ → List ℕ → Answer (List (List ℕ))
asked_items file locale location list = do
  _ ← check file
  items ← some_or (read_list 2 list_most list) Damaged
  _ ← need (locale_form locale) BadArgument
  _ ← need (all fit_item items && fit_location location) UnfitText
  Ok items

-- the text of a group's Name by locale, or 8, 9
abbrev pub name_in : List Row → List ℕ → List ℕ → Answer (List ℕ)
name_in rs group locale = do
  r ← some_or (chosen rs group (ascii "Name") locale) Missing
  read_text (raw_value r)

-- the text of the application's Name, where its code stands in Exec
unfoldable pub name_text : List Row → List ℕ → Bool → Answer (List ℕ)
name_text rs locale false = Ok []
name_text rs locale true = name_in rs desktop_entry locale

-- the text of a group's Icon by locale, where its code stands in Exec; a missing one is none
unfoldable pub icon_text : List Row → List ℕ → List ℕ → Bool → Answer (List ℕ)
icon_text rs group locale false = Ok []
icon_text rs group locale true = maybe (chosen rs group (ascii "Icon") locale) (Ok []) (λ r. read_text (raw_value r))

-- the arguments of a run of a command, Icon from this group: 8, then Name's refusal, then Icon's
unfoldable pub run_arguments : List Argument → List Row → List ℕ → List ℕ → List ℕ → List (List ℕ) → ℕ → Answer (List (List ℕ))
run_arguments args rs group locale location items run = do
  _ ← need (ltb run (runs args (length items))) Missing
  name ← name_text rs locale (any (has_piece is_name) args)
  icon ← icon_text rs group locale (any is_icon args)
  Ok (expanded_all (run_of (record { item = get_or items run []; name = name; location = location }) items icon) args)

-- the arguments of a run of the Exec in a group: 8, 9, 15 and 16 by lowest place, and the run's refusals
unfoldable pub group_arguments : List Row → List ℕ → List ℕ → List ℕ → List (List ℕ) → ℕ → Answer (List (List ℕ))
group_arguments rs group locale location items run = do
  exec ← some_or (find_row rs (Key group (ascii "Exec"))) Missing
  text ← read_text (raw_value exec)
  args ← read_command text
  run_arguments args rs group locale location items run

-- expansion: the arguments of a run of the Exec in Desktop Entry, as records of kind 3
unfoldable pub expand : List ℕ → List ℕ → List ℕ → List ℕ → ℕ → Answer (List ℕ)
expand file locale location list run = do
  items ← asked_items file locale location list
  args ← group_arguments (read_rows file) desktop_entry locale location items run
  Ok (list_of 3 args)
