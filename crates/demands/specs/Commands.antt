-- Demand 2's sentence about pupils' files, of both public expansions: each file name reaches the program as one argument, or inside the one that
-- holds its code, with its own bytes. Assumes nothing.
use Rattle.std.specs.Prelude.{ℕ, ◌≤◌, ◌<◌, ◌≡◌, Bool, true, not, ◌&&◌, List, [], ◌∷◌, ◌++◌, length, get_or, eqb, Some, Ok, Err}
use Rattle.base.specs.Bounds.{list_most}
use Rattle.base.specs.Choice.{pick}
use Rattle.base.specs.Lists.{ascii, any}
use Rattle.fault.specs.declared.Fault.TheVariants.{Missing}
use Rattle.fault.specs.Answer.{Answer, ◌>>=◌, some_or, accepted}
use Rattle.record.specs.Record.{read_list, list_of}
use Rattle.text.specs.Escape.{read_text}
use Rattle.rows.specs.Rows.{read_rows, raw_value}
use Rattle.rows.specs.Title.{Key, find_row, desktop_entry}
use Rattle.command.specs.Command.{Argument, Files, Text, is_item, has_piece, read_command}
use Rattle.command.specs.Laws.{all_file_codes}
use Rattle.command.specs.declared.Piece.{Piece}
use Rattle.command.specs.declared.Piece.TheVariants as piece
use Rattle.run.specs.Run.{Run, pieces_bytes, expanded_all}
use Rattle.exec.specs.Expand.{expand}
use Rattle.actions.specs.Actions.{action_group, expand_action}

-- an expansion, and the group whose Exec it takes
pub record Expander : Type 0 where
  pub group : List ℕ
  pub expansion : List ℕ → List ℕ → List ℕ → List ℕ → ℕ → Answer (List ℕ)

-- that of the application
abbrev pub of_application : Expander
of_application = record { group = desktop_entry; expansion = expand }

-- that of an action
abbrev pub of_action : List ℕ → Expander
of_action id = record { group = action_group id; expansion = λ file. expand_action file id }

-- the command in a group of a file: the arguments of its Exec
abbrev pub command_in : List ℕ → List ℕ → Answer (List Argument)
command_in group file = do
  exec ← some_or (find_row (read_rows file) (Key group (ascii "Exec"))) Missing
  text ← read_text (raw_value exec)
  read_command text

-- an accepted expansion: the command, the files of the list, and the arguments that the output reads back to
pub record Expansion (by : Expander) (file locale location list : List ℕ) (run : ℕ) (out : List ℕ) : Type 0 where
  pub command : List Argument
  pub files : List (List ℕ)
  pub args : List (List ℕ)
  pub commanded : command_in by.group file ≡ Ok command
  pub listed : read_list 2 list_most list ≡ Some files
  pub is : by.expansion file locale location list run ≡ Ok out
  pub reads_back : read_list 3 (length out) out ≡ Some args

-- f or u stands in a command
abbrev pub takes_item : List Argument → Bool
takes_item command = any (has_piece is_item) command

-- how many runs a command has with so many files: one for each where f or u stands and there are files, else one
abbrev pub run_count : List Argument → ℕ → ℕ
run_count command n = pick (takes_item command && not (eqb n 0)) n 1

pub record FilesReach (by : Expander) : Type 0 where
  -- every accepted output reads back to its arguments
  pub arguments_read_back : (file locale location list : List ℕ) (run : ℕ) (out : List ℕ) → by.expansion file locale location list run ≡ Ok out
      → Expansion by file locale location list run out
  -- one code at most takes files
  pub one_takes_files : (file : List ℕ) (command : List Argument) → command_in by.group file ≡ Ok command → all_file_codes command ≤ 1
  -- F and U: each file is one whole argument with its own bytes, in the list's order; what stands before and after is the same for every list and run
  pub files_are_whole : (file locale location : List ℕ) (front back : List Argument) → (r : Run)
      × ((list : List ℕ) (run : ℕ) (out : List ℕ) (x : Expansion by file locale location list run out) → x.command ≡ front ++ (Files ∷ back)
      → x.args ≡ expanded_all r front ++ (x.files ++ expanded_all r back))
  -- f and u: the run's own file stands with its bytes in the one argument that holds the code; what stands around it is the same for every list and run
  pub file_stands_inside : (file locale location : List ℕ) (front back : List Argument) (quoted : Bool) (left right : List Piece) → (r : Run)
      × ((list : List ℕ) (run : ℕ) (out : List ℕ) (x : Expansion by file locale location list run out)
      → x.command ≡ front ++ (Text quoted (left ++ (piece.Item ∷ right)) ∷ back) → run < length x.files
      → x.args ≡ expanded_all r front ++ ((pieces_bytes r.put left ++ (get_or x.files run [] ++ pieces_bytes r.put right)) ∷ expanded_all r back))
  -- f and u: the run is the one run of a list that holds only its own file, so no other file can be in it
  pub no_other_file : (file locale location list : List ℕ) (run : ℕ) (out : List ℕ) (x : Expansion by file locale location list run out)
      → takes_item x.command ≡ true → run < length x.files
      → by.expansion file locale location (list_of 2 (get_or x.files run [] ∷ [])) 0 ≡ Ok out
  -- the runs are numbered from 0, and any other number is 8
  pub runs_are_numbered : (file locale location list : List ℕ) (run : ℕ) (out : List ℕ) (x : Expansion by file locale location list run out) (n : ℕ)
      → (n < run_count x.command (length x.files) → accepted (by.expansion file locale location list n) ≡ true)
      × (run_count x.command (length x.files) ≤ n → by.expansion file locale location list n ≡ Err Missing)

-- so it is of the application
abbrev pub FilesReachTheProgram : Type 0
FilesReachTheProgram = FilesReach of_application

-- and of every action
abbrev pub FilesReachTheAction : Type 0
FilesReachTheAction = (id : List ℕ) → FilesReach (of_action id)
