-- Refusal 2 names the bad line and the byte in it, in every call that gives it (02, A6). Assumes nothing.
use Rattle.std.specs.Prelude.{ℕ, ◌+◌, ◌-◌, ◌≤◌, ◌<◌, ◌≡◌, Bool, true, false, List, [], ◌++◌, length, take, get_or, Some, Err}
use Rattle.base.specs.Lists.{any}
use Rattle.fault.specs.declared.Fault.{Fault}
use Rattle.fault.specs.declared.Fault.TheVariants.{BadLine}
use Rattle.fault.specs.Answer.{Answer, unless}
use Rattle.line.specs.Line.{read_line, is_bad}
use Rattle.line.specs.Place.{Mended}
use Rattle.rows.specs.Rows.{rows, line_of}
use Rattle.wellformed.specs.Check.{check}
use Rattle.entry.specs.Complete.{complete}
use Rattle.entry.specs.Lookup.{lookup}
use Rattle.entry.specs.Choose.{choose}
use Rattle.exec.specs.Expand.{expand}
use Rattle.actions.specs.Actions.{actions, expand_action}
use Rattle.journal.specs.Journal.{Author}
use Rattle.edit.specs.Calls.{State, content, lengths_fit}
use Rattle.batch.specs.Batch.{nothing, batch}
use Rattle.demands.specs.Book.{Call, Do, Undo, Redo, Forget}
use Rattle.demands.specs.Demand3.{state_call}

-- the line of a number, counted from 1
abbrev pub line_at : List ℕ → ℕ → List ℕ
line_at file n = line_of (get_or (rows file) (n - 1) [])

-- a file's earliest bad line, and the first byte of it after which no ending could make it good; or its length where it is only unfinished
pub record BadAt (file : List ℕ) (line byte : ℕ) : Type 0 where
  -- the file has a line of this number
  pub numbered : (0 < line) × (line ≤ length (rows file))
  -- it is bad
  pub bad : is_bad (read_line (line_at file line)) ≡ true
  -- no line before it is
  pub earliest : any (λ r. is_bad (read_line (line_of r))) (take (line - 1) (rows file)) ≡ false
  -- the byte stands in it, or is its length
  pub within : byte ≤ length (line_at file line)
  -- whatever follows the byte, the line is bad
  pub hopeless : byte < length (line_at file line) → (ending : List ℕ) → is_bad (read_line (take (byte + 1) (line_at file line) ++ ending)) ≡ true
  -- some ending makes a good line of the bytes before it
  pub hopeful : Mended (take byte (line_at file line))

-- a bad line that this answer tells is the file's
abbrev pub TellsOf : {A : Type 0} → List ℕ → Answer A → Type 0
TellsOf file a = (line byte : ℕ) → a ≡ Err (BadLine line byte) → BadAt file line byte

-- what the check tells of a bad line is so
unfoldable pub BadLineTold : Type 0
BadLineTold = (file : List ℕ) → TellsOf file (check file)

-- so of every other call on a file
pub record CallsTell (file : List ℕ) : Type 0 where
  pub complete_tells : TellsOf file (complete file)
  pub lookup_tells : (group key : List ℕ) → TellsOf file (lookup file group key)
  pub choose_tells : (group key locale : List ℕ) → TellsOf file (choose file group key locale)
  pub expand_tells : (locale location list : List ℕ) (run : ℕ) → TellsOf file (expand file locale location list run)
  pub actions_tells : (locale : List ℕ) → TellsOf file (actions file locale)
  pub expand_action_tells : (action locale location list : List ℕ) (run : ℕ) → TellsOf file (expand_action file action locale location list run)
  pub edits_tell : (s : State) (c : Call) → content s ≡ file → TellsOf file (state_call s c)
  pub batch_tells : (s : State) (author : Author) (list : List ℕ) → content s ≡ file → TellsOf file (unless (batch s author list).stopped)

-- what the other calls tell of a bad line is so too
unfoldable pub BadLineToldByCalls : Type 0
BadLineToldByCalls = (file : List ℕ) → CallsTell file

-- the calls to which the file is lent: all but forgetting
abbrev pub lends_file : Call → Bool
lends_file (Do q) = true
lends_file Undo = true
lends_file Redo = true
lends_file (Forget k) = false

-- a refusal that every other call on a file gives; one that edits gives it where the lengths fit, and a batch has nothing done then
pub record PassedOn (file : List ℕ) (f : Fault) : Type 0 where
  pub complete_refuses : complete file ≡ Err f
  pub lookup_refuses : (group key : List ℕ) → lookup file group key ≡ Err f
  pub choose_refuses : (group key locale : List ℕ) → choose file group key locale ≡ Err f
  pub expand_refuses : (locale location list : List ℕ) (run : ℕ) → expand file locale location list run ≡ Err f
  pub actions_refuses : (locale : List ℕ) → actions file locale ≡ Err f
  pub expand_action_refuses : (action locale location list : List ℕ) (run : ℕ) → expand_action file action locale location list run ≡ Err f
  pub edits_refuse : (s : State) (c : Call) → lends_file c ≡ true → lengths_fit s ≡ true → content s ≡ file → state_call s c ≡ Err f
  pub batch_refuses : (s : State) (author : Author) (list : List ℕ) → lengths_fit s ≡ true → content s ≡ file → batch s author list ≡ nothing s (Some f)

-- the check's refusal is passed on by all of them
unfoldable pub CheckPassedOn : Type 0
CheckPassedOn = (file : List ℕ) (f : Fault) → check file ≡ Err f → PassedOn file f
