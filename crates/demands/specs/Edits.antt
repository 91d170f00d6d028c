-- What holds of set and remove (demand 2): the file stays well formed, the text set is read back, and nothing else reads otherwise. Here s is
-- what is lent, and t what an accepted call leaves. Assumes nothing.
use Rattle.std.specs.Prelude.{◌≡◌, ℕ, true, false, List, Ok, Err}
use Rattle.fault.specs.declared.Fault.TheVariants.{Missing}
use Rattle.fault.specs.Answer.{◌>>=◌}
use Rattle.text.specs.Escape.{read_text}
use Rattle.rows.specs.Title.{Title, Key, same_title}
use Rattle.wellformed.specs.WellFormed.{well_formed}
use Rattle.entry.specs.Lookup.{lookup}
use Rattle.splice.specs.Edit.{Edit, spliced, turned}
use Rattle.change.specs.Change.{Request, Set, Remove, edit_of}
use Rattle.journal.specs.Journal.{Author, Authored, by}
use Rattle.edit.specs.Calls.{State, content, request}
use Rattle.demands.specs.Files.{handed}

-- the entry that a request is about: its group and its key with the whole postfix
abbrev pub asked_entry : Request → Title
asked_entry (Set group key text) = Key group key
asked_entry (Remove group key) = Key group key

-- a set or remove of a well-formed file leaves a well-formed file
unfoldable pub EditKeepsWellFormed : Type 0
EditKeepsWellFormed = (s t : State) (q : Authored Request) → request s q ≡ Ok t → well_formed (content t) ≡ true

-- every other group, key and postfix reads as it did: the same bytes, or the same refusal
unfoldable pub OthersReadAsBefore : Type 0
OthersReadAsBefore = (s t : State) (q : Authored Request) (group key : List ℕ) → request s q ≡ Ok t → same_title (Key group key) (asked_entry q.what) ≡ false
    → handed (content t) group key ≡ handed (content s) group key

-- the text set is the text read back from the same entry
unfoldable pub SetIsReadBack : Type 0
SetIsReadBack = (s t : State) (author : Author) (group key text : List ℕ) → request s (by author (Set group key text)) ≡ Ok t
    → (handed (content t) group key >>= read_text) ≡ Ok text

-- a removed key is missing
unfoldable pub RemovedIsMissing : Type 0
RemovedIsMissing = (s t : State) (author : Author) (group key : List ℕ) → request s (by author (Remove group key)) ≡ Ok t → lookup (content t) group key ≡ Err Missing

-- an edit turned round gives back the bytes
unfoldable pub TurnedRound : Type 0
TurnedRound = (file : List ℕ) (q : Request) (e : Edit) → edit_of file q ≡ Ok e → spliced (turned e) (spliced e file) ≡ file
