-- Two teachers, one file: what holds of people who edit copies of it in parallel and merge afterwards (02, A14). That every other entry reads
-- as before is `OthersReadAsBefore` of Edits. Assumes nothing.
use Rattle.std.specs.Prelude.{◌≡◌, ℕ, Bool, true, false, List, [], ◌∷◌, Ok}
use Rattle.base.specs.Lists.{any, all}
use Rattle.fault.specs.Answer.{Answer, ◌>>=◌, accepted}
use Rattle.rows.specs.Title.{Title, Key, same_title}
use Rattle.choice.specs.Locale.{stripped_title, keys_of}
use Rattle.entry.specs.Lookup.{lookup}
use Rattle.change.specs.Change.{Request, Set, Remove}
use Rattle.journal.specs.Journal.{Author, Authored, by}
use Rattle.edit.specs.Calls.{State, content, request}
use Rattle.demands.specs.Files.{chosen_part}
use Rattle.demands.specs.Edits.{asked_entry}

-- Of any two sets on different entries that both exist already: where all four calls are accepted, both orders end in the same file bytes. The
-- one order starts from s, the other from r, which holds the same file in its own buffers, with its own journal.
unfoldable pub SetsCommute : Type 0
SetsCommute = (s s₁ s₂ r r₂ r₁ : State) (author₁ author₂ : Author) (group₁ key₁ text₁ group₂ key₂ text₂ : List ℕ) → content s ≡ content r
    → accepted (lookup (content s) group₁ key₁) ≡ true
    → accepted (lookup (content s) group₂ key₂) ≡ true
    → same_title (Key group₁ key₁) (Key group₂ key₂) ≡ false
    → request s (by author₁ (Set group₁ key₁ text₁)) ≡ Ok s₁ → request s₁ (by author₂ (Set group₂ key₂ text₂)) ≡ Ok s₂
    → request r (by author₂ (Set group₂ key₂ text₂)) ≡ Ok r₂ → request r₂ (by author₁ (Set group₁ key₁ text₁)) ≡ Ok r₁
    → content s₂ ≡ content r₁

-- the calls of a list in turn: what they leave, or the first refusal
abbrev pub request_all : State → List (Authored Request) → Answer State
request_all s [] = Ok s
request_all s (q ∷ qs) = request s q >>= λ t. request_all t qs

-- a request sets an entry that a file has
abbrev pub sets_present : List ℕ → Request → Bool
sets_present file (Set group key text) = accepted (lookup file group key)
sets_present file (Remove group key) = false

-- every request of a list sets an entry that a file has
abbrev pub all_set_present : List ℕ → List (Authored Request) → Bool
all_set_present file qs = all (λ q. sets_present file q.what) qs

-- some request of the one list is on an entry of the other
abbrev pub meet : List (Authored Request) → List (Authored Request) → Bool
meet ps qs = any (λ p. any (λ q. same_title (asked_entry p.what) (asked_entry q.what)) qs) ps

-- the same of two lists of sets, as two people make them, of which no entry is in both
unfoldable pub SetListsCommute : Type 0
SetListsCommute = (s s₁ s₂ r r₂ r₁ : State) (ps qs : List (Authored Request)) → content s ≡ content r
    → all_set_present (content s) ps ≡ true
    → all_set_present (content s) qs ≡ true
    → meet ps qs ≡ false
    → request_all s ps ≡ Ok s₁ → request_all s₁ qs ≡ Ok s₂
    → request_all r qs ≡ Ok r₂ → request_all r₂ ps ≡ Ok r₁
    → content s₂ ≡ content r₁

-- an entry is among the candidates of a choice, its encoding apart: the keys that the locale asks for, the plain key among them
abbrev pub is_candidate : Title → List ℕ → List ℕ → List ℕ → Bool
is_candidate entry group key locale = any (λ k. same_title (Key group k) (stripped_title entry)) (keys_of key locale)

-- the raw value chosen by language, or the refusal, may change only where the edited entry is among the candidates
unfoldable pub ChoiceReadsAsBefore : Type 0
ChoiceReadsAsBefore = (s t : State) (q : Authored Request) (group key locale : List ℕ) → request s q ≡ Ok t
    → is_candidate (asked_entry q.what) group key locale ≡ false
    → chosen_part (content t) group key locale ≡ chosen_part (content s) group key locale
