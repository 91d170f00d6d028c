-- What the functions of this crate answer, by the definitions of set and remove. Assumes nothing.
use Rattle.std.specs.Prelude.{ℕ, ◌+◌, ◌≤◌, ◌≡◌, Bool, true, false, not, ◌&&◌, List, [], length, take, eqb, Option, option_map, Ok, Err, IfOk}
use Rattle.base.specs.Lists.{same, part}
use Rattle.fault.specs.Answer.{Answer, then}
use Rattle.text.specs.Escape.{raw_text}
use Rattle.line.specs.declared.Line.{Line}
use Rattle.line.specs.declared.Line.TheVariants as line
use Rattle.rows.specs.Rows.{Row, ended}
use Rattle.splice.specs.Edit.{Edit}
use Rattle.change.specs.Change.{Request, Set, Remove, entry_bytes, with_lf}
use Rattle.change.specs.declared.Operation.{Operation}
use Rattle.change.specs.declared.Operation.TheVariants as op
use Rattle.change.specs.declared.Target.{Target}
use Rattle.change.specs.declared.Target.TheVariants.{Value, Entry, Line as Gone}
use Rattle.change.specs.declared.Slot.{Slot}

-- the request of an operation; a remove has no text
abbrev pub request_by : Operation → List ℕ → List ℕ → List ℕ → Request
request_by op.Set group key text = Set group key text
request_by op.Remove group key text = Remove group key

-- the new bytes: a value, an entry or none
abbrev pub new_bytes : List ℕ → List ℕ → Target → List ℕ
new_bytes key text (Value from to) = raw_text text
new_bytes key text (Entry at after) = with_lf after (entry_bytes key (raw_text text))
new_bytes key text (Gone from to) = []

-- the same by what was found; a refusal has none
abbrev pub bytes_for : List ℕ → List ℕ → Answer Target → List ℕ
bytes_for key text (Ok t) = new_bytes key text t
bytes_for key text (Err f) = []

-- the edit of a file
abbrev pub edit_by : List ℕ → List ℕ → List ℕ → Target → Edit
edit_by file key text (Value from to) = record { place = from; old = part from to file; new = new_bytes key text (Value from to) }
edit_by file key text (Entry at after) = record { place = at; old = []; new = new_bytes key text (Entry at after) }
edit_by file key text (Gone from to) = record { place = from; old = part from to file; new = [] }

-- the places lie in a file of this length, in their order
abbrev pub Inside : ℕ → Target → Type 0
Inside size (Value from to) = (from ≤ to) × (to ≤ size)
Inside size (Entry at after) = at ≤ size
Inside size (Gone from to) = (from ≤ to) × (to ≤ size)

-- an answer is a request's edit or refusal, whatever the text, and a target lies inside the file
pub record Aims (file key : List ℕ) (edit : List ℕ → Answer Edit) (a : Answer Target) : Type 0 where
  pub is : (text : List ℕ) → then (edit_by file key text) a ≡ edit text
  pub inside : IfOk a (Inside (length file))

-- the same with one text
pub record Meets (file key text : List ℕ) (edit : Answer Edit) (a : Answer Target) : Type 0 where
  pub is : then (edit_by file key text) a ≡ edit
  pub inside : IfOk a (Inside (length file))

-- a place for an entry, and whether its LF comes after it
abbrev pub slot : ℕ → Bool → Slot
slot place after = record { place = place; after = after }

-- where an entry comes in behind a row
abbrev pub slot_of : Option Row → Option Slot
slot_of o = option_map (λ r. slot (r.start + length r.bytes) (ended r.bytes)) o

-- a line names something: a header or an entry
abbrev pub named : Line → Bool
named line.Blank = false
named line.Comment = false
named (line.Header end) = true
named (line.Entry key name value) = true
named (line.Bad n) = false

-- a line is an entry whose key is this one with a postfix
abbrev pub postfix_in : List ℕ → List ℕ → Line → Bool
postfix_in key l line.Blank = false
postfix_in key l line.Comment = false
postfix_in key l (line.Header end) = false
postfix_in key l (line.Entry k name value) = same key (take k l) && not (eqb k name)
postfix_in key l (line.Bad n) = false
