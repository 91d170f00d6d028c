-- Records that ask for an entry (02, A4): a group, a key with its postfix and, in records of kind 5, a text, each after its own 4-byte length.
-- Assumes nothing.
use Rattle.std.specs.Prelude.{ℕ, ◌+◌, List, length, take, drop, eqb, leb, Option, Some, None}
use Rattle.base.specs.Bounds.{list_most}
use Rattle.base.specs.Choice.{pick}
use Rattle.base.specs.Lists.{part}
use Rattle.record.specs.Number.{number_in}
use Rattle.record.specs.Record.{Rec, read_records}

-- what a record asks for: a group, a key with its postfix, and perhaps a text
pub record Asked : Type 0 where
  pub group : List ℕ
  pub key : List ℕ
  pub text : Option (List ℕ)

-- where the field at the front ends: behind its length's 4 bytes and as many as that length says
abbrev pub field_end : List ℕ → ℕ
field_end s = 4 + number_in (take 4 s)

-- the field at the front and what follows it, handed on; none: it is not whole
unfoldable pub field : {A : Type 0} → List ℕ → (List ℕ → List ℕ → Option A) → Option A
field s next = pick (leb (field_end s) (length s)) (next (part 4 (field_end s) s) (drop (field_end s) s)) None

-- nothing follows the last field
abbrev pub ending : {A : Type 0} → List ℕ → A → Option A
ending s a = pick (eqb (length s) 0) (Some a) None

-- behind group and key: in a record of kind 6 nothing, in one of kind 5 the text; none: damaged
abbrev pub asked_by : ℕ → List ℕ → List ℕ → List ℕ → Option Asked
asked_by kind group key s =
    pick (eqb kind 6) (ending s (record { group = group; key = key; text = None }))
    (pick (eqb kind 5) (field s (λ text t. ending t (record { group = group; key = key; text = Some text }))) None)

-- what a record asks for; none: another kind, or fields that do not fill it
unfoldable pub read_request : Rec → Option Asked
read_request r = field r.body (λ group s. field s (λ key t. asked_by r.kind group key t))

-- what the records of a lent list ask for, in turn; none: damaged
unfoldable pub read_requests : List ℕ → Option (List Asked)
read_requests list = pick (leb (length list) list_most) (read_records read_request list) None
