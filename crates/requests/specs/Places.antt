-- What the functions of this crate answer, by the definition of requests. Assumes nothing.
use Rattle.std.specs.Prelude.{◌≡◌, ℕ, ◌+◌, ◌≤◌, ◌<◌, List, length, drop, Option, Some, None}
use Rattle.requests.specs.Requests.{Asked, field_end}
use Rattle.requests.specs.declared.Request.{Request}
use Rattle.requests.specs.declared.Request.TheVariants as request

-- where the field at a place ends; none: it is not whole
abbrev pub Ends : List ℕ → ℕ → Option ℕ → Type 0
Ends s at (Some e) = (e ≡ at + field_end (drop at s)) × (e ≤ length s)
Ends s at None = length s < at + field_end (drop at s)

-- what is asked for by the bytes of a request's parts
abbrev pub asked_of : Request → Asked
asked_of (request.Set group key text) = record { group = group.now; key = key.now; text = Some text.now }
asked_of (request.Remove group key) = record { group = group.now; key = key.now; text = None }
