-- Whether requests fill a list: those from a place on decide. Assumes nothing.
use mathlib.Core.Path.{◌≡◌, sym, ◌∙◌}
use mathlib.Core.Bool.{true, false}
use mathlib.Core.List.{List}
use Prim.Native.Nat.{ℕ, ◌+◌, ◌≤◌, ◌<◌}
use native.Mathlib.Omega.{arith}
use borrow.Author.Tests.{le-leb, lt-leb}
use lib.ListN.{length, drop}
use Rattle.base.specs.Choice.{there}
use Rattle.base.specs.Lists.{part}
use Rattle.base.proofs.Tests.{some-there, none-there}
use Rattle.record.specs.Record.{whole, read_records}
use Rattle.record.proofs.Place.{Stands}
use Rattle.record.proofs.Each.{at_none, at-record, Filling, fill-begin, fill-damaged, fill-next, fill_done}
use Rattle.requests.specs.Requests.{read_request, read_requests}

pub judge-long : (s : List ℕ) → 65536 < length s → false ≡ there (read_requests s)
unfolding read_requests
judge-long s h = rw (lt-leb (length s) 65536 h)

judge-within : (s : List ℕ) → length s ≤ 65536 → read_requests s ≡ read_records read_request s
unfolding read_requests
judge-within s h = rw (le-leb (length s) 65536 h)

-- the list is short enough, and its records from a place on decide
pub record Judging (s : List ℕ) (at : ℕ) : Type 0 where
  pub inside : at ≤ length s
  pub short : length s ≤ 65536
  pub filling : Filling read_request s 0 at

pub judge-begin : (s : List ℕ) → length s ≤ 65536 → Judging s 0
judge-begin s h = record { inside = omega arith; short = h; filling = fill-begin read_request s 0 }

module _ {s : List ℕ} {at : ℕ} (w : Judging s at) where
  pub judge-damaged : at < length s → whole (drop at s) ≡ false → false ≡ there (read_requests s)
  judge-damaged h e = rw (judge-within s w.short) (fill-damaged read_request w.filling h (at_none read_request s at e))

  pub judge-done : length s ≤ at → true ≡ there (read_requests s)
  judge-done h = rw (judge-within s w.short) (fill_done read_request w.filling h)

  module _ {kind end : ℕ} (r : Stands s at kind end) where
    pub judge-other : false ≡ there (read_request (record { kind = kind; body = part (at + 6) end s })) → false ≡ there (read_requests s)
    judge-other e =
        rw (judge-within s w.short) (fill-damaged read_request w.filling (omega arith) (at-record read_request s at r ∙ none-there (read_request (record { kind = kind; body = part (at + 6) end s })) (sym e)))

    pub judge-next : true ≡ there (read_request (record { kind = kind; body = part (at + 6) end s })) → Judging s end
    judge-next e =
        let a = some-there (read_request (record { kind = kind; body = part (at + 6) end s })) (sym e) in
        record { inside = r.inside; short = w.short; filling = fill-next read_request w.filling (at-record read_request s at r ∙ a.1) r.ends }
