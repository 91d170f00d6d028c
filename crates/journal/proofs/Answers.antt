-- What is read where the latest record begins, and at standing, are the edits that undo and redo ask for. Assumes nothing.
use Rattle.std.specs.Prelude.{Option, Some, None, Ok, Err}
use mathlib.Core.Path.{◌≡◌, refl, sym, ap, ◌∙◌}
use mathlib.Core.List.{List, []}
use Prim.Native.Nat.{ℕ, ◌+◌, ◌-◌, ◌≤◌}
use native.Mathlib.Omega.{arith}
use lib.ListN.{length}
use Rattle.base.proofs.Scan.{done}
use Rattle.base.proofs.Tests.{no}
use Rattle.fault.specs.declared.Fault.{Fault}
use Rattle.fault.specs.declared.Fault.TheVariants.{Damaged, NothingLeft}
use Rattle.fault.specs.Answer.{Answer, ◌>>=◌, some_or, then}
use Rattle.record.proofs.Place.{no-head}
use Rattle.splice.specs.Edit.{Edit}
use Rattle.journal.specs.declared.Record.{Record}
use Rattle.journal.specs.Journal.{Authored, edit_length, read_journal, next_of}
use Rattle.journal.specs.Walk.{Placed, ending_at, starting_at, placed, latest, waiting, Within, edit_at, Reads, Latest, Follows, Parted}
use Rattle.journal.proofs.Read.{no-edit}
use Rattle.journal.proofs.Records.{front-least}
use Rattle.journal.proofs.Walking.{authored, authored-length}

-- a damaged journal
module _ (s : List ℕ) (standing : ℕ) {f : Fault} (e : (f ≡ Damaged) × (read_journal s standing ≡ None)) where
  pub latest-damaged : Err f ≡ latest s standing
  latest-damaged = rw (e.0, e.1)

  pub waiting-damaged : Err f ≡ waiting s standing
  waiting-damaged = rw (e.0, e.1)

-- an edit that was read, or 12 where none was, is the one asked for
abbrev Places : List ℕ → Answer Placed → Answer (Option Record) → Type 0
Places s asked a = let r : Answer Record = a >>= λ o. some_or o NothingLeft in (placed s r ≡ asked) × Within (length s) r

-- past the end there is no edit
edit-inside : (s : List ℕ) (at : ℕ) {e : Authored Edit} → edit_at s at ≡ Some e → length s ≤ at → ⊥
edit-inside s at e h = no (cc (no-edit s at (rw (done s at h) (no-head [] (omega arith)))))

module _ {s : List ℕ} {standing last : ℕ} (p : Parted s standing last) where
  pub latest-nothing : standing ≡ 0 → Err NothingLeft ≡ latest s standing
  latest-nothing z = rw p.reads (go (next_of p.journal.stand) p.latest_at)
    where
      go : (o : Option (Authored Edit)) → Latest s last standing o
          → Err NothingLeft ≡ then (ending_at standing) (some_or o NothingLeft)
      go None l = refl
      go (Some e) l = absurd (omega (arith, z, l.1, front-least e.author))

  pub latest-read : (standing ≡ 0 → ⊥) → (a : Answer (Option Record)) → Reads s last a → Places s (latest s standing) a
  latest-read n a q = rw p.reads (go (next_of p.journal.stand) p.latest_at a q)
    where
      go : (o : Option (Authored Edit)) → Latest s last standing o → (a : Answer (Option Record)) → Reads s last a
          → Places s (then (ending_at standing) (some_or o NothingLeft)) a
      go None l a q = absurd (n l)
      go (Some e) l (Err f) q = no (cc)
      go (Some e) l (Ok None) q = absurd (edit-inside s last l.0 q)
      go (Some e) l (Ok (Some r)) w =
          let h = w.edit in
          let g = l.0 in
          let z : authored w ≡ e = cc in
          let k : r.end ≡ standing = sym (authored-length w) ∙ ap (λ (f : Authored Edit). last + edit_length f) z ∙ l.1 in
          let m : r.start ≡ standing - edit_length e = omega (arith, w.starts, l.1) in
          (ap Ok (λ i. record { start = m i; end = k i; edit = (z i).what }), (w.old_bytes, w.new_bytes, w.inside))

  pub waiting-read : (a : Answer (Option Record)) → Reads s standing a → Places s (waiting s standing) a
  waiting-read a q = rw p.reads (go (next_of p.journal.wait) p.next_at a q)
    where
      go : (o : Option (Authored Edit)) → Follows s standing o → (a : Answer (Option Record)) → Reads s standing a
          → Places s (then (starting_at standing) (some_or o NothingLeft)) a
      go None l (Err f) q = absurd (omega arith)
      go None l (Ok None) q = (refl, tt)
      go None l (Ok (Some r)) w = absurd (omega (arith, front-least w.author, w.head, w.old_bytes, w.new_bytes, w.inside))
      go (Some e) l (Err f) q = no (cc)
      go (Some e) l (Ok None) q = absurd (edit-inside s standing l q)
      go (Some e) l (Ok (Some r)) w =
          let h = w.edit in
          let z : authored w ≡ e = cc in
          let k : r.end ≡ standing + edit_length e = sym (authored-length w) ∙ ap (λ (f : Authored Edit). standing + edit_length f) z in
          (ap Ok (λ i. record { start = w.starts i; end = k i; edit = (z i).what }), (w.old_bytes, w.new_bytes, w.inside))
