-- The edit in the record at a place: none, or its numbers and where its bytes stand. Assumes nothing.
use Rattle.std.specs.Prelude.{Some, None, option_map, Ok, Err}
use mathlib.Core.Path.{◌≡◌, refl, sym, ap, ◌∙◌}
use mathlib.Core.Bool.{false}
use mathlib.Core.List.{List}
use Prim.Native.Nat.{ℕ, ◌+◌, ◌-◌, ◌≤◌, ◌<◌}
use native.Mathlib.Omega.{arith}
use borrow.Author.Tests.{eq-eqb, ne_eqb}
use lib.ListN.{length, take, drop, length-drop}
use Rattle.base.specs.Lists.{part}
use Rattle.base.proofs.Lists.{length_part}
use Rattle.base.proofs.Parts.{drop-part, take_part, part-part}
use Rattle.fault.specs.Answer.{Answer, then}
use Rattle.record.specs.Number.{number_in}
use Rattle.record.specs.Record.{Rec, whole}
use Rattle.record.proofs.Place.{Stands}
use Rattle.record.proofs.Cut.{body_at}
use Rattle.record.specs.Walk.{read_at}
use Rattle.journal.specs.Journal.{Author, NoPerson, Person, by, front_length, edit_in, read_edit}
use Rattle.journal.specs.Walk.{edit_at, ReadsBytes, Reads}
use Rattle.journal.specs.declared.Record.{Record}

-- ---- a record

module _ (r : Rec) where
  -- another kind
  read-other : (r.kind ≡ 1 → ⊥) → (r.kind ≡ 4 → ⊥) → read_edit r ≡ None
  unfolding read_edit
  read-other n m = rw (ne_eqb _ _ n, ne_eqb _ _ m)

  -- each of the two kinds
  read-bare : r.kind ≡ 1 → read_edit r ≡ option_map (by NoPerson) (edit_in r.body)
  unfolding read_edit
  read-bare k = rw (eq-eqb _ _ k)

  read-person : r.kind ≡ 4 → read_edit r ≡ option_map (by (Person (number_in (take 2 r.body)))) (edit_in (drop 2 r.body))
  unfolding read_edit
  read-person k = rw k

-- ---- an edit's bytes

module _ (s : List ℕ) where
  -- another length than its numbers say
  in-unlike : (length s ≡ 12 + number_in (part 4 8 s) + number_in (part 8 12 s) → ⊥) → edit_in s ≡ None
  unfolding edit_in
  in-unlike n = rw (ne_eqb _ _ n)

  in-this : {old new : ℕ} → number_in (part 4 8 s) ≡ old → number_in (part 8 12 s) ≡ new → length s ≡ 12 + old + new
      → edit_in s ≡ Some (record { place = number_in (take 4 s); old = part 12 (12 + old) s; new = drop (12 + old) s })
  unfolding edit_in
  in-this o n l = rw (o, n, eq-eqb _ _ l)

-- from a place up to another
module _ (s : List ℕ) (from end : ℕ) (a : from ≤ end) (b : end ≤ length s) where
  length-bytes : length (part from end s) ≡ end - from
  length-bytes = length_part from end s b

  -- the four bytes from a place on
  four-at : (n k : ℕ) → k ≡ from + n → k + 4 ≤ end → take 4 (drop n (part from end s)) ≡ take 4 (drop k s)
  four-at n k e h = rw (drop-part n from end s, ← e) (take_part 4 k end s h)

  pub bytes-short : end - from < 12 → edit_in (part from end s) ≡ None
  bytes-short h = in-unlike (part from end s) (λ e. omega (arith, length-bytes, e))

  module _ {old new : ℕ} (long : 12 ≤ end - from) (o : old ≡ number_in (take 4 (drop (from + 4) s))) (n : new ≡ number_in (take 4 (drop (from + 8) s))) where
    old-at : number_in (part 4 8 (part from end s)) ≡ old
    old-at = ap number_in (four-at 4 (from + 4) refl (omega arith)) ∙ sym o

    new-at : number_in (part 8 12 (part from end s)) ≡ new
    new-at = ap number_in (four-at 8 (from + 8) refl (omega arith)) ∙ sym n

    pub bytes-unlike : (end - from ≡ 12 + old + new → ⊥) → edit_in (part from end s) ≡ None
    bytes-unlike d = in-unlike (part from end s) (λ e. d (omega (arith, length-bytes, e, old-at, new-at)))

    pub bytes_read : {place : ℕ} → end - from ≡ 12 + old + new → place ≡ number_in (take 4 (drop from s))
        → edit_in (part from end s) ≡ Some (record { place = place; old = part (from + 12) (from + 12 + old) s; new = part (from + 12 + old) end s })
    bytes_read l p =
        let z : from ≡ from + 0 = omega arith in
        let q = ap number_in (four-at 0 from z (omega arith)) ∙ sym p in
        let x = part-part 12 (12 + old) from end s (omega arith) in
        let y = drop-part (12 + old) from end s in
        let m : from + (12 + old) ≡ from + 12 + old = omega arith in
        in-this (part from end s) old-at new-at (length-bytes ∙ l) ∙ rw (q, x, y, m)

-- ---- at a place

pub no-edit : (s : List ℕ) (at : ℕ) → whole (drop at s) ≡ false → edit_at s at ≡ None
unfolding read_at
no-edit s at e = rw e

module _ {s : List ℕ} {at kind end : ℕ} (r : Stands s at kind end) where
  edit-there : edit_at s at ≡ read_edit (record { kind = kind; body = part (at + 6) end s })
  unfolding read_at
  edit-there = rw (r.is_whole, body_at r, ← r.has-kind)

  pub edit-other : (kind ≡ 1 → ⊥) → (kind ≡ 4 → ⊥) → edit_at s at ≡ None
  edit-other n m = edit-there ∙ read-other _ n m

  pub edit-bare : kind ≡ 1 → edit_at s at ≡ option_map (by NoPerson) (edit_in (part (at + 6) end s))
  edit-bare k = edit-there ∙ read-bare _ k

  pub edit-person : kind ≡ 4 → at + 8 ≤ end → edit_at s at ≡ option_map (by (Person (number_in (take 2 (drop (at + 6) s))))) (edit_in (part (at + 8) end s))
  edit-person k h =
      let z : at + 6 + 2 ≡ at + 8 = omega arith in
      edit-there ∙ read-person _ k ∙ rw (take_part 2 (at + 6) end s (omega arith), drop-part 2 (at + 6) end s, z)

  -- no room for the person's two bytes
  pub edit-stub : kind ≡ 4 → end < at + 8 → edit_at s at ≡ None
  edit-stub k h =
      let b : List ℕ = part (at + 6) end s in
      let n = in-unlike (drop 2 b) (λ e. omega (arith, e, length-drop 2 b, length_part (at + 6) end s r.inside, r.head-inside)) in
      edit-there ∙ read-person _ k ∙ ap (option_map (by (Person (number_in (take 2 b))))) n

  -- what is read of the edit's bytes, by its author
  pub reads-by : (author : Author) (from : ℕ) → edit_at s at ≡ option_map (by author) (edit_in (part from end s)) → from + 12 ≡ at + front_length author
      → (x : Answer Record) → ReadsBytes s at from end x → Reads s at (then Some x)
  reads-by author from e h (Err f) (d, w) = (d, omega (arith, r.head-inside, r.inside), e ∙ ap (option_map (by author)) w)
  reads-by author from e h (Ok x) (a, b, w, head, o, n) =
      record { author = author; starts = a; edit = e ∙ ap (option_map (by author)) w; head = omega arith; old_bytes = o; new_bytes = n; inside = omega (arith, r.inside) }
