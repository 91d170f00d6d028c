-- The walk over a journal's records, first those that stand and then the others. Assumes nothing.
use Rattle.std.specs.Prelude.{Option, Some, None, option_map}
use mathlib.Core.Path.{◌≡◌, refl, ◌∙◌}
use mathlib.Core.Bool.{true, false}
use mathlib.Core.List.{List, [], ◌∷◌}
use Prim.Native.Nat.{ℕ, ◌+◌, ◌-◌, ◌≤◌, ◌<◌}
use native.Mathlib.Nat.{sub-zero, sub_self}
use native.Mathlib.Omega.{arith}
use borrow.Author.Tests.{le-leb, lt-leb, ne_eqb}
use lib.ListN.{length, drop}
use Rattle.base.specs.Choice.{maybe, there}
use Rattle.base.proofs.Lists.{length_part}
use Rattle.base.proofs.Tests.{no}
use Rattle.record.specs.Record.{length_at}
use Rattle.record.proofs.Each.{each-done, each-damaged}
use Rattle.splice.specs.Edit.{Edit}
use Rattle.journal.specs.Journal.{Authored, by, edit_length, read_edit, parted_at, read_journal, next_of}
use Rattle.journal.specs.Walk.{with_bytes, edit_at, HoldsEdit, edits, Latest, Parted}
use Rattle.journal.specs.declared.Record.{Record}
use Rattle.journal.proofs.Records.{front-least, parted-here}
use Rattle.journal.proofs.Edits.{at_length, journal-by, edits-step, edits-first}

-- ---- a record that was read

module _ {s : List ℕ} {at : ℕ} {x : Record} (r : HoldsEdit s at x) where
  -- the edit that an answer names, and its author
  abbrev pub authored : Authored Edit
  authored = by r.author (with_bytes s x)

  pub authored-length : at + edit_length authored ≡ x.end
  authored-length = omega (arith, r.head, length_part x.old x.new s (omega (arith, r.new_bytes, r.inside)), length_part x.new x.end s r.inside, r.old_bytes, r.new_bytes)

  -- it is not empty
  pub further : at < x.end
  further = omega (arith, authored-length, front-least r.author)

  -- it ends where its length says
  pub ends-record : x.end ≡ at + length_at (drop at s)
  ends-record = omega (arith, authored-length, at_length s at r.edit)

  -- those from its end on are left
  pub edits-behind : edits (drop at s) ≡ option_map (λ es. authored ∷ es) (edits (drop x.end s))
  edits-behind = edits-step s at r.edit ∙ rw authored-length

-- ---- the records that stand

-- the edits up to a place stand, and those from there on decide
pub record Walking (s : List ℕ) (standing at last : ℕ) : Type 0 where
  pub stand : List (Authored Edit)
  pub below : at ≤ standing
  pub same : read_journal s standing ≡ maybe (edits (drop at s)) None (parted_at (standing - at) stand)
  pub top : Latest s last at (next_of stand)

pub walk-begin : (s : List ℕ) (standing : ℕ) → Walking s standing 0 0
walk-begin s standing = record { stand = []; below = omega arith; same = rw sub-zero (journal-by s standing); top = refl }

-- one edit more, within the bytes that stand or beyond them
parted-next : (n : ℕ) (stand : List (Authored Edit)) (e : Authored Edit) (o : Option (List (Authored Edit))) → edit_length e ≤ n
    → maybe (option_map (λ es. e ∷ es) o) None (parted_at n stand) ≡ maybe o None (parted_at (n - edit_length e) (e ∷ stand))
unfolding parted_at
parted-next n stand e None h = refl
parted-next n stand e (Some es) h = rw (ne_eqb n 0 (λ z. omega (arith, front-least e.author)), le-leb _ _ h)

parted-beyond : (n : ℕ) (stand : List (Authored Edit)) (e : Authored Edit) (o : Option (List (Authored Edit))) → 0 < n → n < edit_length e
    → maybe (option_map (λ es. e ∷ es) o) None (parted_at n stand) ≡ None
unfolding parted_at
parted-beyond n stand e None p h = refl
parted-beyond n stand e (Some es) p h = rw (ne_eqb n 0 (λ z. omega arith), lt-leb _ _ h)

-- no more edits, though some bytes of records stand
parted-short : (n : ℕ) (stand : List (Authored Edit)) → 0 < n → parted_at n stand [] ≡ None
unfolding parted_at
parted-short n stand p = rw (ne_eqb n 0 (λ z. omega arith))

module _ {s : List ℕ} {standing at last : ℕ} (w : Walking s standing at last) where
  pub walk-damaged : at < length s → edit_at s at ≡ None → read_journal s standing ≡ None
  walk-damaged h e = w.same ∙ rw (each-damaged read_edit s at h e)

  pub walk-short : at < standing → length s ≤ at → read_journal s standing ≡ None
  walk-short h k = w.same ∙ rw (each-done read_edit s at k) (parted-short (standing - at) w.stand (omega arith))

  module _ {x : Record} (r : HoldsEdit s at x) where
    pub walk-beyond : at < standing → standing < x.end → read_journal s standing ≡ None
    walk-beyond h k =
        w.same ∙ rw (edits-behind r) (parted-beyond (standing - at) w.stand (authored r) (edits (drop x.end s)) (omega arith) (omega (arith, authored-length r)))

    pub walk-next : x.end ≤ standing → Walking s standing x.end at
    walk-next k =
        let e : Authored Edit = authored r in
        let l = authored-length r in
        let n : standing - at - edit_length e ≡ standing - x.end = omega arith in
        record {
          stand = e ∷ w.stand;
          below = k;
          same = w.same ∙ rw (edits-behind r, parted-next (standing - at) w.stand e (edits (drop x.end s)) (omega arith), n);
          top = (r.edit, l);
        }

  -- where all are passed that stand, those behind decide
  walk-left : standing ≤ at → read_journal s standing ≡ maybe (edits (drop standing s)) None (parted_at 0 w.stand)
  walk-left h =
      let e : at ≡ standing = omega (arith, w.below) in
      rw (e, sub_self) at w.same

  pub walk-unsound : standing ≤ at → false ≡ there (edits (drop standing s)) → read_journal s standing ≡ None
  walk-unsound h = go (edits (drop standing s)) (walk-left h)
    where
      go : (o : Option (List (Authored Edit))) → read_journal s standing ≡ maybe o None (parted_at 0 w.stand) → false ≡ there o → read_journal s standing ≡ None
      go None l f = l
      go (Some es) l f = no (cc)

  pub walk-sound : standing ≤ at → true ≡ there (edits (drop standing s)) → Parted s standing last
  walk-sound h = go (edits (drop standing s)) refl (walk-left h)
    where
      e : at ≡ standing
      e = omega (arith, w.below)

      go : (o : Option (List (Authored Edit))) → edits (drop standing s) ≡ o → read_journal s standing ≡ maybe o None (parted_at 0 w.stand) → true ≡ there o → Parted s standing last
      go None q l f = no (cc)
      go (Some es) q l f =
          record {
            journal = record { stand = w.stand; wait = es };
            reads = l ∙ parted-here w.stand es;
            latest_at = rw e at w.top;
            next_at = edits-first s standing es q;
          }
