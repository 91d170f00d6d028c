-- What stands at the front of a list of bytes, and at a place in it: a whole record or none. Assumes nothing.
use Rattle.std.specs.Prelude.{Some, None}
use mathlib.Core.Path.{◌≡◌, refl, sym, ap}
use mathlib.Core.Bool.{Bool, true, false, ◌&&◌, and-false}
use mathlib.Core.List.{List}
use Prim.Native.Nat.{ℕ, ◌+◌, ◌≤◌, ◌<◌}
use native.Mathlib.Omega.{arith}
use borrow.Author.Tests.{le-leb, lt-leb, leb-true}
use lib.ListN.{length, take, drop, length-drop}
use lib.Seq.{drop-drop}
use lib.Dec.{leb}
use Rattle.base.specs.Choice.{pick}
use Rattle.base.proofs.Tests.{no, and_both}
use Rattle.record.specs.declared.Front.{Front}
use Rattle.record.specs.Number.{number_in}
use Rattle.record.specs.Record.{length_at, record_at, whole}
use Rattle.record.specs.Walk.{front_at}

-- ---- the test

module _ (s : List ℕ) where
  pub whole-if : 6 ≤ length s → 6 ≤ length_at s → length_at s ≤ length s → whole s ≡ true
  unfolding whole
  whole-if h i j = rw (le-leb _ _ h, le-leb _ _ i, le-leb _ _ j)

  -- no whole record: the head, the length, or the bytes are missing
  pub no-head : length s < 6 → whole s ≡ false
  unfolding whole
  no-head h = rw (lt-leb _ _ h)

  pub no_length : length_at s < 6 → whole s ≡ false
  unfolding whole
  no_length h = simp (lt-leb _ _ h, and-false)

  pub no_bytes : length s < length_at s → whole s ≡ false
  unfolding whole
  no_bytes h = simp (lt-leb _ _ h, and-false)

  -- what a whole record says of its length
  pub whole-bounds : whole s ≡ true → (6 ≤ length_at s) × (length_at s ≤ length s)
  unfolding whole
  whole-bounds e =
      let p = and_both (leb 6 (length s) && leb 6 (length_at s)) (leb (length_at s) (length s)) e in
      (leb-true _ _ (and_both (leb 6 (length s)) (leb 6 (length_at s)) p.0).1, leb-true _ _ p.1)

-- ---- at a place

-- a whole record of the kind stands at a place and ends at another
pub record Stands (s : List ℕ) (at kind end : ℕ) : Type 0 where
  pub is_whole : whole (drop at s) ≡ true
  pub has-kind : kind ≡ (record_at (drop at s)).kind
  pub ends : end ≡ at + length_at (drop at s)
  pub head-inside : at + 6 ≤ end
  pub inside : end ≤ length s

module _ (s : List ℕ) (at : ℕ) where
  -- the kind and the end of a record at the place
  abbrev front_of : List ℕ → Front
  front_of t = record { kind = (record_at t).kind; end = at + length_at t }

  pub damaged-at : whole (drop at s) ≡ false → None ≡ front_at s at
  unfolding front_at
  damaged-at e = rw e

  pub record-there : {kind end : ℕ} → whole (drop at s) ≡ true → kind ≡ number_in (take 2 (drop (at + 4) s)) → end ≡ at + length_at (drop at s)
      → Some (record { kind = kind; end = end }) ≡ front_at s at
  unfolding front_at
  record-there e k n = rw (e, k, n, drop-drop 4 at s)

  -- what `read` found
  pub front-damaged : front_at s at ≡ None → whole (drop at s) ≡ false
  unfolding front_at
  front-damaged = go (whole (drop at s))
    where
      go : (t : Bool) → pick t (Some (front_of (drop at s))) None ≡ None → t ≡ false
      go true e = no (cc)
      go false e = refl

  pub front-record : {f : Front} → front_at s at ≡ Some f → Stands s at f.kind f.end
  unfolding front_at
  front-record {f} = go (whole (drop at s)) refl
    where
      go : (t : Bool) → whole (drop at s) ≡ t → pick t (Some (front_of (drop at s))) None ≡ Some f → Stands s at f.kind f.end
      go false w e = no (cc)
      go true w e =
          let b = whole-bounds (drop at s) w in
          let l = length-drop at s in
          let q : front_of (drop at s) ≡ f = cc in
          let n : f.end ≡ at + length_at (drop at s) = ap (λ (g : Front). g.end) (sym q) in
          record { is_whole = w; has-kind = ap (λ (g : Front). g.kind) (sym q); ends = n; head-inside = omega arith; inside = omega arith }
