-- The n-th body of a list of records: how a loop finds it, and that it is the n-th record's. Assumes nothing.
use Rattle.std.specs.Prelude.{Option, Some, None, option_map}
use mathlib.Core.Path.{◌≡◌, refl, sym, ap, ◌∙◌}
use mathlib.Core.Bool.{true, false}
use mathlib.Core.List.{List, [], ◌∷◌}
use Prim.Native.Nat.{ℕ, zero, suc, ◌+◌, ◌-◌, ◌≤◌, ◌<◌}
use native.Mathlib.Omega.{arith}
use lib.ListN.{length, get_or, drop, length-map}
use Rattle.base.specs.Choice.{maybe, there}
use Rattle.base.specs.Lists.{part}
use Rattle.base.proofs.Lists.{length_part}
use Rattle.base.proofs.Scan.{done}
use Rattle.base.proofs.Tests.{no, there-map}
use Rattle.record.specs.declared.Bounds.{Bounds}
use Rattle.record.specs.Record.{Rec, record_length, whole, cut, read_list}
use Rattle.record.specs.Walk.{bounds_from, nth_of}
use Rattle.record.proofs.Place.{Stands}
use Rattle.record.proofs.Cut.{cut-none, cut-damaged-at, cut_at, cut-some-at}
use Rattle.record.proofs.Bodies.{bodies_in, list-sound}

-- ---- found by a loop

-- where the n-th body stands among records from a place on; none in damaged ones
abbrev sought : Option (List Rec) → ℕ → ℕ → Option Bounds
sought o n at = maybe o None (λ rs. bounds_from rs n at)

-- the records from a place on are sound, and the one that is left to pass so many others decides
pub record Seeking (s : List ℕ) (n at left : ℕ) : Type 0 where
  pub inside : at ≤ length s
  pub sound : there (cut (drop at s)) ≡ true
  pub same : nth_of s n ≡ sought (cut (drop at s)) left at

pub seek-begin : {s : List ℕ} (n : ℕ) → there (cut s) ≡ true → Seeking s n 0 n
unfolding nth_of
seek-begin n h = record { inside = omega arith; sound = h; same = refl }

module _ (r : Rec) (at : ℕ) where
  sought-next : (o : Option (List Rec)) {n m : ℕ} → n ≡ suc m → sought (option_map (λ rs. r ∷ rs) o) n at ≡ sought o m (at + record_length r.body)
  unfolding bounds_from
  sought-next None e = refl
  sought-next (Some rs) e = rw e

  sought-here : (o : Option (List Rec)) → there o ≡ true → sought (option_map (λ rs. r ∷ rs) o) 0 at ≡ Some (record { from = at + 6; to = at + record_length r.body })
  unfolding bounds_from
  sought-here None e = no (cc)
  sought-here (Some rs) e = refl

module _ {s : List ℕ} {n at left : ℕ} (w : Seeking s n at left) where
  pub seek-damaged : at < length s → whole (drop at s) ≡ false → None ≡ nth_of s n
  seek-damaged h e = rw (w.same, cut-damaged-at s at h e)

  pub seek-done : length s ≤ at → None ≡ nth_of s n
  unfolding bounds_from
  seek-done h = rw (w.same, done s at h, cut-none)

  module _ {k end : ℕ} (r : Stands s at k end) where
    abbrev found : Rec
    found = record { kind = k; body = part (at + 6) end s }

    ends : at + record_length found.body ≡ end
    ends = omega (arith, length_part (at + 6) end s r.inside, r.head-inside)

    others-sound : there (cut (drop end s)) ≡ true
    others-sound = sym (there-map (λ rs. found ∷ rs) (cut (drop end s))) ∙ rw (cut_at r) at w.sound

    pub seek-next : (left ≡ 0 → ⊥) → Seeking s n end (left - 1)
    seek-next z =
        record {
          inside = r.inside;
          sound = others-sound;
          same = w.same ∙ rw (cut_at r, sought-next found at (cut (drop end s)) {n = left} {m = left - 1} (omega arith), ends);
        }

    pub seek-here : left ≡ 0 → Some (record { from = at + 6; to = end }) ≡ nth_of s n
    seek-here z = rw (w.same, cut_at r, z, sought-here found at (cut (drop end s)) others-sound, ends)

-- ---- what is found

-- a part of the bytes is the n-th of some bodies
pub record NthBody (s : List ℕ) (bs : List (List ℕ)) (n from to : ℕ) : Type 0 where
  pub among : n < length bs
  pub body : part from to s ≡ get_or bs n []
  pub ordered : from ≤ to
  pub inside : to ≤ length s

-- the first body stands behind the head
pub first-bounds : (r : Rec) (rs : List Rec) (at : ℕ) {b : Bounds} → bounds_from (r ∷ rs) 0 at ≡ Some b → (b.from ≡ at + 6) × (b.to ≡ at + record_length r.body)
unfolding bounds_from
first-bounds r rs at {b} h =
    let q : record { from = at + 6; to = at + record_length r.body } ≡ b = cc in (ap (λ (x : Bounds). x.from) (sym q), ap (λ (x : Bounds). x.to) (sym q))

nth-from : (s : List ℕ) (at : ℕ) (rs : List Rec) (n : ℕ) {b : Bounds} → cut (drop at s) ≡ Some rs → bounds_from rs n at ≡ Some b
    → NthBody s (bodies_in rs) n b.from b.to
unfolding bounds_from
nth-from s at [] n e h = no (cc)
nth-from s at (r ∷ rs) zero {b} e h =
    let c = cut-some-at s at e in
    let q = first-bounds r rs at h in
    record { among = omega arith; body = rw (q.0, q.1) c.body; ordered = omega arith; inside = omega (arith, c.stands.inside) }
nth-from s at (r ∷ rs) (suc n) e h =
    let c = nth-from s (at + record_length r.body) rs n (cut-some-at s at e).others h in
    record { among = omega arith; body = c.body; ordered = c.ordered; inside = c.inside }

pub nth-part : (s : List ℕ) (rs : List Rec) (n : ℕ) {b : Bounds} → cut s ≡ Some rs → bounds_from rs n 0 ≡ Some b → NthBody s (bodies_in rs) n b.from b.to
nth-part s = nth-from s 0

-- no body: the records are fewer
pub nth-missing : (rs : List Rec) (n at : ℕ) → bounds_from rs n at ≡ None → length rs ≤ n
unfolding bounds_from
nth-missing [] n at h = omega arith
nth-missing (r ∷ rs) zero at h = no (cc)
nth-missing (r ∷ rs) (suc n) at h = let l = nth-missing rs n (at + record_length r.body) h in omega arith

-- the same of a list of one kind
module _ (kind most : ℕ) (s : List ℕ) {bs : List (List ℕ)} (n : ℕ) (e : read_list kind most s ≡ Some bs) where
  pub nth-body : {b : Bounds} → nth_of s n ≡ Some b → NthBody s bs n b.from b.to
  unfolding nth_of
  nth-body h =
      let l = list-sound kind most s e in
      rw l.bodies_are (nth-part s l.records n l.cuts (rw l.cuts at h))

  pub nth_past : nth_of s n ≡ None → length bs ≤ n
  unfolding nth_of
  nth_past h =
      let l = list-sound kind most s e in
      rw (l.bodies_are, length-map) (nth-missing l.records n 0 (rw l.cuts at h))
