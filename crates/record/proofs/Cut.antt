-- Records cut off a list of bytes one after another: what a loop over records goes by. Assumes nothing.
use Rattle.std.specs.Prelude.{Option, Some, None, option_map}
use mathlib.Core.Path.{◌≡◌, refl, sym, ap, ◌∙◌}
use mathlib.Core.Bool.{true, false, false≢true}
use mathlib.Core.List.{List, [], ◌∷◌}
use Prim.Native.Nat.{ℕ, zero, suc, ◌+◌, ◌-◌, ◌≤◌, ◌<◌}
use native.Mathlib.Nat.{le_of_suc-le-suc, not-suc-le-zero}
use native.Mathlib.Omega.{arith}
use lib.ListN.{length, drop, length-drop}
use lib.Seq.{drop-drop}
use Rattle.base.specs.Lists.{part}
use Rattle.base.proofs.Lists.{length_part}
use Rattle.base.proofs.Tests.{no, by-test}
use Rattle.record.specs.Record.{Rec, record_length, length_at, record_at, whole, cut_after, cut}
use Rattle.record.proofs.Place.{Stands, whole-bounds}

pub cut-none : cut [] ≡ Some []
unfolding cut_after
cut-none = refl

-- what was left to pass over may be dropped first
pub cut-passes : (s : List ℕ) (n : ℕ) → n ≤ length s → cut_after s n ≡ cut (drop n s)
unfolding cut_after
cut-passes s zero h = refl
cut-passes [] (suc n) h = absurd (not-suc-le-zero h)
cut-passes (b ∷ bs) (suc n) h = cut-passes bs n (le_of_suc-le-suc h)

drop-pred : (n b : ℕ) (bs : List ℕ) → 0 < n → drop (n - 1) bs ≡ drop n (b ∷ bs)
drop-pred zero b bs h = absurd (omega arith)
drop-pred (suc n) b bs h = let k : suc n - 1 ≡ n = omega arith in rw k

-- a whole record at the front is cut off
pub cut_step : (s : List ℕ) → whole s ≡ true → cut s ≡ option_map (λ rs. record_at s ∷ rs) (cut (drop (length_at s) s))
unfolding cut_after
cut_step [] e = absurd (false≢true (unfold whole in e))
cut_step (b ∷ bs) e =
    let p = whole-bounds (b ∷ bs) e in
    rw (e, cut-passes bs (length_at (b ∷ bs) - 1) (omega arith), drop-pred (length_at (b ∷ bs)) b bs (omega arith))

-- bytes with no whole record at the front are damaged
pub cut-damaged : (s : List ℕ) → 0 < length s → whole s ≡ false → cut s ≡ None
unfolding cut_after
cut-damaged [] h e = absurd (not-suc-le-zero h)
cut-damaged (b ∷ bs) h e = rw e

-- ---- at a place

pub cut-damaged-at : (s : List ℕ) (at : ℕ) → at < length s → whole (drop at s) ≡ false → cut (drop at s) ≡ None
cut-damaged-at s at h e = cut-damaged (drop at s) (simp length-drop (omega arith)) e

module _ {s : List ℕ} {at kind end : ℕ} (r : Stands s at kind end) where
  -- the bytes behind the record
  pub rest_at : drop (length_at (drop at s)) (drop at s) ≡ drop end s
  rest_at = rw (drop-drop, r.ends)

  -- the record's own bytes
  pub body_at : (record_at (drop at s)).body ≡ part (at + 6) end s
  body_at =
      let n : length_at (drop at s) - 6 ≡ end - (at + 6) = omega arith in
      rw (n, drop-drop 6 at s)

  pub cut_at : cut (drop at s) ≡ option_map (λ rs. record { kind = kind; body = part (at + 6) end s } ∷ rs) (cut (drop end s))
  cut_at = rw (cut_step (drop at s) r.is_whole, rest_at, body_at, ← r.has-kind)

-- ---- a list that is cut

-- the records of a sound list that is not empty: the first at the front, and the others behind it
pub cut-some : (s : List ℕ) {r : Rec} {rs : List Rec} → cut s ≡ Some (r ∷ rs)
    → (whole s ≡ true) × (record_at s ≡ r) × (cut (drop (length_at s) s) ≡ Some rs)
cut-some [] e = no (cc cut-none)
cut-some (b ∷ bs) {r} {rs} e =
    by-test (whole (b ∷ bs))
    (λ w. let t = taken (record_at (b ∷ bs)) (cut (drop (length_at (b ∷ bs)) (b ∷ bs))) (sym (cut_step (b ∷ bs) w) ∙ e) in (w, t.0, t.1))
    (λ w. no (cc (cut-damaged (b ∷ bs) (omega arith) w)))
  where
    taken : (q : Rec) (o : Option (List Rec)) → option_map (λ qs. q ∷ qs) o ≡ Some (r ∷ rs) → (q ≡ r) × (o ≡ Some rs)
    taken q None h = no (cc)
    taken q (Some qs) h = (cc, cc)

-- the same at a place
pub record CutAt (s : List ℕ) (at : ℕ) (r : Rec) (rs : List Rec) : Type 0 where
  pub stands : Stands s at r.kind (at + record_length r.body)
  pub body : part (at + 6) (at + record_length r.body) s ≡ r.body
  pub others : cut (drop (at + record_length r.body) s) ≡ Some rs

pub cut-some-at : (s : List ℕ) (at : ℕ) {r : Rec} {rs : List Rec} → cut (drop at s) ≡ Some (r ∷ rs) → CutAt s at r rs
cut-some-at s at {r} {rs} e =
    let c = cut-some (drop at s) e in
    let b = whole-bounds (drop at s) c.0 in
    let n : record_length r.body ≡ length_at (drop at s) = rw (← c.1) (omega (arith, length_part 6 (length_at (drop at s)) (drop at s) b.1)) in
    let l = length-drop at s in
    let h : Stands s at r.kind (at + record_length r.body) =
    record { is_whole = c.0; has-kind = ap (λ (q : Rec). q.kind) (sym c.1); ends = omega arith; head-inside = omega arith; inside = omega arith } in
    record { stands = h; body = sym (body_at h) ∙ ap (λ (q : Rec). q.body) c.1; others = rw (rest_at h) at c.2 }
