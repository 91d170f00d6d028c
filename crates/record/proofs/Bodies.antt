-- The bodies of a list of records of one kind, record by record; how a loop counts them; what a sound list holds. Assumes nothing.
use Rattle.std.specs.Prelude.{Option, Some, None, option_map}
use mathlib.Core.Path.{◌≡◌, refl, ap, ◌∙◌}
use mathlib.Core.Bool.{Bool, true, false}
use mathlib.Core.List.{List, [], ◌∷◌, map}
use Prim.Native.Nat.{ℕ, ◌+◌, ◌≤◌, ◌<◌}
use native.Mathlib.Omega.{arith}
use borrow.Author.Tests.{le-leb, lt-leb, leb-true, eq-eqb, ne_eqb}
use lib.ListN.{length, drop, length-drop}
use lib.Dec.{eqb, leb}
use Rattle.base.specs.Choice.{pick, maybe, there}
use Rattle.base.specs.Lists.{part, all}
use Rattle.base.proofs.Scan.{done}
use Rattle.base.proofs.Tests.{no}
use Rattle.record.specs.Record.{Rec, list_of, length_at, record_at, whole, cut, bodies_of, read_list}
use Rattle.record.specs.Walk.{count_of}
use Rattle.record.proofs.Place.{Stands}
use Rattle.record.proofs.Cut.{cut-none, cut_step, cut-damaged, cut_at}
use Rattle.record.proofs.Sizes.{records_of}
use Rattle.record.proofs.Back.{FitsAll, cut-back}

-- the bodies of records of one kind that fill the bytes; none: damaged
unfoldable pub bodies : ℕ → List ℕ → Option (List (List ℕ))
bodies kind s = maybe (cut s) None (bodies_of kind)

-- ---- record by record

module _ (kind : ℕ) where
  pub bodies-none : bodies kind [] ≡ Some []
  unfolding bodies bodies_of all
  bodies-none = rw cut-none

  -- a record of another kind, and one of this kind, before others
  other-first : (r : Rec) (o : Option (List Rec)) → (r.kind ≡ kind → ⊥) → maybe (option_map (λ rs. r ∷ rs) o) None (bodies_of kind) ≡ None
  unfolding bodies_of all
  other-first r None n = refl
  other-first r (Some rs) n = rw (ne_eqb _ _ n)

  this-first : (r : Rec) (o : Option (List Rec)) → r.kind ≡ kind
      → maybe (option_map (λ rs. r ∷ rs) o) None (bodies_of kind) ≡ option_map (λ bs. r.body ∷ bs) (maybe o None (bodies_of kind))
  unfolding bodies_of all
  this-first r None e = refl
  this-first r (Some rs) e = rw (eq-eqb _ _ e) (by_all (all (λ q. eqb q.kind kind) rs))
    where
      by_all : (t : Bool) → pick t (Some (r.body ∷ map (λ q. q.body) rs)) None ≡ option_map (λ bs. r.body ∷ bs) (pick t (Some (map (λ q. q.body) rs)) None)
      by_all true = refl
      by_all false = refl

  module _ (s : List ℕ) where
    pub bodies-damaged : 0 < length s → whole s ≡ false → bodies kind s ≡ None
    unfolding bodies
    bodies-damaged h e = rw (cut-damaged s h e)

    pub bodies-other : whole s ≡ true → ((record_at s).kind ≡ kind → ⊥) → bodies kind s ≡ None
    unfolding bodies
    bodies-other w n = rw (cut_step s w) (other-first (record_at s) (cut (drop (length_at s) s)) n)

    pub bodies-step : whole s ≡ true → (record_at s).kind ≡ kind → bodies kind s ≡ option_map (λ bs. (record_at s).body ∷ bs) (bodies kind (drop (length_at s) s))
    unfolding bodies
    bodies-step w e = rw (cut_step s w) (this-first (record_at s) (cut (drop (length_at s) s)) e)

  -- the same at a place
  pub bodies-done : (s : List ℕ) (at : ℕ) → length s ≤ at → bodies kind (drop at s) ≡ Some []
  bodies-done s at h = rw (done s at h) bodies-none

  pub bodies-damaged-at : (s : List ℕ) (at : ℕ) → at < length s → whole (drop at s) ≡ false → bodies kind (drop at s) ≡ None
  bodies-damaged-at s at h e = bodies-damaged (drop at s) (simp length-drop (omega arith)) e

  module _ {s : List ℕ} {at k end : ℕ} (r : Stands s at k end) where
    pub bodies-other-at : (k ≡ kind → ⊥) → bodies kind (drop at s) ≡ None
    bodies-other-at n = bodies-other (drop at s) r.is_whole (λ e. n (r.has-kind ∙ e))

    pub bodies-at : k ≡ kind → bodies kind (drop at s) ≡ option_map (λ bs. part (at + 6) end s ∷ bs) (bodies kind (drop end s))
    unfolding bodies
    bodies-at e = rw (cut_at r) (this-first _ (cut (drop end s)) e)

-- ---- within a number of bytes

pub list-long : (kind most : ℕ) (s : List ℕ) → most < length s → read_list kind most s ≡ None
unfolding read_list
list-long kind most s h = rw (lt-leb _ _ h)

pub list-within : (kind most : ℕ) (s : List ℕ) → length s ≤ most → read_list kind most s ≡ bodies kind s
unfolding read_list bodies
list-within kind most s h = rw (le-leb _ _ h)

-- ---- counted by a loop

-- so many, and those that a list's bodies are
abbrev counted : ℕ → Option (List (List ℕ)) → Option ℕ
counted n o = option_map (λ bs. n + length bs) o

counted_next : (n : ℕ) (b : List ℕ) (o : Option (List (List ℕ))) → counted n (option_map (λ bs. b ∷ bs) o) ≡ counted (n + 1) o
counted_next n b None = refl
counted_next n b (Some bs) = ap Some (omega arith)

-- so many records stand before a place, and those from there on decide
pub record Counting (kind most : ℕ) (s : List ℕ) (at n : ℕ) : Type 0 where
  pub inside : at ≤ length s
  pub few : n ≤ at
  pub same : count_of kind most s ≡ counted n (bodies kind (drop at s))

pub count_long : (kind most : ℕ) (s : List ℕ) → most < length s → None ≡ count_of kind most s
unfolding count_of
count_long kind most s h = rw (list-long kind most s h)

pub count-begin : (kind most : ℕ) (s : List ℕ) → length s ≤ most → Counting kind most s 0 0
unfolding count_of
count-begin kind most s h = record { inside = omega arith; few = omega arith; same = rw (list-within kind most s h) (go (bodies kind s)) }
  where
    go : (o : Option (List (List ℕ))) → option_map length o ≡ counted 0 o
    go None = refl
    go (Some bs) = ap Some (omega arith)

module _ {kind most : ℕ} {s : List ℕ} {at n : ℕ} (w : Counting kind most s at n) where
  pub count-damaged : at < length s → whole (drop at s) ≡ false → None ≡ count_of kind most s
  count-damaged h e = rw (w.same, bodies-damaged-at kind s at h e)

  pub count-other : {k end : ℕ} → Stands s at k end → (k ≡ kind → ⊥) → None ≡ count_of kind most s
  count-other r e = rw (w.same, bodies-other-at kind r e)

  pub count_next : {k end : ℕ} → Stands s at k end → k ≡ kind → Counting kind most s end (n + 1)
  count_next {end = end} r e =
      record {
        inside = r.inside;
        few = omega arith;
        same = w.same ∙ rw (bodies-at kind r e) (counted_next n (part (at + 6) end s) (bodies kind (drop end s)));
      }

  pub count-done : length s ≤ at → Some n ≡ count_of kind most s
  count-done h = rw (w.same, bodies-done kind s at h) (ap Some (omega arith))

-- ---- a sound list

-- the records' bodies
abbrev pub bodies_in : List Rec → List (List ℕ)
bodies_in rs = map (λ r. r.body) rs

-- what a list that reads holds
pub record Sound (kind most : ℕ) (s : List ℕ) (bs : List (List ℕ)) : Type 0 where
  pub records : List Rec
  pub cuts : cut s ≡ Some records
  pub bodies_are : bs ≡ bodies_in records
  pub one-kind : all (λ r. eqb r.kind kind) records ≡ true
  pub short : length s ≤ most

pub list-sound : (kind most : ℕ) (s : List ℕ) {bs : List (List ℕ)} → read_list kind most s ≡ Some bs → Sound kind most s bs
unfolding read_list bodies_of
list-sound kind most s {bs} = go (leb (length s) most) (cut s) refl refl
  where
    go : (t : Bool) (o : Option (List Rec)) → leb (length s) most ≡ t → cut s ≡ o → pick t (maybe o None (bodies_of kind)) None ≡ Some bs → Sound kind most s bs
    go false o l e h = no (cc)
    go true None l e h = no (cc)
    go true (Some rs) l e h = by_kind (all (λ r. eqb r.kind kind) rs) refl h
      where
        by_kind : (t : Bool) → all (λ r. eqb r.kind kind) rs ≡ t → pick t (Some (bodies_in rs)) None ≡ Some bs → Sound kind most s bs
        by_kind true a h = record { records = rs; cuts = e; bodies_are = cc; one-kind = a; short = leb-true _ _ l }
        by_kind false a h = no (cc)

pub list-cut : (kind most : ℕ) (s : List ℕ) {bs : List (List ℕ)} → read_list kind most s ≡ Some bs → there (cut s) ≡ true
list-cut kind most s e = rw (list-sound kind most s e).cuts

-- what `count` answers: the list reads, and has so many bodies; or it does not read
pub count-reads : (kind most : ℕ) (s : List ℕ) {n : ℕ} → count_of kind most s ≡ Some n → (bs : List (List ℕ)) × (read_list kind most s ≡ Some bs) × (length bs ≡ n)
unfolding count_of
count-reads kind most s {n} = go (read_list kind most s)
  where
    go : (o : Option (List (List ℕ))) → option_map length o ≡ Some n → (bs : List (List ℕ)) × (o ≡ Some bs) × (length bs ≡ n)
    go None e = no (cc)
    go (Some bs) e = (bs, refl, cc)

pub count-refuses : (kind most : ℕ) (s : List ℕ) → count_of kind most s ≡ None → read_list kind most s ≡ None
unfolding count_of
count-refuses kind most s = go (read_list kind most s)
  where
    go : (o : Option (List (List ℕ))) → option_map length o ≡ None → o ≡ None
    go None e = refl
    go (Some bs) e = no (cc)

-- ---- written bodies read back

one-kind-all : (kind : ℕ) (bs : List (List ℕ)) → all (λ r. eqb r.kind kind) (records_of kind bs) ≡ true
unfolding all
one-kind-all kind [] = refl
one-kind-all kind (b ∷ bs) = rw (eq-eqb kind kind refl, one-kind-all kind bs)

bodies-back : (kind : ℕ) (bs : List (List ℕ)) → bodies_in (records_of kind bs) ≡ bs
bodies-back kind [] = refl
bodies-back kind (b ∷ bs) = rw (bodies-back kind bs)

pub list_back : (kind most : ℕ) (bs : List (List ℕ)) → FitsAll (records_of kind bs) → length (list_of kind bs) ≤ most → read_list kind most (list_of kind bs) ≡ Some bs
unfolding list_of bodies bodies_of
list_back kind most bs f h = rw (list-within kind most (list_of kind bs) h, cut-back f, one-kind-all kind bs, bodies-back kind bs)
