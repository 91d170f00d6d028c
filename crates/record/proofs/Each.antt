-- What the records of some bytes hold, record by record: what a loop over them goes by. Assumes nothing.
use Rattle.std.specs.Prelude.{Option, Some, None, option_map}
use mathlib.Core.Path.{◌≡◌, refl, sym, ◌∙◌}
use mathlib.Core.Bool.{true, false}
use mathlib.Core.List.{List, [], ◌∷◌}
use Prim.Native.Nat.{ℕ, ◌+◌, ◌≤◌, ◌<◌}
use lib.ListN.{length, drop}
use lib.Seq.{drop-drop}
use Rattle.base.specs.Choice.{maybe, there}
use Rattle.base.specs.Lists.{part}
use Rattle.base.proofs.Scan.{done}
use Rattle.base.proofs.Tests.{no, by-test, there-map}
use Rattle.record.specs.Record.{Rec, length_at, record_at, whole, cut, read_each, read_records}
use Rattle.record.specs.Walk.{read_at}
use Rattle.record.proofs.Place.{Stands}
use Rattle.record.proofs.Cut.{cut-none, cut_step, cut-damaged-at, body_at}

module _ {A : Type 0} (read : Rec → Option A) where
  -- a record before others
  first-none : (r : Rec) (o : Option (List Rec)) → read r ≡ None → maybe (option_map (λ rs. r ∷ rs) o) None (read_each read) ≡ None
  unfolding read_each
  first-none r None h = refl
  first-none r (Some rs) h = rw h

  first_some : (r : Rec) (o : Option (List Rec)) {a : A} → read r ≡ Some a
      → maybe (option_map (λ rs. r ∷ rs) o) None (read_each read) ≡ option_map (λ xs. a ∷ xs) (maybe o None (read_each read))
  unfolding read_each
  first_some r None h = refl
  first_some r (Some rs) h = rw h

  module _ (s : List ℕ) (at : ℕ) where
    -- the records behind the first
    abbrev behind : Option (List Rec)
    behind = cut (drop (length_at (drop at s)) (drop at s))

    -- the end
    pub each-done : length s ≤ at → read_records read (drop at s) ≡ Some []
    unfolding read_records read_each
    each-done h = rw (done s at h, cut-none)

    -- none can be read
    pub each-damaged : at < length s → read_at read s at ≡ None → read_records read (drop at s) ≡ None
    unfolding read_records read_at
    each-damaged h e =
        by-test (whole (drop at s))
        (λ w. rw (cut_step (drop at s) w) (first-none (record_at (drop at s)) behind (rw w at e)))
        (λ w. rw (cut-damaged-at s at h w))

    -- one, and those behind it
    pub each_step : {a : A} → read_at read s at ≡ Some a → read_records read (drop at s) ≡ option_map (λ xs. a ∷ xs) (read_records read (drop (at + length_at (drop at s)) s))
    unfolding read_records read_at
    each_step {a} h =
        by-test (whole (drop at s))
        (λ w. rw (cut_step (drop at s) w, ← drop-drop (length_at (drop at s)) at s) (first_some (record_at (drop at s)) behind (rw w at h)))
        (λ w. let z : None ≡ Some a = rw w at h in no (cc))

    -- what is read at a place: of the record that stands there, or nothing
    pub at_none : whole (drop at s) ≡ false → read_at read s at ≡ None
    unfolding read_at
    at_none e = rw e

    pub at-record : {kind end : ℕ} → Stands s at kind end → read_at read s at ≡ read (record { kind = kind; body = part (at + 6) end s })
    unfolding read_at
    at-record r = rw (r.is_whole, body_at r, ← r.has-kind)

  -- ---- whether every record from a place on can be read

  -- those from another place on decide
  pub record Filling (s : List ℕ) (from at : ℕ) : Type 0 where
    pub same : there (read_records read (drop at s)) ≡ there (read_records read (drop from s))

  pub fill-begin : (s : List ℕ) (from : ℕ) → Filling s from from
  fill-begin s from = record { same = refl }

  module _ {s : List ℕ} {from at : ℕ} (w : Filling s from at) where
    pub fill-damaged : at < length s → read_at read s at ≡ None → false ≡ there (read_records read (drop from s))
    fill-damaged h e = rw (each-damaged s at h e) at w.same

    pub fill-next : {a : A} {end : ℕ} → read_at read s at ≡ Some a → end ≡ at + length_at (drop at s) → Filling s from end
    fill-next {a} {end} h e =
        let z = read_records read (drop end s) in
        record { same = sym (there-map (λ xs. a ∷ xs) z) ∙ rw (each_step s at h, ← e) at w.same }

    pub fill_done : length s ≤ at → true ≡ there (read_records read (drop from s))
    fill_done h = rw (each-done s at h) at w.same
