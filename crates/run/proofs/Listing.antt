-- The lengths of lists of records, by the bodies and by the bytes. Assumes nothing.
use Rattle.std.specs.Prelude.{Option, Some, None, option_map}
use mathlib.Core.Path.{◌≡◌, refl, ap}
use Prim.Native.Nat.{ℕ, ◌+◌, ◌-◌, ◌≤◌}
use native.Mathlib.Omega.{arith}
use mathlib.Core.Bool.{Bool, true, false}
use mathlib.Core.List.{List, [], ◌∷◌}
use lib.ListN.{length, drop, length-append, length-drop}
use Rattle.base.specs.Bounds.{list_most}
use Rattle.base.specs.Choice.{pick, maybe, there}
use Rattle.base.specs.Lists.{joined}
use Rattle.base.proofs.Tests.{no}
use Rattle.record.specs.Record.{Rec, record_length, list_bytes, list_of, length_at, record_at, whole, cut, cut_after, read_list}
use Rattle.record.proofs.Sizes.{list_length, length-record, length-list, records_of, list-of-cons}
use Rattle.record.proofs.Cut.{cut-some-at}
use Rattle.record.proofs.Bodies.{bodies_in, list-sound}
use Rattle.run.specs.Step.{items_in}

-- ---- by the bodies

pub list-none : (kind : ℕ) → list_of kind [] ≡ []
unfolding list_of list_bytes joined
list-none kind = refl

pub length-cons : (kind : ℕ) (b : List ℕ) (bs : List (List ℕ)) → length (list_of kind (b ∷ bs)) ≡ 6 + length b + length (list_of kind bs)
length-cons kind b bs = rw (list-of-cons kind b bs, length-append, length-record (record { kind = kind; body = b }))

pub length-one : (kind : ℕ) (b : List ℕ) → length (list_of kind (b ∷ [])) ≡ 6 + length b
length-one kind b = rw (length-cons kind b [], list-none kind) (omega arith)

-- ---- by the bytes

cut-empty : (s : List ℕ) → cut s ≡ Some [] → s ≡ []
unfolding cut_after
cut-empty [] e = refl
cut-empty (b ∷ s) e = go (whole (b ∷ s)) (cut_after s (length_at (b ∷ s) - 1)) e
  where
    go : (t : Bool) (o : Option (List Rec)) → pick t (option_map (λ rs. record_at (b ∷ s) ∷ rs) o) None ≡ Some [] → b ∷ s ≡ []
    go false o e = no (cc)
    go true None e = no (cc)
    go true (Some rs) e = no (cc)

cut-length : (s : List ℕ) (at : ℕ) (rs : List Rec) → at ≤ length s → cut (drop at s) ≡ Some rs → length s ≡ at + list_length rs
unfolding list_length
cut-length s at [] h e = omega (arith, ap length (cut-empty (drop at s) e), length-drop at s)
cut-length s at (r ∷ rs) h e =
    let c = cut-some-at s at e in
    omega (arith, cut-length s (at + record_length r.body) rs c.stands.inside c.others)

-- records with the same bodies are as long, whatever their kind
other-kind : (kind : ℕ) (rs : List Rec) → list_length (records_of kind (bodies_in rs)) ≡ list_length rs
unfolding list_length
other-kind kind [] = refl
other-kind kind (r ∷ rs) = ap (λ (n : ℕ). record_length r.body + n) (other-kind kind rs)

-- the items of a sound list, as records of any kind, are as long as the list
pub items-length : (kind : ℕ) (list : List ℕ) → there (read_list 2 list_most list) ≡ true → length (list_of kind (items_in list)) ≡ length list
unfolding list_of
items-length kind list = go (read_list 2 list_most list) refl
  where
    go : (o : Option (List (List ℕ))) → read_list 2 list_most list ≡ o → there o ≡ true → length (list_of kind (maybe o [] (λ items. items))) ≡ length list
    go None e h = no (cc)
    go (Some bs) e h =
        let l = list-sound 2 list_most list e in
        rw (l.bodies_are, length-list (records_of kind (bodies_in l.records)), other-kind kind l.records) (omega (arith, cut-length list 0 l.records (omega arith) l.cuts))
