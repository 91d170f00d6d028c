-- The bytes of records and of lists of them, one after another, and how long they are. Assumes nothing.
use mathlib.Core.Path.{◌≡◌, refl}
use mathlib.Core.List.{List, [], ◌∷◌, ◌++◌, map}
use Prim.Native.Nat.{ℕ, ◌+◌}
use lib.ListN.{length, length-append}
use Rattle.base.specs.Lists.{joined}
use Rattle.base.proofs.Lists.{joined-append, map-append}
use Rattle.record.specs.Number.{little_endian}
use Rattle.record.specs.Record.{Rec, head_bytes, record_length, record_bytes, list_bytes, list_of}

pub length-head : (size kind : ℕ) → length (head_bytes size kind) ≡ 6
unfolding head_bytes little_endian
length-head size kind = refl

pub length-record : (r : Rec) → length (record_bytes r) ≡ record_length r.body
unfolding record_bytes
length-record r = simp (length-append, length-head)

-- the sum of the records' lengths
unfoldable pub list_length : List Rec → ℕ
list_length [] = 0
list_length (r ∷ rs) = record_length r.body + list_length rs

pub list-cons : (r : Rec) (rs : List Rec) → list_bytes (r ∷ rs) ≡ record_bytes r ++ list_bytes rs
unfolding list_bytes joined
list-cons r rs = refl

pub list-append : (rs ss : List Rec) → list_bytes (rs ++ ss) ≡ list_bytes rs ++ list_bytes ss
unfolding list_bytes
list-append rs ss = rw (map-append record_bytes rs ss) (joined-append (map record_bytes rs) (map record_bytes ss))

pub length-list : (rs : List Rec) → length (list_bytes rs) ≡ list_length rs
unfolding list_bytes joined list_length
length-list [] = refl
length-list (r ∷ rs) = rw (list-cons r rs, length-append, length-record r, length-list rs)

-- ---- records of one kind

-- the records of one kind with these bodies
abbrev pub records_of : ℕ → List (List ℕ) → List Rec
records_of kind bs = map (λ b. record { kind = kind; body = b }) bs

pub list-of-cons : (kind : ℕ) (b : List ℕ) (bs : List (List ℕ)) → list_of kind (b ∷ bs) ≡ record_bytes (record { kind = kind; body = b }) ++ list_of kind bs
unfolding list_of
list-of-cons kind b bs = list-cons (record { kind = kind; body = b }) (records_of kind bs)

pub list-of-append : (kind : ℕ) (bs cs : List (List ℕ)) → list_of kind (bs ++ cs) ≡ list_of kind bs ++ list_of kind cs
unfolding list_of
list-of-append kind bs cs = rw (map-append {B = Rec} (λ b. record { kind = kind; body = b }) bs cs) (list-append (records_of kind bs) (records_of kind cs))
