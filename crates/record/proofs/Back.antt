-- What is written is read back: a record, a list of records; and a list's bytes have no other reading. Assumes nothing.
use Rattle.std.specs.Prelude.{Some, option_map}
use mathlib.Core.Path.{◌≡◌, ◌∙◌}
use mathlib.Core.Bool.{true}
use mathlib.Core.List.{List, [], ◌∷◌, ◌++◌}
use Prim.Native.Nat.{ℕ, suc, ◌+◌, ◌-◌, ◌<◌}
use native.Mathlib.Omega.{arith}
use lib.ListN.{length, drop, length-append}
use lib.Seq.{take-append_seam, drop-append_seam}
use Rattle.base.specs.Lists.{part, joined}
use Rattle.record.specs.Number.{little_endian, number_in}
use Rattle.record.specs.Record.{Rec, head_bytes, record_length, record_bytes, list_bytes, length_at, record_at, whole, cut}
use Rattle.record.proofs.Numbers.{FitsBytes, number-back, fits-two, fits-four}
use Rattle.record.proofs.Place.{whole-if}
use Rattle.record.proofs.Cut.{cut-none, cut_step}
use Rattle.record.proofs.Sizes.{length-record}

-- a record that fits its head: length in 4 bytes, kind in 2
pub record Fits (r : Rec) : Type 0 where
  pub length-fits : FitsBytes 4 (record_length r.body)
  pub kind_fits : FitsBytes 2 r.kind

pub fits : (r : Rec) → record_length r.body < 4294967296 → r.kind < 65536 → Fits r
fits r h k = record { length-fits = fits-four (record_length r.body) h; kind_fits = fits-two r.kind k }

module _ (r : Rec) (s : List ℕ) where
  record-drop : (n : ℕ) → drop (6 + n) (record_bytes r ++ s) ≡ drop n (r.body ++ s)
  unfolding record_bytes head_bytes little_endian
  record-drop n = let k : 6 + n ≡ suc (suc (suc (suc (suc (suc n))))) = omega arith in rw k

  module _ (h : Fits r) where
    pub record-length : length_at (record_bytes r ++ s) ≡ record_length r.body
    unfolding record_bytes head_bytes little_endian
    record-length = number-back 4 (record_length r.body) h.length-fits

    record-kind : number_in (part 4 6 (record_bytes r ++ s)) ≡ r.kind
    unfolding record_bytes head_bytes little_endian
    record-kind = number-back 2 r.kind h.kind_fits

    record-body : part 6 (length_at (record_bytes r ++ s)) (record_bytes r ++ s) ≡ r.body
    record-body =
        let k : record_length r.body - 6 ≡ length r.body = omega arith in
        rw (record-length, k, record-drop 0) (take-append_seam r.body s)

    -- the record at the front of its own bytes
    pub record-at : record_at (record_bytes r ++ s) ≡ r
    record-at = λ i. record { kind = record-kind i; body = record-body i }

    pub record-whole : whole (record_bytes r ++ s) ≡ true
    record-whole =
        let e = length-append (record_bytes r) s in
        let n = length-record r in
        let l = record-length in
        whole-if (record_bytes r ++ s) (omega arith) (omega arith) (omega arith)

    -- a record before others is cut off
    pub cut_record : cut (record_bytes r ++ s) ≡ option_map (λ rs. r ∷ rs) (cut s)
    cut_record =
        cut_step (record_bytes r ++ s) record-whole
        ∙ rw (record-at, record-length, record-drop (length r.body), drop-append_seam r.body s)

-- every record fits its head
pub data FitsAll : List Rec → Type 0 where
  no_record : FitsAll []
  one_more : {r : Rec} {rs : List Rec} → Fits r → FitsAll rs → FitsAll (r ∷ rs)

-- a list of records reads back, whatever the kinds
pub cut-back : {rs : List Rec} → FitsAll rs → cut (list_bytes rs) ≡ Some rs
unfolding list_bytes joined
cut-back no_record = cut-none
cut-back (one_more {r = r} {rs = rs} h hs) = rw (cut_record r (list_bytes rs) h, cut-back hs)
