-- The record of an edit as it is written: its front, and then its new bytes. Assumes nothing.
use mathlib.Core.Path.{◌≡◌, ◌∙◌}
use mathlib.Core.List.{List, ◌++◌, append_assoc}
use Prim.Native.Nat.{ℕ, ◌+◌, ◌≤◌}
use native.Mathlib.Omega.{arith}
use lib.ListN.{length, length-append}
use Rattle.base.specs.Over.{over, at_front}
use Rattle.base.proofs.Tail.{lent, back}
use Rattle.base.proofs.Over.{over-tail, over-then}
use Rattle.record.specs.Number.{little_endian}
use Rattle.record.specs.Record.{head_bytes, record_bytes}
use Rattle.record.proofs.Numbers.{length-number}
use Rattle.record.proofs.Sizes.{length-head}
use Rattle.splice.specs.Edit.{Edit}
use Rattle.journal.specs.Journal.{Author, Authored, kind_of, author_bytes, edit_bytes, edit_record, front_length}
use Rattle.journal.specs.Walk.{edit_front}
use Rattle.journal.proofs.Records.{front_length_lem, record-length-is}

-- a record is its front and its new bytes
pub record-front : (e : Authored Edit) → record_bytes (edit_record e) ≡ edit_front e.author e.what.place e.what.old (length e.what.new) ++ e.what.new
unfolding record_bytes edit_record edit_bytes edit_front
record-front e = rw (record-length-is e) (simp append_assoc)

-- the parts of the front, written one after another
pub front-written : (out : List ℕ) (at : ℕ) (author : Author) (place : ℕ) (old : List ℕ) (new : ℕ) → at + (front_length author + length old + new) ≤ length out
    → {b c d : ℕ} → b ≡ at + 6 + length (author_bytes author) → c ≡ b + 4 → d ≡ c + 4
    → over (over (over (over (over out at (head_bytes (front_length author + length old + new) (kind_of author) ++ author_bytes author)) b (little_endian 4 place)) c (little_endian 4 (length old))) d (little_endian 4 new)) (at + front_length author) old
    ≡ over out at (edit_front author place old new)
unfolding edit_front
front-written out at author place old new h {b} {c} {d} eb ec ed =
    let head : List ℕ = head_bytes (front_length author + length old + new) (kind_of author) in
    let who : List ℕ = author_bytes author in
    let x : List ℕ = little_endian 4 place in
    let z : List ℕ = little_endian 4 (length old) in
    let w : List ℕ = little_endian 4 new in
    let f = front_length_lem author in
    let l : length head ≡ 6 = length-head (front_length author + length old + new) (kind_of author) in
    let la : length (head ++ who) ≡ 6 + length who = simp (length-append, l) in
    let lb : length ((head ++ who) ++ x) ≡ 10 + length who = simp (length-append, l, length-number) (omega arith) in
    let lc : length (((head ++ who) ++ x) ++ z) ≡ 14 + length who = simp (length-append, l, length-number) (omega arith) in
    let ld : length ((((head ++ who) ++ x) ++ z) ++ w) ≡ 18 + length who = simp (length-append, l, length-number) (omega arith) in
    rw (
      over-then out at (head ++ who) x {n = b} (omega arith) (omega arith),
      over-then out at ((head ++ who) ++ x) z {n = c} (omega arith) (omega arith),
      over-then out at (((head ++ who) ++ x) ++ z) w {n = d} (omega arith) (omega arith),
      over-then out at ((((head ++ who) ++ x) ++ z) ++ w) old {n = at + front_length author} (omega arith) (omega arith),
    )
    (simp append_assoc)

-- a head at the front of a tail, and then a person at the front of the tail behind it
pub person-written : (out Y Z : List ℕ) (at size person : ℕ) → at + 8 ≤ length out → Y ≡ at_front (lent at out) (head_bytes size 4)
    → Z ≡ at_front (lent (at + 6) (back at out Y)) (little_endian 2 person)
    → back (at + 6) (back at out Y) Z ≡ over out at (head_bytes size 4 ++ little_endian 2 person)
person-written out Y Z at size person h y z =
    let l = length-head size 4 in
    over-tail (back at out Y) (at + 6) (little_endian 2 person) z
    ∙ rw (over-tail out at (head_bytes size 4) y) (over-then out at (head_bytes size 4) (little_endian 2 person) {n = at + 6} (omega arith) (omega arith))
