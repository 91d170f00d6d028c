-- The journal: edits as records, those that stand and those that were undone (01, "Edits and the journal"; 02, A9 and A10). Assumes nothing.
use Rattle.std.specs.Prelude.{ℕ, ◌+◌, ◌-◌, length, take, drop, eqb, leb, Option, Some, None, option_map}
use mathlib.Core.List.{List, [], ◌∷◌, ◌++◌, reverse_aux}
use Rattle.base.specs.Choice.{pick, maybe}
use Rattle.base.specs.Lists.{part}
use Rattle.record.specs.Number.{little_endian, number_in}
use Rattle.record.specs.Record.{Rec, read_records}
use Rattle.splice.specs.Edit.{Edit}

-- ---- who made an edit

-- no person, as in 01's records, of kind 1; or a person, in records of kind 4
pub data Author : Type 0 where
  NoPerson : Author
  Person : ℕ → Author

-- an edit, or a request for one, and who made it
pub record Authored (A : Type 0) : Type 0 where
  pub author : Author
  pub what : A

-- with its author
abbrev pub by : {A : Type 0} → Author → A → Authored A
by author a = record { author = author; what = a }

-- the number told of an author: 0 where the record has no person
abbrev pub person_of : Author → ℕ
person_of NoPerson = 0
person_of (Person n) = n

-- ---- records

-- the kind of an author's records
abbrev pub kind_of : Author → ℕ
kind_of NoPerson = 1
kind_of (Person n) = 4

-- the bytes that name the author: two of a person
abbrev pub author_bytes : Author → List ℕ
author_bytes NoPerson = []
author_bytes (Person n) = little_endian 2 n

-- an edit's bytes: place, old length, new length, old bytes, new bytes
unfoldable pub edit_bytes : Edit → List ℕ
edit_bytes e = little_endian 4 e.place ++ (little_endian 4 (length e.old) ++ (little_endian 4 (length e.new) ++ (e.old ++ e.new)))

-- an edit as a record: the person between kind and place
unfoldable pub edit_record : Authored Edit → Rec
edit_record e = record { kind = kind_of e.author; body = author_bytes e.author ++ edit_bytes e.what }

-- the bytes of a record before the old ones: 18, and 20 with a person
abbrev pub front_length : Author → ℕ
front_length NoPerson = 18
front_length (Person n) = 20

-- a record's length: these plus both lengths
abbrev pub edit_length : Authored Edit → ℕ
edit_length e = front_length e.author + length e.what.old + length e.what.new

-- the sum of some records' lengths
abbrev pub lengths : List (Authored Edit) → ℕ
lengths [] = 0
lengths (e ∷ es) = lengths es + edit_length e

-- the edit in the bytes behind kind and author: 12 of numbers, so 18 of the record, or 20, plus both lengths; none: another length
unfoldable pub edit_in : List ℕ → Option Edit
edit_in s =
    let old : ℕ = number_in (part 4 8 s) in
    let new : ℕ = number_in (part 8 12 s) in
    pick (eqb (length s) (12 + old + new)) (Some (record { place = number_in (take 4 s); old = part 12 (12 + old) s; new = drop (12 + old) s })) None

-- the edit that a record holds, and its author; none: another kind, or another length
unfoldable pub read_edit : Rec → Option (Authored Edit)
read_edit r =
    pick (eqb r.kind 1) (option_map (by NoPerson) (edit_in r.body))
    (pick (eqb r.kind 4) (option_map (by (Person (number_in (take 2 r.body)))) (edit_in (drop 2 r.body))) None)

-- a journal's edits: those standing, the latest first, and those undone, which wait, the next first
pub record Journal : Type 0 where
  pub stand : List (Authored Edit)
  pub wait : List (Authored Edit)

-- all of them, from the first on
abbrev pub in_order : Journal → List (Authored Edit)
in_order j = reverse_aux j.stand j.wait

-- Edits that follow those standing, of which so many bytes of records stand too; none: that is no record boundary.
unfoldable pub parted_at : ℕ → List (Authored Edit) → List (Authored Edit) → Option Journal
parted_at n stand [] = pick (eqb n 0) (Some (record { stand = stand; wait = [] })) None
parted_at n stand (e ∷ es) =
    let further : Option Journal = parted_at (n - edit_length e) (e ∷ stand) es in
    pick (eqb n 0) (Some (record { stand = stand; wait = e ∷ es })) (pick (leb (edit_length e) n) further None)

-- the journal in the used bytes; none: damaged
unfoldable pub read_journal : List ℕ → ℕ → Option Journal
read_journal used standing = maybe (read_records read_edit used) None (parted_at standing [])

-- the first of some edits
abbrev pub next_of : List (Authored Edit) → Option (Authored Edit)
next_of [] = None
next_of (e ∷ es) = Some e

-- the oldest k of edits, or requests, of which the latest comes first
abbrev pub oldest : {A : Type 0} → ℕ → List A → List A
oldest k stand = drop (length stand - k) stand

-- all but these
abbrev pub newer : {A : Type 0} → ℕ → List A → List A
newer k stand = take (length stand - k) stand
