-- Records of any kind and lists of them: the length of the whole record (4 bytes), the kind (2), then the record's own bytes, its body.
-- Assumes nothing.
use Rattle.std.specs.Prelude.{ℕ, zero, suc, ◌+◌, ◌-◌, Bool, ◌&&◌, List, [], ◌∷◌, ◌++◌, map, length, take, eqb, leb, Option, Some, None, option_map}
use Rattle.base.specs.Choice.{pick, maybe}
use Rattle.base.specs.Lists.{part, all, joined}
use Rattle.record.specs.Number.{little_endian, number_in}

-- a record's kind and body
pub record Rec : Type 0 where
  pub kind : ℕ
  pub body : List ℕ

-- the bytes of length and kind
abbrev pub head_length : ℕ
head_length = 6

-- the length of a record with this body
abbrev pub record_length : List ℕ → ℕ
record_length body = head_length + length body

-- the length in 4 bytes, the kind in 2
unfoldable pub head_bytes : ℕ → ℕ → List ℕ
head_bytes size kind = little_endian 4 size ++ little_endian 2 kind

-- a record's bytes
unfoldable pub record_bytes : Rec → List ℕ
record_bytes r = head_bytes (record_length r.body) r.kind ++ r.body

-- a list's bytes: its records one after another
unfoldable pub list_bytes : List Rec → List ℕ
list_bytes rs = joined (map record_bytes rs)

-- the bytes of the records of one kind with these bodies
unfoldable pub list_of : ℕ → List (List ℕ) → List ℕ
list_of kind bodies = list_bytes (map (λ b. record { kind = kind; body = b }) bodies)

-- the first record's length
abbrev pub length_at : List ℕ → ℕ
length_at s = number_in (take 4 s)

-- the first record
abbrev pub record_at : List ℕ → Rec
record_at s = record { kind = number_in (part 4 6 s); body = part head_length (length_at s) s }

-- a whole record stands at the front
unfoldable pub whole : List ℕ → Bool
whole s = leb head_length (length s) && leb head_length (length_at s) && leb (length_at s) (length s)

-- The records that fill the bytes exactly, after so many bytes that belong to a record read before; none: damaged.
unfoldable pub cut_after : List ℕ → ℕ → Option (List Rec)
cut_after [] zero = Some []
cut_after [] (suc n) = None
cut_after (b ∷ bs) (suc n) = cut_after bs n
cut_after (b ∷ bs) zero =
    let later : Option (List Rec) = option_map (λ rs. record_at (b ∷ bs) ∷ rs) (cut_after bs (length_at (b ∷ bs) - 1)) in
    pick (whole (b ∷ bs)) later None

-- the records of a whole list of bytes; none: damaged
abbrev pub cut : List ℕ → Option (List Rec)
cut s = cut_after s 0

-- the bodies of records that all have one kind; none: damaged
unfoldable pub bodies_of : ℕ → List Rec → Option (List (List ℕ))
bodies_of kind rs = pick (all (λ r. eqb r.kind kind) rs) (Some (map (λ r. r.body) rs)) None

-- a lent list of records of one kind and at most so many bytes: its bodies; none: damaged
unfoldable pub read_list : ℕ → ℕ → List ℕ → Option (List (List ℕ))
read_list kind most s = pick (leb (length s) most) (maybe (cut s) None (bodies_of kind)) None

-- what each of some records holds; none: one cannot be read
unfoldable pub read_each : {A : Type 0} → (Rec → Option A) → List Rec → Option (List A)
read_each read [] = Some []
read_each read (r ∷ rs) = maybe (read r) None (λ a. option_map (λ xs. a ∷ xs) (read_each read rs))

-- the same of the records that fill the bytes; none: damaged
unfoldable pub read_records : {A : Type 0} → (Rec → Option A) → List ℕ → Option (List A)
read_records read s = maybe (cut s) None (read_each read)
