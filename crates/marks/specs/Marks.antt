-- A table of marks for names. A mark says "perhaps there", no mark says "surely not there". Nothing is asked of the hash but that it is a function.
-- Assumes nothing.
use Rattle.std.specs.Prelude.{ℕ, ◌+◌, ◌-◌, ◌*◌, ◌/◌, ◌%◌, ◌^◌, Bool, ◌&&◌, List, [], ◌∷◌, eqb, length, get_or, set}
use Rattle.std.specs.Int.Bits.{bit_and, bit_or, bit_xor}

-- a hash and a number of 32 bits more, by a multiplier
abbrev pub hash_step : ℕ → ℕ → ℕ → ℕ
hash_step k h w = bit_xor ((h % 4294967296 + w) % 4294967296 * k) (h / 4294967296)

-- the same for the bytes of a name
abbrev pub hash_word : ℕ → ℕ → ℕ
hash_word h w = hash_step 2654435769 h w

-- four bytes from a place on, as a number; 0 for those past the end
abbrev pub word_at : List ℕ → ℕ → ℕ
word_at x i = get_or x i 0 + 256 * (get_or x (i + 1) 0 + 256 * (get_or x (i + 2) 0 + 256 * get_or x (i + 3) 0))

-- The hash of bytes that follow others with the hash h: four at a time, and at the end a last word, for those that are left.
unfoldable pub hash_from : ℕ → List ℕ → ℕ → ℕ
hash_from last [] h = hash_word h last
hash_from last (a ∷ []) h = hash_word h last
hash_from last (a ∷ b ∷ []) h = hash_word h last
hash_from last (a ∷ b ∷ c ∷ []) h = hash_word h last
hash_from last (a ∷ b ∷ c ∷ d ∷ s) h = hash_from last s (hash_word h (a + 256 * (b + 256 * (c + 256 * d))))

-- the hash of a name; its last word is its last four bytes, some of them perhaps once more
unfoldable pub name_hash : List ℕ → ℕ
name_hash x = hash_from (word_at x (length x - 4)) x 2166136261

-- the hash of a name under a number
unfoldable pub hash_of : ℕ → List ℕ → ℕ
hash_of tag x = hash_step 2246822519 (name_hash x) (tag % 65536)

-- a second hash, from the first
abbrev pub rehash : ℕ → ℕ
rehash h = (h / 4294967296 + h % 4294967296) % 4294967296 * 3266489917

-- the word of a hash, in a table of n words
abbrev pub word_of : ℕ → ℕ → ℕ
word_of n h = bit_and (h / 281474976710656) (n - 1)

-- one bit of 64
abbrev pub bit : ℕ → ℕ
bit k = 1 * 2 ^ (k % 64) % 18446744073709551616

-- three bits of a hash
abbrev pub bits_of : ℕ → ℕ
bits_of h = bit_or (bit_or (bit (h / 4398046511104)) (bit (h / 68719476736))) (bit (h / 1073741824))

-- the table has the bits of a hash in its word
unfoldable pub has_bits : List ℕ → ℕ → Bool
has_bits m h = eqb (bit_and (get_or m (word_of (length m) h) 0) (bits_of h)) (bits_of h)

-- the table with these bits
unfoldable pub with_bits : List ℕ → ℕ → List ℕ
with_bits m h = set m (word_of (length m) h) (bit_or (get_or m (word_of (length m) h) 0) (bits_of h))

-- the table has a name's mark under a number: the bits of both hashes
unfoldable pub marked : List ℕ → ℕ → List ℕ → Bool
marked m tag x = has_bits m (hash_of tag x) && has_bits m (rehash (hash_of tag x))

-- the table with that mark
unfoldable pub with_mark : List ℕ → ℕ → List ℕ → List ℕ
with_mark m tag x = with_bits (with_bits m (hash_of tag x)) (rehash (hash_of tag x))
