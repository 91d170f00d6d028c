-- Which byte may follow three others in the UTF-8 of a value: what the fast way through it asks. Assumes nothing.
use Rattle.std.specs.Prelude.{◌≡◌, ℕ, ◌+◌, ◌-◌, ◌≤◌, ◌<◌, Bool, true, false, not, ◌&&◌, ◌||◌, List, length, get_or, eqb, leb, ltb}

-- the three bytes before, the nearest last, ask for a further byte of their character
abbrev pub due_after : ℕ → ℕ → ℕ → Bool
due_after r q p = leb 0xc2 p || leb 0xe0 q || leb 0xf0 r

-- a byte from 0x80 to 0xBF, and in the narrower range after some first bytes
abbrev pub goes_on : ℕ → ℕ → Bool
goes_on p b =
    leb 0x80 b && leb b 0xbf
    && not (eqb p 0xe0 && ltb b 0xa0)
    && not (eqb p 0xed && ltb 0x9f b)
    && not (eqb p 0xf0 && ltb b 0x90)
    && not (eqb p 0xf4 && ltb 0x8f b)

-- an ASCII byte of a value, or the first byte of a longer character
abbrev pub begins_one : ℕ → Bool
begins_one b = leb 0x20 b && not (eqb b 0x7f) && (ltb b 0x80 || leb 0xc2 b) && leb b 0xf4

-- the byte may stand there
abbrev pub followed : ℕ → ℕ → ℕ → ℕ → Bool
followed r q p b = (due_after r q p && goes_on p b) || (not (due_after r q p) && begins_one b)

-- the fourth byte from a place on may follow the three before it
abbrev pub followed_at : List ℕ → ℕ → Bool
followed_at s i = followed (get_or s i 0) (get_or s (i + 1) 0) (get_or s (i + 2) 0) (get_or s (i + 3) 0)

-- the same at each place from one up to another
abbrev pub FollowedTo : List ℕ → ℕ → ℕ → Type 0
FollowedTo s from to = (i : ℕ) → from ≤ i → i < to → followed_at s i ≡ true

-- each byte behind the three at a place may follow, and nothing is due after the last
pub record SoundFrom (s : List ℕ) (at : ℕ) : Type 0 where
  pub all_follow : FollowedTo s at (length s - 3)
  pub none_due : due_after (get_or s (length s - 3) 0) (get_or s (length s - 2) 0) (get_or s (length s - 1) 0) ≡ false
