-- Parts of parts. Assumes nothing.
use mathlib.Core.Path.{◌≡◌}
use mathlib.Core.List.{List, [], ◌∷◌}
use Prim.Native.Nat.{ℕ, zero, suc, ◌+◌, ◌-◌, ◌≤◌}
use native.Mathlib.Nat.{sub-zero}
use native.Mathlib.Omega.{arith}
use lib.ListN.{take, drop}
use lib.Seq.{take-nil, take-take, drop-drop}
use Rattle.base.specs.Lists.{part}

pub drop-take : (n m : ℕ) (s : List ℕ) → drop n (take m s) ≡ take (m - n) (drop n s)
drop-take zero m s = rw sub-zero
drop-take (suc n) zero s = let e : 0 - suc n ≡ 0 = omega arith in rw e
drop-take (suc n) (suc m) [] = rw take-nil
drop-take (suc n) (suc m) (x ∷ s) = let e : suc m - suc n ≡ m - n = omega arith in rw e (drop-take n m s)

-- what is left of a part behind its first bytes
pub drop-part : (n from to : ℕ) (s : List ℕ) → drop n (part from to s) ≡ part (from + n) to s
drop-part n from to s =
    let e : to - from - n ≡ to - (from + n) = omega arith in
    rw (drop-take n (to - from) (drop from s), drop-drop, e)

-- the front of a part
pub take_part : (n from to : ℕ) (s : List ℕ) → from + n ≤ to → take n (part from to s) ≡ take n (drop from s)
take_part n from to s h = take-take n (to - from) (drop from s) (omega arith)

-- a part of a part
pub part-part : (a b from to : ℕ) (s : List ℕ) → from + b ≤ to → part a b (part from to s) ≡ part (from + a) (from + b) s
part-part a b from to s h =
    let e : from + b - (from + a) ≡ b - a = omega arith in
    rw (drop-part a from to s, e) (take-take (b - a) (to - (from + a)) (drop (from + a) s) (omega arith))
