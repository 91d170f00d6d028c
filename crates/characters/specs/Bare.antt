-- A byte that no backslash takes (01, "Language, escapes, lists" and "Building a command"). Assumes nothing.
use Rattle.std.specs.Prelude.{ℕ, suc, Bool, true, false, List, [], ◌∷◌, eqb}
use Prim.Native.Char.{code}
use Rattle.base.specs.Choice.{pick}

-- How many bytes stand before the next bare one of this value, or before the end where there is none: a backslash takes the next byte with it.
-- The flag: a backslash took the first byte.
unfoldable pub bare_length : ℕ → List ℕ → Bool → ℕ
bare_length stop [] taken = 0
bare_length stop (b ∷ bs) true = suc (bare_length stop bs false)
bare_length stop (b ∷ bs) false =
    let more : ℕ = suc (bare_length stop bs (eqb b (code "\\"))) in
    pick (eqb b stop) 0 more
