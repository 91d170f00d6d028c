-- Choices by a test and by an option. A choice is a call and no `elim`, so that a proof can rewrite what is asked. Assumes nothing.
use Rattle.std.specs.Prelude.{Bool, true, false, Option, Some, None}

-- the first where the test passes, else the second
abbrev pub pick : {A : Type 0} → Bool → A → A → A
pick true a b = a
pick false a b = b

-- the first where there is nothing, else what the function makes of it
abbrev pub maybe : {A B : Type 0} → Option A → B → (A → B) → B
maybe None b f = b
maybe (Some a) b f = f a

-- there is something
abbrev pub there : {A : Type 0} → Option A → Bool
there None = false
there (Some a) = true
