-- `is_plain_lang` meets its contract: the names are compared in the order of the definition. Assumes nothing.
use mathlib.Core.Path.{◌≡◌, refl, ◌∙◌}
use mathlib.Core.Bool.{◌||◌, or_assoc, or-false}
use mathlib.Core.List.{List, []}
use Prim.Native.Nat.{ℕ}
use Rattle.base.specs.Lists.{ascii, same, any}
use Rattle.base.proofs.Tests.{same-by, or-first, or-second}
use Rattle.rows.proofs.Seek.{same_none}
use Rattle.choice.specs.Locale.{plain_locales}
use Rattle.choice.proofs.is_plain_lang.Goals as goal
use Rattle.choice.proofs.is_plain_lang.Goals.{Joined-is_empty, then-is_empty, else-is_empty}

-- the first two
two : (c : Joined-is_empty) → c.if-is_empty.value ≡ (same c.args.s.now [] || same c.args.s.now (ascii "C"))
two c =
    let e = c.is_empty.ensures ∙ same_none c.args.s.now in
    elim c.if-is_empty.branch [
      | then-is_empty w ↦ or-first _ _ w.value-is w.if-is_empty.true e
      | else-is_empty w ↦ or-second _ _ w.value-is w.if-is_empty.false e (same-by _ w.eq.ensures w.as_slice.ensures)
    ]

-- all three
three : (s : List ℕ) → any (same s) plain_locales ≡ ((same s [] || same s (ascii "C")) || same s (ascii "POSIX"))
unfolding any
three s = simp (or_assoc, or-false)

pub returns-then-eq : goal.returns-then-eq
returns-then-eq c = let p = goal.at.returns-then-eq c in rw three (or-first _ _ refl c.if-eq.true (two p.Joined-is_empty))

pub returns-else-eq : goal.returns-else-eq
returns-else-eq c =
    let p = goal.at.returns-else-eq c in
    rw three (or-second _ _ refl c.if-eq.false (two p.Joined-is_empty) (same-by _ c.eq-else-eq.ensures c.as_slice-else-eq.ensures))
