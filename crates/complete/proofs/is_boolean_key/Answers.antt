-- `is_boolean_key` meets its contract: the answer is what its comparisons answer. Assumes nothing.
use mathlib.Core.Path.{◌≡◌, refl}
use mathlib.Core.Bool.{Bool, ◌||◌, or_assoc, or-false}
use mathlib.Core.List.{List}
use Prim.Native.Nat.{ℕ}
use Rattle.base.specs.Lists.{ascii, same, any}
use Rattle.base.proofs.Tests.{same-by, same-sym, or-first, or-second}
use Rattle.complete.specs.Step.{boolean_key}
use Rattle.complete.proofs.is_boolean_key.Goals as goal
use Rattle.complete.proofs.is_boolean_key.Goals.{Joined-eq, Joined-eq-2, Joined-eq-3, then-eq, else-eq, then-eq-2, else-eq-2, then-eq-3, else-eq-3}

-- the first keys, and all of them
abbrev two : List ℕ → Bool
two n = same n (ascii "NoDisplay") || same n (ascii "Hidden")

abbrev three : List ℕ → Bool
three n = two n || same n (ascii "DBusActivatable")

abbrev four : List ℕ → Bool
four n = three n || same n (ascii "Terminal")

five : (n : List ℕ) → boolean_key n ≡ (four n || same n (ascii "StartupNotify"))
unfolding boolean_key any
five n =
    rw (same-sym n (ascii "NoDisplay"), same-sym n (ascii "Hidden"), same-sym n (ascii "DBusActivatable"), same-sym n (ascii "Terminal"), same-sym n (ascii "StartupNotify"))
    (simp (or_assoc, or-false))

by-two : (c : Joined-eq) → c.if-eq.value ≡ two c.args.name.now
by-two c =
    let e = same-by _ c.eq.ensures c.as_slice.ensures in
    elim c.if-eq.branch [
      | then-eq w ↦ or-first _ _ w.value-is w.if-eq.true e
      | else-eq w ↦ or-second _ _ w.value-is w.if-eq.false e (same-by _ w.eq-else-eq.ensures w.as_slice-else-eq.ensures)
    ]

by-three : (c : Joined-eq-2) → c.if-eq.value ≡ two c.args.name.now → c.if-eq-2.value ≡ three c.args.name.now
by-three c e =
    elim c.if-eq-2.branch [
      | then-eq-2 w ↦ or-first _ _ w.value-is w.if-eq-2.true e
      | else-eq-2 w ↦ or-second _ _ w.value-is w.if-eq-2.false e (same-by _ w.eq-else-eq-2.ensures w.as_slice-else-eq-2.ensures)
    ]

by-four : (c : Joined-eq-3) → c.if-eq-2.value ≡ three c.args.name.now → c.if-eq-3.value ≡ four c.args.name.now
by-four c e =
    elim c.if-eq-3.branch [
      | then-eq-3 w ↦ or-first _ _ w.value-is w.if-eq-3.true e
      | else-eq-3 w ↦ or-second _ _ w.value-is w.if-eq-3.false e (same-by _ w.eq-else-eq-3.ensures w.as_slice-else-eq-3.ensures)
    ]

pub returns-then-eq-4 : goal.returns-then-eq-4
returns-then-eq-4 c =
    let p = goal.at.returns-then-eq-4 c in
    rw five (or-first _ _ refl c.if-eq-4.true (by-four p.Joined-eq-3 (by-three p.Joined-eq-2 (by-two p.Joined-eq))))

pub returns-else-eq-4 : goal.returns-else-eq-4
returns-else-eq-4 c =
    let p = goal.at.returns-else-eq-4 c in
    rw five (or-second _ _ refl c.if-eq-4.false (by-four p.Joined-eq-3 (by-three p.Joined-eq-2 (by-two p.Joined-eq))) (same-by _ c.eq-else-eq-4.ensures c.as_slice-else-eq-4.ensures))
