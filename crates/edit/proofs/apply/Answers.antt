-- `edit::apply` meets its contract: each arm makes the edit of its target. Assumes nothing.
use native.Mathlib.Omega.{arith}
use Prim.Native.Nat.{◌≤◌}
use lib.ListN.{take}
use Rattle.edit.proofs.Applying.{value-edit, entry-edit, line-edit}
use borrow.Author.Rules.{rules}
use Rattle.edit.proofs.apply.Goals as goal
use Rattle.edit.proofs.apply.Goals.{After-make-arg-in-Entry-2-1, After-make-arg-in-Line-2-1, After-make-arg-in-Value-1}

-- the places of a target lie in the file
value-inside : (c : After-make-arg-in-Value-1) → (c.in-Value.from ≤ c.in-Value.to) × (c.in-Value.to ≤ c.args.size)
value-inside c = rw c.in-Value.is at c.requires.3

entry-inside : (c : After-make-arg-in-Entry-2-1) → c.in-Entry.at ≤ c.args.size
entry-inside c = rw c.in-Entry.is at c.requires.3

line-inside : (c : After-make-arg-in-Line-2-1) → (c.in-Line.from ≤ c.in-Line.to) × (c.in-Line.to ≤ c.args.size)
line-inside c = rw c.in-Line.is at c.requires.3

pub returns-in-Value : goal.returns-in-Value
returns-in-Value c =
    let a = c.args in
    rw (← value-edit (take a.size a.file.now) a.key.now a.text.now c.in-Value.is (value-inside (goal.at.returns-in-Value c).After-make-arg-in-Value-1).0) c.make.ensures

pub returns-in-Entry : goal.returns-in-Entry
returns-in-Entry c =
    let a = c.args in
    rw (← entry-edit (take a.size a.file.now) a.key.now a.text.now c.in-Entry.is) c.make-in-Entry.ensures

pub returns-in-Line : goal.returns-in-Line
returns-in-Line c =
    let a = c.args in
    rw (← line-edit (take a.size a.file.now) a.key.now a.text.now c.in-Line.is (line-inside (goal.at.returns-in-Line c).After-make-arg-in-Line-2-1).0) c.make-in-Line.ensures

pub overflow_sub-to : goal.overflow_sub-to
overflow_sub-to c = (value-inside (goal.at.overflow_sub-to c).After-make-arg-in-Value-1).0

pub make-requires : goal.make-requires
make-requires c = let w = value-inside (goal.at.make-requires c).After-make-arg-in-Value-1 in (search rules, search rules, search rules, omega (arith, w.0, w.1))

pub make-requires-in-Entry : goal.make-requires-in-Entry
make-requires-in-Entry c = (search rules, search rules, search rules, omega (arith, entry-inside (goal.at.make-requires-in-Entry c).After-make-arg-in-Entry-2-1))

pub overflow_sub-to-in-Line : goal.overflow_sub-to-in-Line
overflow_sub-to-in-Line c = (line-inside (goal.at.overflow_sub-to-in-Line c).After-make-arg-in-Line-2-1).0

pub make-requires-in-Line : goal.make-requires-in-Line
make-requires-in-Line c = let w = line-inside (goal.at.make-requires-in-Line c).After-make-arg-in-Line-2-1 in (search rules, search rules, search rules, omega (arith, w.0, w.1))
