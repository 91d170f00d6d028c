-- `locale_at` meets its contract: the tests that led to each return say which case of the definition holds. Assumes nothing.
use native.Mathlib.Omega.{arith}
use borrow.Author.Tests.{eq-eqb, ne_eqb}
use lib.ListN.{length}
use Rattle.line.proofs.Locales.{parts_within}
use Rattle.line.specs.Locale.{locale_end, empty_part, locale_at}
use Prim.Native.Nat.{◌≤◌}
use Rattle.line.proofs.locale_at.Goals as goal
use Rattle.line.proofs.locale_at.Goals.{After-read_parts-lang}

-- the parts end inside
within : (c : After-read_parts-lang) → locale_end c.read_parts-lang.result ≤ length c.args.s.now
within c = rw (← c.read_parts-lang.ensures) at (parts_within c.args.s.now)

pub returns-then-lang-eq0 : goal.returns-then-lang-eq0
unfolding locale_at empty_part
returns-then-lang-eq0 c = rw (← c.read_parts-lang.ensures, eq-eqb _ _ c.if-lang-eq0.true)

pub returns-then-country-eq1 : goal.returns-then-country-eq1
unfolding locale_at empty_part
returns-then-country-eq1 c = rw (← c.read_parts-lang.ensures, ne_eqb _ _ c.if-lang-eq0.false, eq-eqb _ _ c.if-country-eq1.true)

pub returns-then-encoding-eq1 : goal.returns-then-encoding-eq1
unfolding locale_at empty_part
returns-then-encoding-eq1 c = rw (← c.read_parts-lang.ensures, ne_eqb _ _ c.if-lang-eq0.false, ne_eqb _ _ c.if-country-eq1.false, eq-eqb _ _ c.if-encoding-eq1.true)

pub returns-then-modifier-eq1 : goal.returns-then-modifier-eq1
unfolding locale_at empty_part
returns-then-modifier-eq1 c = rw (← c.read_parts-lang.ensures, ne_eqb _ _ c.if-lang-eq0.false, ne_eqb _ _ c.if-country-eq1.false, ne_eqb _ _ c.if-encoding-eq1.false, eq-eqb _ _ c.if-modifier-eq1.true)

pub returns : goal.returns
unfolding locale_at empty_part
returns c = rw (← c.read_parts-lang.ensures, ne_eqb _ _ c.if-lang-eq0.false, ne_eqb _ _ c.if-country-eq1.false, ne_eqb _ _ c.if-encoding-eq1.false, ne_eqb _ _ c.if-modifier-eq1.false)

pub overflow_add-result : goal.overflow_add-result
overflow_add-result c = omega (arith, within (goal.at.overflow_add-result c).After-read_parts-lang)

pub overflow_add-result-then-encoding-eq1 : goal.overflow_add-result-then-encoding-eq1
overflow_add-result-then-encoding-eq1 c = omega (arith, within (goal.at.overflow_add-result-then-encoding-eq1 c).After-read_parts-lang)

pub overflow_add-result-then-encoding-eq1-2 : goal.overflow_add-result-then-encoding-eq1-2
overflow_add-result-then-encoding-eq1-2 c = omega (arith, within (goal.at.overflow_add-result-then-encoding-eq1-2 c).After-read_parts-lang)

pub overflow_add-result-then-modifier-eq1 : goal.overflow_add-result-then-modifier-eq1
overflow_add-result-then-modifier-eq1 c = omega (arith, within (goal.at.overflow_add-result-then-modifier-eq1 c).After-read_parts-lang)

pub overflow_add-result-then-modifier-eq1-2 : goal.overflow_add-result-then-modifier-eq1-2
overflow_add-result-then-modifier-eq1-2 c = omega (arith, within (goal.at.overflow_add-result-then-modifier-eq1-2 c).After-read_parts-lang)

pub overflow_add-result-then-modifier-eq1-3 : goal.overflow_add-result-then-modifier-eq1-3
overflow_add-result-then-modifier-eq1-3 c = omega (arith, within (goal.at.overflow_add-result-then-modifier-eq1-3 c).After-read_parts-lang)

pub overflow_add-result-2 : goal.overflow_add-result-2
overflow_add-result-2 c = omega (arith, within (goal.at.overflow_add-result-2 c).After-read_parts-lang)

pub overflow_add-result-3 : goal.overflow_add-result-3
overflow_add-result-3 c = omega (arith, within (goal.at.overflow_add-result-3 c).After-read_parts-lang)

pub overflow_add-result-4 : goal.overflow_add-result-4
overflow_add-result-4 c = omega (arith, within (goal.at.overflow_add-result-4 c).After-read_parts-lang)
