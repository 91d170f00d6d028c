-- `rank_postfix` meets its contract: the parts are compared one by one. Assumes nothing.
use native.Mathlib.Omega.{arith}
use mathlib.Core.Path.{◌≡◌, sym, ◌∙◌}
use Prim.Native.Nat.{ℕ, ◌+◌, ◌*◌, ◌≤◌, ◌<◌}
use mathlib.Core.List.{[], ◌∷◌}
use lib.ListN.{length}
use lib.Seq.{length-take-le}
use lib.Dec.{ltb}
use borrow.Author.Tests.{lt-ltb, le-ltb}
use Rattle.base.specs.Choice.{pick}
use Rattle.base.proofs.Tests.{pointwise_same}
use Rattle.line.specs.Locale.{locale_end}
use Rattle.choice.specs.Locale.{stripped}
use Rattle.choice.specs.Step.{all_keys, rank_in}
use Rattle.choice.proofs.Postfixes.{parts-inside, closed-inside, rank-by, rank-small}
use Rattle.choice.proofs.rank_postfix.Goals as goal
use Rattle.choice.proofs.rank_postfix.Goals.{After-rank_part-m, After-read_parts-q}

-- the parts that were read end in the locale and before the `]`
within : (c : After-read_parts-q) → (locale_end c.args.p ≤ length c.args.locale.now) × (locale_end c.read_parts-q.result < length c.args.s.now)
within c =
    (parts-inside c.args.locale.now c.requires.2, closed-inside c.args.s.now c.read_parts-q.ensures c.requires.0)

pub slice_bounds-eq-end : goal.slice_bounds-eq-end
slice_bounds-eq-end c = sym (length-take-le _ c.args.locale.now (omega (arith, within (goal.at.slice_bounds-eq-end c).After-read_parts-q)))

pub slice_bounds-eq-end-2 : goal.slice_bounds-eq-end-2
slice_bounds-eq-end-2 c = sym (length-take-le _ c.args.s.now (omega (arith, within (goal.at.slice_bounds-eq-end-2 c).After-read_parts-q)))

-- the rank, where the languages are the same
by_parts : (c : After-rank_part-m)
    → rank_in (all_keys [] c.args.locale.now) (91 ∷ stripped c.args.s.now)
    ≡ (let r : ℕ = 2 * c.rank_part-c.result + c.rank_part-m.result in pick (ltb r 4) r 5)
by_parts c =
    rank-by c.args.s.now c.args.locale.now c.requires.2 c.read_parts-q.ensures c.requires.0 c.requires.1
    ∙ rw (← pointwise_same, sym c.eq.ensures ∙ c.if-eq.true, ← c.rank_part-c.ensures, ← c.rank_part-m.ensures)

pub returns : goal.returns
returns c =
    sym (rank-by c.args.s.now c.args.locale.now c.requires.2 c.read_parts-q.ensures c.requires.0 c.requires.1 ∙ rw (← pointwise_same, sym c.eq.ensures ∙ c.if-eq.false))

small : (c : After-rank_part-m) → (c.rank_part-c.result ≤ 4) × (c.rank_part-m.result ≤ 4)
small c = (rank-small _ _ c.rank_part-c.ensures, rank-small _ _ c.rank_part-m.ensures)

pub overflow_add-a : goal.overflow_add-a
overflow_add-a c = omega (arith, within (goal.at.overflow_add-a c).After-read_parts-q)

pub overflow_add-b : goal.overflow_add-b
overflow_add-b c = omega (arith, within (goal.at.overflow_add-b c).After-read_parts-q)

pub slice_bounds-rank_part-count : goal.slice_bounds-rank_part-count
slice_bounds-rank_part-count c = omega (arith, within (goal.at.slice_bounds-rank_part-count c).After-read_parts-q)

pub slice_bounds-rank_part-start : goal.slice_bounds-rank_part-start
slice_bounds-rank_part-start c = omega (arith, within (goal.at.slice_bounds-rank_part-start c).After-read_parts-q)

pub slice_bounds-rank_part-end : goal.slice_bounds-rank_part-end
slice_bounds-rank_part-end c = omega (arith, within (goal.at.slice_bounds-rank_part-end c).After-read_parts-q)

pub slice_bounds-rank_part-count-then-eq : goal.slice_bounds-rank_part-count-then-eq
slice_bounds-rank_part-count-then-eq c = omega (arith, within (goal.at.slice_bounds-rank_part-count-then-eq c).After-read_parts-q)

pub slice_bounds-rank_part-start-then-eq : goal.slice_bounds-rank_part-start-then-eq
slice_bounds-rank_part-start-then-eq c = omega (arith, within (goal.at.slice_bounds-rank_part-start-then-eq c).After-read_parts-q)

pub slice_bounds-rank_part-end-then-eq : goal.slice_bounds-rank_part-end-then-eq
slice_bounds-rank_part-end-then-eq c = omega (arith, within (goal.at.slice_bounds-rank_part-end-then-eq c).After-read_parts-q)

pub overflow_add-d : goal.overflow_add-d
overflow_add-d c = omega (arith, within (goal.at.overflow_add-d c).After-read_parts-q)

pub overflow_add-e : goal.overflow_add-e
overflow_add-e c = omega (arith, within (goal.at.overflow_add-e c).After-read_parts-q)

pub overflow_sub-z : goal.overflow_sub-z
overflow_sub-z c = omega (arith, within (goal.at.overflow_sub-z c).After-read_parts-q)

pub slice_bounds-rank_part-count-then-eq-2 : goal.slice_bounds-rank_part-count-then-eq-2
slice_bounds-rank_part-count-then-eq-2 c = omega (arith, within (goal.at.slice_bounds-rank_part-count-then-eq-2 c).After-read_parts-q)

pub slice_bounds-rank_part-start-then-eq-2 : goal.slice_bounds-rank_part-start-then-eq-2
slice_bounds-rank_part-start-then-eq-2 c = omega (arith, within (goal.at.slice_bounds-rank_part-start-then-eq-2 c).After-read_parts-q)

pub slice_bounds-rank_part-end-then-eq-2 : goal.slice_bounds-rank_part-end-then-eq-2
slice_bounds-rank_part-end-then-eq-2 c = omega (arith, within (goal.at.slice_bounds-rank_part-end-then-eq-2 c).After-read_parts-q)

pub slice_bounds-rank_part-count-then-eq-3 : goal.slice_bounds-rank_part-count-then-eq-3
slice_bounds-rank_part-count-then-eq-3 c = omega (arith, within (goal.at.slice_bounds-rank_part-count-then-eq-3 c).After-read_parts-q)

pub slice_bounds-rank_part-start-then-eq-3 : goal.slice_bounds-rank_part-start-then-eq-3
slice_bounds-rank_part-start-then-eq-3 c = omega (arith, within (goal.at.slice_bounds-rank_part-start-then-eq-3 c).After-read_parts-q)

pub slice_bounds-rank_part-end-then-eq-3 : goal.slice_bounds-rank_part-end-then-eq-3
slice_bounds-rank_part-end-then-eq-3 c = omega (arith, within (goal.at.slice_bounds-rank_part-end-then-eq-3 c).After-read_parts-q)

pub overflow_mul-r : goal.overflow_mul-r
overflow_mul-r c = omega (arith, small (goal.at.overflow_mul-r c).After-rank_part-m)

pub overflow_add-r : goal.overflow_add-r
overflow_add-r c = omega (arith, small (goal.at.overflow_add-r c).After-rank_part-m)

pub returns-then-r-lt4 : goal.returns-then-r-lt4
returns-then-r-lt4 c = sym (by_parts (goal.at.returns-then-r-lt4 c).After-rank_part-m ∙ rw (lt-ltb _ _ c.if-r-lt4.true))

pub returns-then-eq : goal.returns-then-eq
returns-then-eq c = sym (by_parts (goal.at.returns-then-eq c).After-rank_part-m ∙ rw (le-ltb _ _ c.if-r-lt4.false))
