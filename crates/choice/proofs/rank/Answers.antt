-- `rank` meets its contract: what follows the plain key in the name decides. Assumes nothing.
use Rattle.std.specs.Prelude.{Ok}
use native.Mathlib.Omega.{arith}
use mathlib.Core.Path.{◌≡◌, sym, ◌∙◌}
use Prim.Native.Nat.{◌≤◌, ◌<◌}
use lib.ListN.{length}
use borrow.Author.Tests.{ne_eqb}
use Rattle.line.specs.Name.{read_name}
use Rattle.line.proofs.Bounds.{name-within}
use Rattle.choice.proofs.Ranks.{rank-other, rank-plain, rank-postfixed, Opened, name-opened}
use Rattle.choice.proofs.rank.Goals as goal
use Rattle.choice.proofs.rank.Goals.{Else-n, In-Ok}

named : (c : In-Ok) → read_name c.args.l.now ≡ Ok c.in-Ok.n
named c = sym c.read_name.ensures ∙ c.in-Ok.is

pub returns-then-n-key : goal.returns-then-n-key
returns-then-n-key c =
    let e = named (goal.at.returns-then-n-key c).In-Ok in
    rw e (rank-other c.args.key.now c.args.locale.now c.requires.0 c.args.l.now _ _ e (rw (ne_eqb _ _ c.if-n-key.true)))

pub returns-then-n : goal.returns-then-n
returns-then-n c =
    let e = named (goal.at.returns-then-n c).In-Ok in
    rw e (rank-plain c.args.key.now c.args.locale.now c.requires.0 c.args.l.now _ _ e c.if-n-key.false c.requires.3 c.if-n.true)

-- the postfix
opened : (c : Else-n) → Opened c.args.l.now c.in-Ok.n.key c.in-Ok.n.name
opened c = name-opened _ _ _ (sym c.read_name.ensures ∙ c.in-Ok.is) c.if-n.false

opened-within : (c : Else-n) → (c.in-Ok.n.key < c.in-Ok.n.name)
    × (c.in-Ok.n.name ≤ length c.args.l.now)
opened-within c =
    let w = rw (sym c.read_name.ensures ∙ c.in-Ok.is) at (name-within c.args.l.now) in
    (omega (arith, w, c.if-n.false), w.2)

pub rank_postfix-requires : goal.rank_postfix-requires
rank_postfix-requires c =
    ((opened (goal.at.rank_postfix-requires c).Else-n).closes, c.requires.1, c.requires.2)

pub slice_bounds-rank_postfix-count : goal.slice_bounds-rank_postfix-count
slice_bounds-rank_postfix-count c = omega (arith, opened-within (goal.at.slice_bounds-rank_postfix-count c).Else-n)

pub slice_bounds-rank_postfix-start : goal.slice_bounds-rank_postfix-start
slice_bounds-rank_postfix-start c = omega (arith, opened-within (goal.at.slice_bounds-rank_postfix-start c).Else-n)

pub slice_bounds-rank_postfix-end : goal.slice_bounds-rank_postfix-end
slice_bounds-rank_postfix-end c = omega (arith, opened-within (goal.at.slice_bounds-rank_postfix-end c).Else-n)

pub returns : goal.returns
returns c =
    let e = named (goal.at.returns c).In-Ok in
    rw e (c.rank_postfix.ensures ∙ rank-postfixed c.args.key.now c.args.locale.now c.requires.0 c.args.l.now _ _ e c.if-n-key.false c.requires.3 c.if-n.false)
