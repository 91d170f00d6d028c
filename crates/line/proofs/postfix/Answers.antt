-- `postfix` meets its contract: a language alone, or what `locale_at` reads. Assumes nothing.
use native.Mathlib.Omega.{arith}
use mathlib.Core.Path.{sym, ◌∙◌}
use borrow.Author.Tests.{eq-eqb, ne_eqb}
use Prim.Native.Nat.{◌+◌}
use Rattle.base.proofs.Scan.{inside}
use Rattle.line.proofs.Locales.{locale-lent, postfix-lent, postfix-short}
use Rattle.line.proofs.postfix.Goals as goal

pub overflow_add-result : goal.overflow_add-result
overflow_add-result c = omega (arith, inside c.args.s.now _ c.byte_at.result c.byte_at.ensures (omega arith))

pub returns-then-byte_at-eq93 : goal.returns-then-byte_at-eq93
returns-then-byte_at-eq93 c = let a = c.args in postfix-short a.s.now a.key c.span_end-lang.result c.span_end-lang.ensures c.if-from-lang.true (sym c.byte_at.ensures ∙ c.if-byte_at-eq93.true)

pub overflow_add-result-in-Err : goal.overflow_add-result-in-Err
overflow_add-result-in-Err c =
    let a = c.args in
    omega (arith, rw (← c.locale_at.ensures, c.in-Err.is) at (locale-lent a.s.now (a.key + 1)))

pub overflow_add-end : goal.overflow_add-end
overflow_add-end c =
    let a = c.args in
    omega (arith, rw (← c.locale_at.ensures, c.in-Ok.is) at (locale-lent a.s.now (a.key + 1)))

pub overflow_add-result-then-byte_at-eq93-2 : goal.overflow_add-result-then-byte_at-eq93-2
overflow_add-result-then-byte_at-eq93-2 c = omega (arith, inside c.args.s.now _ c.byte_at-in-Ok.result c.byte_at-in-Ok.ensures (omega arith))

pub returns-then-byte_at-eq93-2 : goal.returns-then-byte_at-eq93-2
returns-then-byte_at-eq93-2 c =
    let a = c.args in
    rw (postfix-lent a.s.now a.key c.locale_at.ensures, c.in-Ok.is, ← c.byte_at-in-Ok.ensures, eq-eqb _ _ c.if-byte_at-eq93-2.true)

pub returns-in-Err : goal.returns-in-Err
returns-in-Err c =
    let a = c.args in
    rw (postfix-lent a.s.now a.key c.locale_at.ensures, c.in-Err.is)

pub returns-else-byte_at-eq93-2 : goal.returns-else-byte_at-eq93-2
returns-else-byte_at-eq93-2 c =
    let a = c.args in
    rw (postfix-lent a.s.now a.key c.locale_at.ensures, c.in-Ok.is, ← c.byte_at-in-Ok.ensures, ne_eqb _ _ c.if-byte_at-eq93-2.false)
