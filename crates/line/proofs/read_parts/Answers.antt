-- `read_parts` meets its contract: each part is read where the last one ends. Assumes nothing.
use Rattle.characters.specs.Class.{key_byte}
use Rattle.line.proofs.Locales.{marked_from}
use native.Mathlib.Omega.{arith}
use mathlib.Core.Path.{◌∙◌}
use Rattle.base.proofs.Span.{span-le}
use Rattle.line.specs.Locale.{parts}
use native.Mathlib.Nat.{zero-add}
use Prim.Native.Nat.{◌+◌}
use Rattle.line.proofs.read_parts.Goals as goal

pub overflow_add-lang : goal.overflow_add-lang
overflow_add-lang c =
    let l = c in
    let s = l.args.s.now in
    omega (arith, marked_from 95 s l.span_end-lang.result (omega (arith, span-le key_byte s)))

pub overflow_add-lang-3 : goal.overflow_add-lang-3
overflow_add-lang-3 c =
    let m = c in
    let l = m in
    let s = l.args.s.now in
    let n = l.span_end-lang.result in
    omega (arith, marked_from 46 s (n + m.part_length-country.result) (omega (arith, marked_from 95 s n (omega (arith, span-le key_byte s)))))

pub returns : goal.returns
unfolding parts
returns c =
    let e = c in
    let m = e in
    let l = m in
    rw (← (l.span_end-lang.ensures ∙ zero-add _), ← m.part_length-country.ensures, ← e.part_length-encoding.ensures, ← c.part_length-modifier.ensures)

pub overflow_add-lang-2 : goal.overflow_add-lang-2
overflow_add-lang-2 c =
    let l = c in
    let s = l.args.s.now in
    omega (arith, marked_from 95 s l.span_end-lang.result (omega (arith, span-le key_byte s)))
