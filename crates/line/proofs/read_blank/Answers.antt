-- `read_blank` meets its contract: the line is blank if its blank bytes reach its end. Assumes nothing.
use native.Mathlib.Nat.{zero-add}
use mathlib.Core.Path.{◌≡◌, refl, sym, ap, ◌∙◌}
use mathlib.Core.Bool.{true, false, false≢true}
use Prim.Native.Nat.{ℕ}
use borrow.Author.Tests.{eq-eqb, ne_eqb}
use Rattle.characters.specs.Class.{blank_byte}
use Rattle.line.proofs.FirstByte.{line-blank}
use Rattle.line.proofs.read_blank.Goals as goal

-- a blank byte is no byte that is not blank
differs : {b k : ℕ} → blank_byte b ≡ true → blank_byte k ≡ false → b ≡ k → ⊥
differs t f e = false≢true (sym f ∙ ap blank_byte (sym e) ∙ t)

pub returns-then-blank-s : goal.returns-then-blank-s
unfolding blank_byte
returns-then-blank-s c =
    let r = c.requires in
    rw (line-blank c.args.s.now r.0 (differs {k = 35} r.1 refl) (differs {k = 91} r.1 refl) r.1, ← (c.span_end-blank.ensures ∙ zero-add _), eq-eqb _ _ c.if-blank-s.true)

pub returns : goal.returns
unfolding blank_byte
returns c =
    let r = c.requires in
    rw (line-blank c.args.s.now r.0 (differs {k = 35} r.1 refl) (differs {k = 91} r.1 refl) r.1, ← (c.span_end-blank.ensures ∙ zero-add _), ne_eqb _ _ c.if-blank-s.false)
