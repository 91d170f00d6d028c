-- `read_line` meets its contract: the first byte says which case of the definition holds. Assumes nothing.
use native.Mathlib.Omega.{arith}
use mathlib.Core.Path.{sym, ◌∙◌}
use borrow.Author.Tests.{eq-eqb}
use Rattle.line.proofs.FirstByte.{line-empty, line-comment, header-line, line-entry}
use Rattle.line.proofs.read_line.Goals as goal

pub returns-in-empty : goal.returns-in-empty
returns-in-empty c = line-empty c.args.s.now (omega arith)

pub returns-in-35 : goal.returns-in-35
returns-in-35 c = line-comment c.args.s.now (omega arith) (omega arith)

pub returns-in-91 : goal.returns-in-91
returns-in-91 c = rw (header-line c.args.s.now (eq-eqb _ _ (omega arith))) c.read_header.ensures

pub read_blank-requires : goal.read_blank-requires
read_blank-requires c = (omega arith, sym c.is_in.ensures ∙ c.if-is_in.true)

pub returns-in_default : goal.returns-in_default
returns-in_default c = rw (line-entry c.args.s.now (omega arith) (λ e. omega arith) (λ e. omega arith) (sym c.is_in.ensures ∙ c.if-is_in.false)) c.read_entry.ensures
