-- `next` gives the line at the place: its end is in the file. Assumes nothing.
use borrow.Author.Rules.{rules}
use native.Mathlib.Omega.{arith}
use Rattle.rows.proofs.Step.{end-le}
use Rattle.rows.proofs.walk.LinesIterator.next.Goals as goal

pub slice_bounds-line-end : goal.slice_bounds-line-end
slice_bounds-line-end c =
    end-le c.args.self.now.file.now {p = c.args.self.now.start} (search rules) c.line_end-end.ensures

pub overflow_add-self-2 : goal.overflow_add-self-2
overflow_add-self-2 c =
    omega (arith, end-le c.args.self.now.file.now {p = c.args.self.now.start} (search rules) c.line_end-end.ensures)
