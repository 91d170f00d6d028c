-- `read_row` meets its contract: what a line's reading tells lies in the line. Assumes nothing.
use mathlib.Core.Path.{sym}
use native.Mathlib.Omega.{arith}
use lib.Seq.{length-take-le}
use Rattle.wellformed.proofs.Places.{line-length, reads-within}
use Rattle.wellformed.proofs.read_row.Goals as goal

pub slice_bounds-header-end : goal.slice_bounds-header-end
slice_bounds-header-end c =
    let w = rw c.in-Header.is at (reads-within c.requires.0) in
    omega (arith, w.1, line-length c.requires.0 c.bytes-l.ensures)

pub slice_bounds-entry-end : goal.slice_bounds-entry-end
slice_bounds-entry-end c =
    let w = rw c.in-Entry.is at (reads-within c.requires.0) in
    sym (length-take-le _ c.bytes-l.result.now (omega (arith, w.2, w.3, line-length c.requires.0 c.bytes-l.ensures)))

pub slice_bounds-header-count : goal.slice_bounds-header-count
slice_bounds-header-count c = let w = rw c.in-Header.is at (reads-within c.requires.0) in omega (arith, w.0)

pub slice_bounds-header-start : goal.slice_bounds-header-start
slice_bounds-header-start c = let w = rw c.in-Header.is at (reads-within c.requires.0) in omega (arith, w.0)
