-- `lookup` meets its contract: it hands on the part between the ends. Assumes nothing.
use Rattle.entry.proofs.Lookups.{lookup-inside}
use Rattle.entry.proofs.lookup.Goals as goal

pub slice_bounds-result-count : goal.slice_bounds-result-count
slice_bounds-result-count c =
    let s = c.args in
    let i = rw (← c.lookup_ends.ensures, c.in-Ok.is) at (lookup-inside s.file.now s.group.now s.key.now) in
    i.0

pub slice_bounds-result-start : goal.slice_bounds-result-start
slice_bounds-result-start c =
    let s = c.args in
    let i = rw (← c.lookup_ends.ensures, c.in-Ok.is) at (lookup-inside s.file.now s.group.now s.key.now) in
    i.0

pub slice_bounds-result-end-2 : goal.slice_bounds-result-end-2
slice_bounds-result-end-2 c =
    let s = c.args in
    let i = rw (← c.lookup_ends.ensures, c.in-Ok.is) at (lookup-inside s.file.now s.group.now s.key.now) in
    i.1

pub returns-in_default : goal.returns-in_default
returns-in_default c = rw (← c.lookup_ends.ensures, c.in_default.is)

pub returns : goal.returns
returns c = rw (← c.lookup_ends.ensures, c.in-Ok.is)
