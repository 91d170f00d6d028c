-- `marks::set` meets its contract: the word and the bits are those of the hash. Assumes nothing.
use Rattle.marks.specs.Marks.{with_bits}
use Rattle.marks.proofs.set.Goals as goal

pub returns : goal.returns
unfolding with_bits
returns c = rw (c.bits-b.ensures, c.word-i.ensures.0)
