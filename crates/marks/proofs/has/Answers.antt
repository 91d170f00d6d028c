-- `marks::has` meets its contract: the word and the bits are those of the hash. Assumes nothing.
use Rattle.marks.specs.Marks.{has_bits}
use Rattle.marks.proofs.has.Goals as goal

pub returns : goal.returns
unfolding has_bits
returns c = rw (c.bits-b.ensures, c.word-i.ensures.0)
