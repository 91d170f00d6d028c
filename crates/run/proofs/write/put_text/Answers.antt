-- `write::put_text` meets its contract: the head and the pieces behind it make the record. Assumes nothing.
use Rattle.run.proofs.Writing.{wrote-text}
use Rattle.run.proofs.write.put_text.Goals as goal

pub returns : goal.returns
returns c =
    wrote-text c.pieces_length-n.ensures c.put_head.ensures c.put_pieces.ensures
