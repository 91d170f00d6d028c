-- `measure::text_left` meets its contract: a head and the pieces make the record. Assumes nothing.
use Rattle.text.proofs.RoomLaws.{spend-add}
use Rattle.run.proofs.Listing.{length-one}
use Rattle.run.proofs.measure.text_left.Goals as goal

pub returns : goal.returns
returns c = rw (length-one, ← spend-add, ← c.spend.ensures) c.pieces_left.ensures
