-- `write::put_piece` meets its contract: each arm copies the case of its name. Assumes nothing.
use Rattle.run.specs.Run.{piece_bytes}
use Rattle.run.proofs.Writing.{wrote_none, wrote-copy}
use Rattle.run.proofs.write.put_piece.Goals as goal

pub copy-requires : goal.copy-requires
unfolding piece_bytes
copy-requires c =
    rw c.in-Byte.is at c.requires

pub copy-requires-in-Item : goal.copy-requires-in-Item
unfolding piece_bytes
copy-requires-in-Item c = rw c.in-Item.is at c.requires

pub copy-requires-in-Name : goal.copy-requires-in-Name
unfolding piece_bytes
copy-requires-in-Name c = rw c.in-Name.is at c.requires

pub copy-requires-in-Location : goal.copy-requires-in-Location
unfolding piece_bytes
copy-requires-in-Location c = rw c.in-Location.is at c.requires

pub returns-in-Byte : goal.returns-in-Byte
unfolding piece_bytes
returns-in-Byte c = rw c.in-Byte.is (wrote-copy _ c.copy.ensures.long c.copy.ensures.is)

pub returns-in-Item : goal.returns-in-Item
unfolding piece_bytes
returns-in-Item c = rw c.in-Item.is (wrote-copy _ c.copy-in-Item.ensures.long c.copy-in-Item.ensures.is)

pub returns-in-Name : goal.returns-in-Name
unfolding piece_bytes
returns-in-Name c = rw c.in-Name.is (wrote-copy _ c.copy-in-Name.ensures.long c.copy-in-Name.ensures.is)

pub returns-in-Location : goal.returns-in-Location
unfolding piece_bytes
returns-in-Location c = rw c.in-Location.is (wrote-copy _ c.copy-in-Location.ensures.long c.copy-in-Location.ensures.is)

pub returns-in-Vanished : goal.returns-in-Vanished
unfolding piece_bytes
returns-in-Vanished c = rw c.in-Vanished.is (wrote_none c.args.out.now)
