-- `measure::icon_left` meets its contract: two records, or none. Assumes nothing.
use Rattle.text.proofs.RoomLaws.{spend-add, spend-zero}
use Rattle.run.proofs.Listing.{list-none}
use Rattle.run.proofs.Arguments.{icon-none, icon-some}
use Rattle.run.proofs.measure.icon_left.Goals as goal

pub returns-then-icon-eq0 : goal.returns-then-icon-eq0
returns-then-icon-eq0 c = rw (icon-none c.args.icon.now c.if-icon-eq0.true, list-none 3, spend-zero)

pub returns : goal.returns
returns c = rw (icon-some c.args.icon.now c.if-icon-eq0.false, ← spend-add, ← c.spend.ensures) c.spend-2.ensures
