-- `fault::tell` meets its contract: in each arm the variant is known, and the table's line of it is the answer. Assumes nothing.
use mathlib.Core.Path.{refl}
use Rattle.fault.proofs.tell.Goals as goal

pub returns-in-TooLong : goal.returns-in-TooLong
returns-in-TooLong c = rw c.in-TooLong.is (refl, refl, refl)

pub returns-in-BadLine : goal.returns-in-BadLine
returns-in-BadLine c = rw c.in-BadLine.is (refl, refl, refl)

pub returns-in-FirstGroup : goal.returns-in-FirstGroup
returns-in-FirstGroup c = rw c.in-FirstGroup.is (refl, refl, refl)

pub returns-in-RepeatedGroup : goal.returns-in-RepeatedGroup
returns-in-RepeatedGroup c = rw c.in-RepeatedGroup.is (refl, refl, refl)

pub returns-in-RepeatedKey : goal.returns-in-RepeatedKey
returns-in-RepeatedKey c = rw c.in-RepeatedKey.is (refl, refl, refl)

pub returns-in-NoPlainKey : goal.returns-in-NoPlainKey
returns-in-NoPlainKey c = rw c.in-NoPlainKey.is (refl, refl, refl)

pub returns-in-BadArgument : goal.returns-in-BadArgument
returns-in-BadArgument c = rw c.in-BadArgument.is (refl, refl, refl)

pub returns-in-Missing : goal.returns-in-Missing
returns-in-Missing c = rw c.in-Missing.is (refl, refl, refl)

pub returns-in-BadEscape : goal.returns-in-BadEscape
returns-in-BadEscape c = rw c.in-BadEscape.is (refl, refl, refl)

pub returns-in-UnfitText : goal.returns-in-UnfitText
returns-in-UnfitText c = rw c.in-UnfitText.is (refl, refl, refl)

pub returns-in-NoRoom : goal.returns-in-NoRoom
returns-in-NoRoom c = rw c.in-NoRoom.is (refl, refl, refl)

pub returns-in-NothingLeft : goal.returns-in-NothingLeft
returns-in-NothingLeft c = rw c.in-NothingLeft.is (refl, refl, refl)

pub returns-in-JournalFull : goal.returns-in-JournalFull
returns-in-JournalFull c = rw c.in-JournalFull.is (refl, refl, refl)

pub returns-in-Damaged : goal.returns-in-Damaged
returns-in-Damaged c = rw c.in-Damaged.is (refl, refl, refl)

pub returns-in-BadExec : goal.returns-in-BadExec
returns-in-BadExec c = rw c.in-BadExec.is (refl, refl, refl)

pub returns-in-BadCode : goal.returns-in-BadCode
returns-in-BadCode c = rw c.in-BadCode.is (refl, refl, refl)

pub returns-in-PostfixesRemain : goal.returns-in-PostfixesRemain
returns-in-PostfixesRemain c = rw c.in-PostfixesRemain.is (refl, refl, refl)

pub returns-in-Incomplete : goal.returns-in-Incomplete
returns-in-Incomplete c = rw c.in-Incomplete.is (refl, refl, refl)
