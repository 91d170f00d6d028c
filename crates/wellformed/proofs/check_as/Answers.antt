-- `check_as` meets its contract: 1 is asked first. Assumes nothing.
use borrow.Author.Tests.{le-leb, lt-leb}
use Rattle.wellformed.proofs.Accepts.{check-rows}
use Rattle.wellformed.proofs.check_as.Goals as goal

pub returns-then-file-gt-FILE_MOST : goal.returns-then-file-gt-FILE_MOST
returns-then-file-gt-FILE_MOST c = rw (check-rows c.args.leading.now c.args.file.now, lt-leb _ _ c.if-file-gt-FILE_MOST.true)

pub returns-then-file-lt-FILE_SHORT : goal.returns-then-file-lt-FILE_SHORT
returns-then-file-lt-FILE_SHORT c = rw (check-rows c.args.leading.now c.args.file.now, le-leb _ _ c.if-file-gt-FILE_MOST.false) c.check_short.ensures

pub returns : goal.returns
returns c = rw (check-rows c.args.leading.now c.args.file.now, le-leb _ _ c.if-file-gt-FILE_MOST.false) c.check_long.ensures
