-- `words::word_end` meets its contract: a word that opens with a quote goes on behind it to the next space. Assumes nothing.
use Rattle.command.proofs.Parting.{word-quoted, word-bare}
use Rattle.command.proofs.words.word_end.Goals as goal

pub returns-then-s-from-eq34 : goal.returns-then-s-from-eq34
returns-then-s-from-eq34 c =
    word-quoted c.args.s.now c.args.from c.if-s-from-eq34.true c.bare_end-closing.ensures c.space_at.ensures

pub returns : goal.returns
returns c = word-bare c.args.s.now c.args.from c.if-s-from-eq34.false c.space_at-2.ensures
