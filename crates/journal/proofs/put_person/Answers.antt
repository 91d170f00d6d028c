-- `journal::put_person` meets its contract: the person's two bytes behind the head. Assumes nothing.
use Rattle.journal.proofs.Front.{person-written}
use Rattle.journal.proofs.put_person.Goals as goal

pub returns : goal.returns
returns c =
    let p = c in
    let h = p in
    let s = h in
    person-written s.args.out.now h.put_head.new.out _ s.args.at s.args.size s.args.person s.requires h.put_head.ensures (rw p.from.ensures at p.put_number.ensures)
