-- `edit::make` meets its contract: the tests that led to each return say which buffer has no room. Assumes nothing.
use native.Mathlib.Omega.{arith}
use mathlib.Core.Path.{◌≡◌, sym, ap, ◌∙◌}
use mathlib.Core.List.{List}
use Prim.Native.Nat.{ℕ, ◌+◌}
use lib.ListN.{length, take}
use lib.Seq.{length-take-le}
use Rattle.base.specs.Lists.{part}
use Rattle.base.proofs.Lists.{length_part}
use Rattle.base.specs.Over.{over}
use Rattle.record.specs.Record.{record_bytes}
use Rattle.splice.specs.Edit.{Edit, spliced, replaced, buffer_with}
use Rattle.journal.specs.Journal.{Person, Authored, by, edit_record}
use Rattle.change.specs.Target.{new_bytes}
use Rattle.edit.specs.Calls.{State, content, lent}
use Rattle.edit.proofs.Applying.{length-spliced, part-take, file-full, file-most, journal-full, journal-most, all_made}
use Rattle.edit.proofs.make.Goals as goal
use Rattle.edit.proofs.make.Goals.{Start}

-- what is lent, and the edit
abbrev held : Start → State
held c = lent c.args.file.now c.args.size c.args.journal.now 0 c.args.standing

abbrev edit : Start → Authored Edit
edit c = by (Person c.args.person) (record { place = c.args.place; old = part c.args.place (c.args.place + c.args.old) (take c.args.size c.args.file.now); new = new_bytes c.args.key.now c.args.text.now c.args.t })

sizes : (c : Start) → (length (content (held c)) ≡ c.args.size) × (length (edit c).what.old ≡ c.args.old)
sizes c =
    let l = length-take-le c.args.size c.args.file.now (omega arith) in
    (l, omega (arith, length_part c.args.place (c.args.place + c.args.old) (take c.args.size c.args.file.now) (omega arith)))

pub returns-then-file-len : goal.returns-then-file-len
returns-then-file-len c =
    let l = sizes (goal.at.returns-then-file-len c).Start in
    let n = c.new_length-n.ensures in
    file-full (held (goal.at.returns-then-file-len c).Start) (edit (goal.at.returns-then-file-len c).Start) (omega (arith, l.0, l.1)) (omega (arith, l.0, l.1, n))

pub returns-then-len-gt-FILE_MOST : goal.returns-then-len-gt-FILE_MOST
returns-then-len-gt-FILE_MOST c =
    let l = sizes (goal.at.returns-then-len-gt-FILE_MOST c).Start in
    let n = c.new_length-n.ensures in
    file-most (held (goal.at.returns-then-len-gt-FILE_MOST c).Start) (edit (goal.at.returns-then-len-gt-FILE_MOST c).Start) (omega (arith, l.0, l.1)) (omega (arith, l.0, l.1, n))

pub returns-then-journal-end : goal.returns-then-journal-end
returns-then-journal-end c =
    let l = sizes (goal.at.returns-then-journal-end c).Start in
    let n = c.new_length-n.ensures in
    journal-full (held (goal.at.returns-then-journal-end c).Start) (edit (goal.at.returns-then-journal-end c).Start) (omega (arith, l.0, l.1)) (omega (arith, l.0, l.1, n)) (omega (arith, l.0, l.1, n)) (omega (arith, l.1, n))

pub returns-then-end-gt-JOURNAL_MOST : goal.returns-then-end-gt-JOURNAL_MOST
returns-then-end-gt-JOURNAL_MOST c =
    let l = sizes (goal.at.returns-then-end-gt-JOURNAL_MOST c).Start in
    let n = c.new_length-n.ensures in
    journal-most (held (goal.at.returns-then-end-gt-JOURNAL_MOST c).Start) (edit (goal.at.returns-then-end-gt-JOURNAL_MOST c).Start) (omega (arith, l.0, l.1)) (omega (arith, l.0, l.1, n)) (omega (arith, l.0, l.1, n)) (omega (arith, l.1, n))

pub returns : goal.returns
unfolding spliced
returns c =
    let l = sizes (goal.at.returns c).Start in
    let n = c.new_length-n.ensures in
    let o : part c.args.place (c.args.place + c.args.old) (take c.args.size c.args.file.now) ≡ part c.args.place (c.args.place + c.args.old) c.args.file.now =
    part-take c.args.place (c.args.place + c.args.old) c.args.size c.args.file.now (omega arith) in
    all_made (held (goal.at.returns c).Start) (edit (goal.at.returns c).Start) (omega (arith, l.0, l.1)) (omega (arith, l.0, l.1, n)) (omega (arith, l.0, l.1, n)) (omega (arith, l.1, n)) (omega (arith, l.1, n))
    (omega (arith, l.0, l.1, n, length-spliced (edit (goal.at.returns c).Start).what (content (held (goal.at.returns c).Start)) (omega (arith, l.0, l.1)))) (omega (arith, l.1, n))
    (c.write.ensures.file ∙ ap (λ (k : ℕ). buffer_with c.args.file.now c.args.size (replaced c.args.place k (edit (goal.at.returns c).Start).what.new (content (held (goal.at.returns c).Start)))) (sym l.1))
    (c.write.ensures.journal ∙ ap (λ (x : List ℕ). over c.args.journal.now c.args.standing (record_bytes (edit_record (by (Person c.args.person) (record { place = c.args.place; old = x; new = (edit (goal.at.returns c).Start).what.new }))))) (sym o))
