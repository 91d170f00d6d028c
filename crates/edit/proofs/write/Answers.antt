-- `edit::write` meets its contract: the record stands behind what stood, and the file has the bytes that end it. Assumes nothing.
use native.Mathlib.Omega.{arith}
use mathlib.Core.Path.{◌≡◌, ap, ◌∙◌}
use mathlib.Core.List.{List}
use Prim.Native.Nat.{ℕ, ◌+◌, ◌≤◌}
use lib.ListN.{length, take}
use Rattle.base.specs.Lists.{part}
use Rattle.base.proofs.Lists.{length_part}
use Rattle.splice.specs.Edit.{Edit, replaced, buffer_with}
use Rattle.journal.specs.Journal.{Person}
use Rattle.change.specs.Target.{new_bytes}
use Rattle.edit.proofs.Applying.{record-written, new-written}
use Rattle.edit.proofs.write.Goals as goal

pub returns : goal.returns
returns c =
    let a = c.args in
    let w = c.put_new-end.ensures in
    let f = c.put_front.ensures in
    let x = new_bytes a.key.now a.text.now a.t in
    let e : Edit = record { place = a.place; old = part a.place (a.place + a.old) a.file.now; new = x } in
    let l = length_part a.place (a.place + a.old) a.file.now (omega arith) in
    let from = a.standing + 20 + a.old in
    let z : from ≡ a.standing + 20 + length e.old = omega arith in
    let q : a.n ≡ length x = c.requires.2 in
    let h : a.standing + (20 + length e.old + a.n) ≤ length a.journal.now = omega arith in
    let r = record-written a.journal.now a.standing (Person a.person) e a.n q h f z w.is in
    let p = new-written a.journal.now a.standing (Person a.person) e a.n q h f z w.is in record {
      file = c.replace.ensures
          ∙ ap (λ (y : List ℕ). buffer_with a.file.now a.size (replaced a.place a.old y (take a.size a.file.now)))
          (ap (λ (m : ℕ). part from m c.put_new-end.new.out) w.ends ∙ p);
      journal = r;
    }
