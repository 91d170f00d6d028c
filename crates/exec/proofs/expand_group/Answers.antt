-- `expand_group` meets its contract: the calls that led to each return say which answer the definition has. Assumes nothing.
use native.Mathlib.Omega.{arith}
use mathlib.Core.Path.{sym, ◌∙◌}
use Rattle.fault.proofs.Answers.{handed-on}
use lib.Seq.{length-take-le}
use Rattle.base.specs.Lists.{ascii}
use Rattle.rows.specs.Title.{Key}
use Rattle.run.specs.Step.{items_in}
use Rattle.exec.proofs.Values.{key-value, value-short, text-given}
use Rattle.exec.proofs.Expanding.{refused-leaves, group-missing, group-unread, group-short, group-wrong, group-right}
use Rattle.exec.proofs.expand_group.Goals as goal

pub returns-in_default : goal.returns-in_default
returns-in_default c =
    let a = c.args in
    refused-leaves a.out.now (group-missing a.file.now a.group.now a.locale.now a.location.now (items_in a.list.now) a.run (sym c.find_key.ensures ∙ c.in_default.is))

pub slice_bounds-read_whole-count : goal.slice_bounds-read_whole-count
slice_bounds-read_whole-count c =
    let a = c.args in
    let w = key-value a.file.now (Key a.group.now (ascii "Exec")) (sym c.find_key.ensures ∙ c.in-Some.is) in
    w.ordered

pub slice_bounds-read_whole-end : goal.slice_bounds-read_whole-end
slice_bounds-read_whole-end c =
    let a = c.args in
    let w = key-value a.file.now (Key a.group.now (ascii "Exec")) (sym c.find_key.ensures ∙ c.in-Some.is) in
    w.inside

pub read_whole-requires : goal.read_whole-requires
read_whole-requires c =
    let a = c.args in
    let w = key-value a.file.now (Key a.group.now (ascii "Exec")) (sym c.find_key.ensures ∙ c.in-Some.is) in
    omega (arith, value-short w)

pub returns-in_err-exec_end : goal.returns-in_err-exec_end
returns-in_err-exec_end c =
    let a = c.args in
    let w = key-value a.file.now (Key a.group.now (ascii "Exec")) (sym c.find_key.ensures ∙ c.in-Some.is) in
    rw (handed-on _ c.from_residual.ensures.1) (refused-leaves a.out.now (group-unread a.file.now a.group.now a.locale.now a.location.now (items_in a.list.now) a.run w (rw c.in_err-exec_end.was at c.read_whole.ensures)))

pub slice_bounds-exec-end : goal.slice_bounds-exec-end
slice_bounds-exec-end c =
    let a = c.args in
    let w = key-value a.file.now (Key a.group.now (ascii "Exec")) (sym c.find_key.ensures ∙ c.in-Some.is) in
    (text-given w (rw c.in_ok-exec_end.was at c.read_whole.ensures)).1

pub check_command-requires : goal.check_command-requires
check_command-requires c =
    let a = c.args in
    let w = key-value a.file.now (Key a.group.now (ascii "Exec")) (sym c.find_key.ensures ∙ c.in-Some.is) in
    omega (arith, group-short a.file.now a.group.now a.locale.now a.location.now (items_in a.list.now) a.run w (text-given w (rw c.in_ok-exec_end.was at c.read_whole.ensures)).0)

pub run_command-requires : goal.run_command-requires
run_command-requires c =
    let a = c.args in
    let w = key-value a.file.now (Key a.group.now (ascii "Exec")) (sym c.find_key.ensures ∙ c.in-Some.is) in
    let t = text-given w (rw c.in_ok-exec_end.was at c.read_whole.ensures) in
    (omega (arith, c.requires.1, group-short a.file.now a.group.now a.locale.now a.location.now (items_in a.list.now) a.run w t.0), (group-right a.file.now a.group.now a.locale.now a.location.now (items_in a.list.now) a.run w t.0 (sym c.in_ok-seen.was ∙ c.check_command.ensures)).1, c.requires.0, c.requires.1, c.requires.2, c.requires.3, c.requires.4)

pub returns-in_err-seen : goal.returns-in_err-seen
returns-in_err-seen c =
    let a = c.args in
    let w = key-value a.file.now (Key a.group.now (ascii "Exec")) (sym c.find_key.ensures ∙ c.in-Some.is) in
    rw (handed-on _ c.from_residual-in_err-seen.ensures.1) (refused-leaves a.out.now (group-wrong a.file.now a.group.now a.locale.now a.location.now (items_in a.list.now) a.run w (text-given w (rw c.in_ok-exec_end.was at c.read_whole.ensures)).0 (sym c.in_err-seen.was ∙ c.check_command.ensures)))

pub returns : goal.returns
returns c =
    let a = c.args in
    let w = key-value a.file.now (Key a.group.now (ascii "Exec")) (sym c.find_key.ensures ∙ c.in-Some.is) in
    rw (group-right a.file.now a.group.now a.locale.now a.location.now (items_in a.list.now) a.run w (text-given w (rw c.in_ok-exec_end.was at c.read_whole.ensures)).0 (sym c.in_ok-seen.was ∙ c.check_command.ensures)).0 c.run_command.ensures

pub slice_bounds-read_whole-start : goal.slice_bounds-read_whole-start
slice_bounds-read_whole-start c =
    let a = c.args in
    let w = key-value a.file.now (Key a.group.now (ascii "Exec")) (sym c.find_key.ensures ∙ c.in-Some.is) in
    w.ordered
