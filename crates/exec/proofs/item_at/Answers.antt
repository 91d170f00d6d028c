-- `item_at` meets its contract: the record that is found holds the item. Assumes nothing.
use mathlib.Core.Path.{sym, ◌∙◌}
use lib.ListN.{get_or-eq_default}
use Rattle.base.specs.Bounds.{list_most}
use Rattle.record.proofs.Bodies.{list-cut}
use Rattle.record.proofs.Seek.{nth-body, nth_past}
use Rattle.run.specs.Step.{items_in}
use Rattle.exec.proofs.Asking.{reads-some}
use mathlib.Core.List.{[]}
use Rattle.exec.proofs.item_at.Goals as goal

pub nth-requires : goal.nth-requires
nth-requires c = list-cut 2 list_most c.args.list.now (reads-some c.args.list.now c.requires)

pub returns-in_default : goal.returns-in_default
returns-in_default c =
    sym (get_or-eq_default (items_in c.args.list.now) [] (nth_past 2 list_most c.args.list.now c.args.n (reads-some c.args.list.now c.requires) (sym c.nth.ensures ∙ c.in_default.is)))

pub slice_bounds-result-count : goal.slice_bounds-result-count
slice_bounds-result-count c =
    (nth-body 2 list_most c.args.list.now c.args.n (reads-some c.args.list.now c.requires) (sym c.nth.ensures ∙ c.in-Some.is)).ordered

pub returns : goal.returns
returns c =
    (nth-body 2 list_most c.args.list.now c.args.n (reads-some c.args.list.now c.requires) (sym c.nth.ensures ∙ c.in-Some.is)).body

pub slice_bounds-result-start : goal.slice_bounds-result-start
slice_bounds-result-start c =
    (nth-body 2 list_most c.args.list.now c.args.n (reads-some c.args.list.now c.requires) (sym c.nth.ensures ∙ c.in-Some.is)).ordered

pub slice_bounds-result-end-2 : goal.slice_bounds-result-end-2
slice_bounds-result-end-2 c =
    (nth-body 2 list_most c.args.list.now c.args.n (reads-some c.args.list.now c.requires) (sym c.nth.ensures ∙ c.in-Some.is)).inside
