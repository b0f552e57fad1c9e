use Rattle.std.proofs.Common.{ℕ, ◌+◌, ◌-◌, List, ◌++◌, sym, ap, ◌∙◌, append_assoc}
use Rattle.std.specs.List.{range_with_len}
use Rattle.ff_plan_layout.specs.declared.layout.InPad.{InPad}
use Rattle.ff_plan_layout.specs.Pads.{outs_of_made, made_at, unlabelled}
use Rattle.ff_plan_layout.proofs.Filters.{range_next}
use Rattle.ff_plan_layout.proofs.making.unlabelled.Goals as goal

pub loop-graph-preserved : goal.loop-graph-preserved
loop-graph-preserved c =
    let made = c.args.made.now in
    let g = c.loop-graph.graph in
    let front = c.loop-graph.pads.items in
    let rest = unlabelled made (range_with_len (g + 1) (c.args.graphs - (g + 1))) in
    ap (λ (l : List InPad). l ++ rest) c.in_ok-add_outs_of.ensures
    ∙ (append_assoc front (outs_of_made g (made_at made g)) rest
    ∙ (ap (λ (r : List ℕ). front ++ unlabelled made r) (sym (range_next g c.args.graphs c.loop-graph-test.true)) ∙ c.loop-graph.invariant))
