use Rattle.std.proofs.Common.{◌≡◌, ℕ, ◌||◌, Bool, List, map, length, ap, ◌∙◌, arith}
use Rattle.ff_graph_links.specs.labels.Order.{below, cell, reaches}
use Rattle.ff_graph_links.specs.laws.labels.Tables.{marks}
use Rattle.ff_graph_links.proofs.LabelsLemmas.Tabled.{next_step, back_is}
use Rattle.ff_graph_links.proofs.labels.order.comes_back.Goals as goal

pub loop-step-preserved : goal.loop-step-preserved
loop-step-preserved c =
    let rows = marks c.args.rows.now in
    let n = length c.args.rows.now in
    c.in_ok-next.ensures
    ∙ (ap (λ (l : List Bool). map (λ (to : ℕ). cell rows c.args.graph to || reaches rows to 0 l) (below n)) (c.as_slice.ensures.value ∙ c.loop-step.invariant)
    ∙ next_step rows n c.args.graph c.loop-step.step)

pub returns : goal.returns
returns c =
    let n = length c.args.rows.now in
    let end : c.loop-step.step ≡ n = omega arith in
    c.marked.ensures
    ∙ back_is (marks c.args.rows.now) n c.loop-step.step c.args.graph c.as_slice-all.result.now c.loop-step.behind.items c.as_slice-all.ensures.value c.loop-step.invariant end c.requires
