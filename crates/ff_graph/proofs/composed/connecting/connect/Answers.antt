use Rattle.std.proofs.Common.{ℕ, map}
use Rattle.ff_filter.specs.Joins.{Ports}
use Rattle.ff_graph_links.specs.pads.Links.{pads_in}
use Rattle.ff_graph_dag.specs.laws.Graphs.{graph_view, spots}
use Rattle.ff_graph_dag.specs.laws.Parts.{composed}
use Rattle.ff_graph_dag.specs.wiring.Flows.{no_flows, flows_from}
use Rattle.ff_graph_dag.specs.wiring.Limits.{flows_at}
use Rattle.ff_graph.proofs.ComposedLemmas.Fitting.{new}
use Rattle.ff_graph.proofs.ComposedLemmas.Connected.{is_sound, means, then_means}
use Rattle.ff_graph.proofs.composed.connecting.connect.Goals as goal

pub new-requires-clause-sound : goal.new-requires-clause-sound
new-requires-clause-sound g c =
    let d = c.args.drawing.now in
    is_sound (pads_in d.sources.now) d.order.now d.counts.now d.opens.now d.outs.now c.requires.drawing (map g.F.Filter.view c.args.filters.items) c.requires.ready
    c.in_ok-plan.plan c.in_ok-plan.ensures.wired c.in_ok-plan.ensures.tied (spots g.F.Filter.view c.in_ok-placed.placed.items) c.in_ok-placed.ensures

pub new-requires-clause-new : goal.new-requires-clause-new
new-requires-clause-new g c =
    let d = c.args.drawing.now in
    new (pads_in d.sources.now) d.order.now d.counts.now d.opens.now d.outs.now (map g.F.Filter.view c.args.filters.items) c.requires.ready
    c.in_ok-plan.plan c.in_ok-plan.ensures.wired (spots g.F.Filter.view c.in_ok-placed.placed.items) c.in_ok-placed.ensures

pub returns-clause-means : goal.returns-clause-means
returns-clause-means g c =
    let d = c.args.drawing.now in
    let vs = map g.F.Filter.view c.args.filters.items in
    let ss = spots g.F.Filter.view c.in_ok-placed.placed.items in
    then_means c.new.result (λ m. (graph_view m.graph.plan (spots g.F.Filter.view m.graph.places.items)).rest)
    (λ (ext : Ports) (q : ℕ). composed c.in_ok-plan.plan ss ext q)
    (λ (ext : Ports) (q : ℕ). flows_at d.outs.now (flows_from (pads_in d.sources.now) d.opens.now ext no_flows d.order.now vs) q)
    (means (pads_in d.sources.now) d.order.now d.counts.now d.opens.now d.outs.now c.requires.drawing vs c.requires.ready
    c.in_ok-plan.plan c.in_ok-plan.ensures.wired c.in_ok-plan.ensures.tied ss c.in_ok-placed.ensures)
    c.new.ensures.composes
