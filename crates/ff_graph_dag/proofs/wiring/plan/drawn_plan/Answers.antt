use Rattle.std.proofs.Common.{◌≡◌, ℕ, List, Option, ap, subst, sym, ◌∙◌}
use Rattle.ff_graph_links.specs.pads.Links.{pads_in}
use Rattle.ff_graph_dag.specs.declared.graph.Port.{Port}
use Rattle.ff_graph_dag.specs.wiring.Flows.{placed, placed_counts, placed_pads}
use Rattle.ff_graph_dag.specs.laws.wiring.Wires.{feeds_in, IsLinked}
use Rattle.ff_graph_dag.proofs.WiringLemmas.Linking.{linked}
use Rattle.ff_graph_dag.proofs.wiring.plan.drawn_plan.Goals as goal

pub wired-requires-clause-linked : goal.wired-requires-clause-linked
wired-requires-clause-linked c =
    let d = c.args.drawing.now in
    let fed : feeds_in c.deref.result.now ≡ placed d.order.now (pads_in d.sources.now) = ap (λ vs. feeds_in vs) c.deref.ensures.value ∙ c.in_ok-fed.ensures in
    let counts : c.deref-2.result.now ≡ placed_counts d.order.now d.counts.now = c.deref-2.ensures.value ∙ c.in_ok-counted.ensures in
    let feeds : c.in_ok-feeds.feeds.items ≡ placed_pads d.order.now d.opens.now = c.in_ok-feeds.ensures in
    let pads : c.in_ok-pads.pads.items ≡ placed_pads d.order.now d.outs.now = c.in_ok-pads.ensures in
    subst (λ (a : List (List (Option Port))). IsLinked a c.deref-2.result.now c.in_ok-feeds.feeds.items c.in_ok-pads.pads.items) (sym fed)
    (subst (λ (b : List ℕ). IsLinked (placed d.order.now (pads_in d.sources.now)) b c.in_ok-feeds.feeds.items c.in_ok-pads.pads.items) (sym counts)
    (subst (λ (e : List Port). IsLinked (placed d.order.now (pads_in d.sources.now)) (placed_counts d.order.now d.counts.now) e c.in_ok-pads.pads.items) (sym feeds)
    (subst (λ (g : List Port). IsLinked (placed d.order.now (pads_in d.sources.now)) (placed_counts d.order.now d.counts.now)
    (placed_pads d.order.now d.opens.now) g) (sym pads)
    (linked (pads_in d.sources.now) d.order.now d.counts.now d.opens.now d.outs.now c.requires.drawing))))
