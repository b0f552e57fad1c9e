-- A plan that was made of a drawing stands for its filters, one after another.
use Rattle.std.proofs.Common.{◌≡◌, ℕ, ◌<◌, List, length, map, slice_get, slice_index_or, Option, None, Some, ap, ◌∙◌}
use Rattle.ff_filter.specs.Joins.{Ports}
use Rattle.ff_graph_links.specs.declared.pads.drawn.Pad.{Pad}
use Rattle.ff_graph_dag.specs.declared.graph.Node.{Node}
use Rattle.ff_graph_dag.specs.declared.graph.Port.{Port}
use Rattle.ff_graph_dag.specs.declared.graph.Plan.{Plan}
use Rattle.ff_graph_dag.specs.laws.Dags.{Spot}
use Rattle.ff_graph_dag.specs.laws.Graphs.{spot_at, Fits}
use Rattle.ff_graph_dag.specs.laws.Parts.{AreNew, composed}
use Rattle.ff_graph_dag.specs.laws.ties.Tied.{IsTied}
use Rattle.ff_graph_dag.specs.laws.wiring.Wires.{IsWired}
use Rattle.ff_graph_dag.specs.wiring.Flows.{no_flows, flows_from, port_at, placed, placed_pads, placed_counts, pad_at, IsDrawing}
use Rattle.ff_graph_dag.proofs.WiringLemmas.Tying.{mapped, map_size, nodes_size}
use Rattle.ff_graph_dag.proofs.WiringLemmas.Ordering.{solves, back_again}
use Rattle.ff_graph_dag.proofs.WiringLemmas.Linking.{linked, fed_stands, from_stands, counted_stands}
use Rattle.ff_graph_dag.proofs.WiringLemmas.Meaning.{composed_as}

module _ (sources : List (List (Option Pad))) (order counts : List ℕ) (opens outs : List Pad) (d : IsDrawing sources order counts opens outs)
    (p : Plan) (w : IsWired (placed order sources) (placed_counts order counts) (placed_pads order opens) (placed_pads order outs) p) (t : IsTied p)
    (ss : List Spot) (size : length ss ≡ length p.nodes.items)
    (fits : (k : ℕ) (m : Node) → k < length ss → Fits (spot_at ss k) (slice_index_or p.nodes.items k m)) (new : AreNew ss) (ext : Ports) where
  same_size : length (map (λ s. s.view) ss) ≡ length order
  same_size =
      let a : length (map (λ (s : Spot). s.view) ss) ≡ length ss = map_size (λ (s : Spot). s.view) ss in
      let b : length p.nodes.items ≡ length (placed_counts order counts) =
      nodes_size (placed order sources) (placed_counts order counts) (placed_pads order opens) (placed_pads order outs) (linked sources order counts opens outs d) p w in
      let c : length (placed_counts order counts) ≡ length order = map_size (λ (n : ℕ). slice_index_or counts n 0) order in
      a ∙ (size ∙ (b ∙ c))

  pub drawn_means : (q : ℕ) (out : Pad) → slice_get outs q ≡ Some out → composed p ss ext q ≡ flows_from sources opens ext no_flows order (map (λ s. s.view) ss) out
  drawn_means q out e =
      let pad : slice_get p.pads.items q ≡ Some (port_at order out) = ap (λ (fs : List Port). slice_get fs q) w.pads
      ∙ mapped (λ (r : Pad). port_at order r) outs q out e in
      composed_as (placed order sources) (placed_counts order counts) (placed_pads order opens) (placed_pads order outs)
      (linked sources order counts opens outs d) p w t ss size fits new ext
      (λ (f : Port). flows_from sources opens ext no_flows order (map (λ s. s.view) ss) (pad_at order f))
      (solves order sources d.forward opens (λ i r g. fed_stands sources order counts opens outs d r.filter r.pad None (d.opens_open i r g))
      (λ f i from g. from_stands sources order counts opens outs d f i from g) ext (map (λ s. s.view) ss) same_size)
      q (port_at order out) pad
      ∙ ap (λ (n : ℕ). flows_from sources opens ext no_flows order (map (λ s. s.view) ss) (record { filter = n; pad = out.pad }))
      (back_again order sources d.forward out.filter (counted_stands sources order counts opens outs d out (d.outs_there q out e)))
