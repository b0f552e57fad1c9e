-- The plan of a drawing of filters behind limits is behind limits.
use Rattle.std.proofs.Common.{◌≡◌, ℕ, zero, suc, ◌<◌, ◌≤◌, Bool, List, [], ◌∷◌, length, map, slice_get, slice_index_or, Option, None, Some, refl, ap, sym, ◌∙◌, subst, arith}
use Rattle.ff_stream.specs.declared.item.Lane.{Lane}
use Rattle.ff_stream.specs.Ports.{nothing, stream_at}
use Rattle.ff_net.specs.Nets.{solve_from}
use Rattle.ff_filter.specs.Joins.{Flow, Ports}
use Rattle.ff_node_filter.specs.Limiting.{IsLimited}
use Rattle.ff_graph_links.specs.declared.pads.drawn.Pad.{Pad}
use Rattle.ff_graph_dag.specs.declared.graph.Node.{Node}
use Rattle.ff_graph_dag.specs.declared.graph.Plan.{Plan}
use Rattle.ff_graph_dag.specs.laws.Dags.{Spot}
use Rattle.ff_graph_dag.specs.laws.Graphs.{spot_at, Fits}
use Rattle.ff_graph_dag.specs.laws.Parts.{AreNew, composed, parts_of}
use Rattle.ff_graph_dag.specs.laws.ties.Tied.{IsTied}
use Rattle.ff_graph_dag.specs.laws.wiring.Wires.{wires_of, IsWired}
use Rattle.ff_graph_dag.specs.wiring.Flows.{Flows, no_flows, flows_from, port_at, placed, placed_pads, placed_counts, IsDrawing}
use Rattle.ff_graph_dag.specs.wiring.Limits.{flows_at, cuts_from, AreLimited, Leave}
use Rattle.ff_graph_dag.proofs.WiringLemmas.Tying.{map_size, numbers_size}
use Rattle.ff_graph_dag.proofs.WiringLemmas.Meaning.{got_above, reads_past}
use Rattle.ff_graph_dag.proofs.WiringLemmas.LimitedGraphs.{at_got, graph_limited}
use Rattle.ff_graph_dag.proofs.WiringLemmas.Drawn.{drawn_means}

at_past : (os : List Pad) (f : Flows) (q : ℕ) → slice_get os q ≡ None → flows_at os f q ≡ nothing
at_past [] f q e = refl
at_past (o ∷ os) f zero e = cc
at_past (o ∷ os) f (suc q) e = at_past os f q e

got_none : {A : Type 0} (xs : List A) (k : ℕ) → length xs ≤ k → slice_get xs k ≡ None
got_none [] k le = refl
got_none (x ∷ xs) zero le = absurd (omega arith)
got_none (x ∷ xs) (suc k) le = got_none xs k (omega arith)

module _ (sources : List (List (Option Pad))) (order counts : List ℕ) (opens outs : List Pad) (d : IsDrawing sources order counts opens outs)
    (p : Plan) (w : IsWired (placed order sources) (placed_counts order counts) (placed_pads order opens) (placed_pads order outs) p) (t : IsTied p)
    (ss : List Spot) (size : length ss ≡ length p.nodes.items)
    (fits : (k : ℕ) (m : Node) → k < length ss → Fits (spot_at ss k) (slice_index_or p.nodes.items k m)) (new : AreNew ss) where
  abbrev pub flows : Ports → Flows
  flows ext = flows_from sources opens ext no_flows order (map (λ s. s.view) ss)

  no_edge : (q : ℕ) → slice_get outs q ≡ None → slice_get p.edges.items q ≡ None
  no_edge q e =
      let le : length outs ≤ q = got_above outs q e in
      let z : length p.edges.items ≡ length outs = ap length w.edges
      ∙ (numbers_size (length (wires_of (placed order sources) (placed_pads order opens))) (length (placed_pads order outs))
      ∙ map_size (λ (r : Pad). port_at order r) outs) in
      got_none p.edges.items q (omega (arith, z, le))

  same_at : (ext : Ports) (q : ℕ) (o : Option Pad) → slice_get outs q ≡ o → composed p ss ext q ≡ flows_at outs (flows ext) q
  same_at ext q None e = reads_past p.edges.items (solve_from ext (parts_of ss p.nodes.items)) q (no_edge q e) ∙ sym (at_past outs (flows ext) q e)
  same_at ext q (Some out) e = drawn_means sources order counts opens outs d p w t ss size fits new ext q out e ∙ sym (at_got outs (flows ext) q out e)

  abbrev pub composing : Ports → Ports
  composing ext q = composed p ss ext q

  abbrev pub leaving_pads : Ports → Ports
  leaving_pads ext = flows_at outs (flows ext)

  same : composing ≡ leaving_pads
  same = λ j ext q. same_at ext q (slice_get outs q) refl j

  pub drawn_limited : (ins : List Lane) (lanes : Pad → Option Lane) (leaving : List Lane) (cs : List (List Flow → Bool)) → Leave lanes outs leaving
      → AreLimited sources opens ins lanes order (map (λ s. s.view) ss) cs
      → IsLimited ins leaving (λ ext q. composed p ss ext q) (λ rs. cuts_from sources opens (stream_at rs) no_flows order (map (λ s. s.view) ss) cs)
  drawn_limited ins lanes leaving cs leave l =
      subst (λ (f : Ports → Ports). IsLimited ins leaving f (λ rs. cuts_from sources opens (stream_at rs) no_flows order (map (λ s. s.view) ss) cs)) (sym same)
      (graph_limited sources opens ins lanes leaving outs leave order (map (λ s. s.view) ss) cs l)
