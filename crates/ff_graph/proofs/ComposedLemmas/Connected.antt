-- The plan of a drawing, with filters that are ready in its places.
use Rattle.std.proofs.Common.{◌≡◌, ℕ, zero, suc, ◌≤◌, List, [], ◌∷◌, length, map, slice_get, Option, None, Some, Result, Ok, Err, IfOk, refl, ap, sym, ◌∙◌, arith}
use Rattle.ff_stream.specs.Ports.{nothing}
use Rattle.ff_net.specs.Nets.{solve_from}
use Rattle.ff_filter.specs.Joins.{Ports}
use Rattle.ff_filter.specs.Views.{View}
use Rattle.ff_graph_links.specs.declared.pads.drawn.Pad.{Pad}
use Rattle.ff_graph_dag.specs.declared.graph.Plan.{Plan}
use Rattle.ff_graph_dag.specs.laws.Dags.{Spot}
use Rattle.ff_graph_dag.specs.laws.Graphs.{Sound}
use Rattle.ff_graph_dag.specs.laws.Parts.{composed, parts_of}
use Rattle.ff_graph_dag.specs.laws.ties.Tied.{IsTied}
use Rattle.ff_graph_dag.proofs.TiesLemmas.Tying.{tied_sound}
use Rattle.ff_graph_dag.specs.laws.wiring.Wires.{wires_of, IsWired}
use Rattle.ff_graph_dag.specs.wiring.Flows.{Flows, no_flows, flows_from, port_at, placed, placed_pads, placed_counts, IsDrawing}
use Rattle.ff_graph_dag.specs.wiring.Limits.{flows_at}
use Rattle.ff_graph_dag.proofs.WiringLemmas.Tying.{numbers_size}
use Rattle.ff_graph_dag.proofs.WiringLemmas.Meaning.{reads_past}
use Rattle.ff_graph_dag.proofs.WiringLemmas.LimitedGraphs.{at_got}
use Rattle.ff_graph_dag.proofs.WiringLemmas.Drawn.{drawn_means}
use Rattle.ff_graph.specs.laws.composed.Ready.{new_spot, AreReady}
use Rattle.ff_graph.proofs.ComposedLemmas.Elements.{got_above, none_got, map_size}
use Rattle.ff_graph.proofs.ComposedLemmas.Fitting.{size, new, fits}

views_of : (vs : List View) → map (λ (s : Spot). s.view) (map (λ (v : View). new_spot v) vs) ≡ vs
views_of [] = refl
views_of (v ∷ vs) = ap (λ (xs : List View). v ∷ xs) (views_of vs)

at_past : (os : List Pad) (f : Flows) (q : ℕ) → slice_get os q ≡ None → flows_at os f q ≡ nothing
at_past [] f q e = refl
at_past (o ∷ os) f zero e = cc
at_past (o ∷ os) f (suc q) e = at_past os f q e

module _ (sources : List (List (Option Pad))) (order counts : List ℕ) (opens outs : List Pad) (d : IsDrawing sources order counts opens outs)
    (vs : List View) (r : AreReady sources counts order vs)
    (p : Plan) (w : IsWired (placed order sources) (placed_counts order counts) (placed_pads order opens) (placed_pads order outs) p) (t : IsTied p)
    (ss : List Spot) (are : ss ≡ map (λ v. new_spot v) vs) where
  pub is_sound : Sound p ss
  is_sound = tied_sound p t ss (size sources order counts opens outs vs r p w ss are) (fits sources order counts opens outs vs r p w ss are) (new sources order counts opens outs vs r p w ss are)

  no_edge : (q : ℕ) → slice_get outs q ≡ None → slice_get p.edges.items q ≡ None
  no_edge q e =
      let le : length outs ≤ q = got_above outs q e in
      let z : length p.edges.items ≡ length outs = ap (λ (xs : List ℕ). length xs) w.edges
      ∙ numbers_size (length (wires_of (placed order sources) (placed_pads order opens))) (length (placed_pads order outs))
      ∙ map_size (λ (x : Pad). port_at order x) outs in
      none_got p.edges.items q (omega (arith, z, le))

  views_are : map (λ (s : Spot). s.view) ss ≡ vs
  views_are = ap (λ (xs : List Spot). map (λ (s : Spot). s.view) xs) are ∙ views_of vs

  means_at : (ext : Ports) (q : ℕ) (o : Option Pad) → slice_get outs q ≡ o → composed p ss ext q ≡ flows_at outs (flows_from sources opens ext no_flows order vs) q
  means_at ext q None e =
      reads_past p.edges.items (solve_from ext (parts_of ss p.nodes.items)) q (no_edge q e) ∙ sym (at_past outs (flows_from sources opens ext no_flows order vs) q e)
  means_at ext q (Some out) e =
      drawn_means sources order counts opens outs d p w t ss (size sources order counts opens outs vs r p w ss are) (fits sources order counts opens outs vs r p w ss are)
      (new sources order counts opens outs vs r p w ss are) ext q out e
      ∙ ap (λ (xs : List View). flows_from sources opens ext no_flows order xs out) views_are
      ∙ sym (at_got outs (flows_from sources opens ext no_flows order vs) q out e)

  pub means : (ext : Ports) (q : ℕ) → composed p ss ext q ≡ flows_at outs (flows_from sources opens ext no_flows order vs) q
  means ext q = means_at ext q (slice_get outs q) refl

-- what a filter still gives, in other words
pub then_means : {D E : Type 0} (r : Result D E) (rest_of : D → Ports → Ports) (f h : Ports → Ports) → ((ext : Ports) (q : ℕ) → f ext q ≡ h ext q)
    → IfOk r (λ m. (ext : Ports) (q : ℕ) → rest_of m ext q ≡ f ext q) → IfOk r (λ m. (ext : Ports) (q : ℕ) → rest_of m ext q ≡ h ext q)
then_means (Ok m) rest_of f h e k = λ ext q. k ext q ∙ e ext q
then_means (Err x) rest_of f h e k = k
