-- What still comes on an input of a graph that leads to a spent one makes no difference.
use Rattle.std.proofs.Common.{◌≡◌, ◌≢◌, ℕ, ◌<◌, ◌||◌, Bool, true, false, List, length, slice_get, refl, ap, sym, ◌∙◌, subst, arith}
use Rattle.std.proofs.Common.{[], ◌∷◌, zero, suc}
use Rattle.ff_filter.specs.Joins.{Ports, Grows}
use Rattle.ff_filter.specs.laws.Held.{held_closes}
use Rattle.ff_filter.specs.Views.{View, IsSpent}
use Rattle.ff_graph_dag.specs.declared.graph.Port.{Port}
use Rattle.ff_graph_dag.specs.declared.graph.Plan.{Plan}
use Rattle.ff_graph_dag.specs.declared.placed.Placed.{Placed}
use Rattle.ff_graph_dag.specs.laws.Dags.{Spot, spot_of, held_at, solve_spots, Reads, IsDecided}
use Rattle.ff_graph_dag.specs.laws.Graphs.{spots, no_spot, spot_at, wire_at, feed_at, port_shut, graph_view, Sound}
use Rattle.ff_graph_dag.specs.laws.GraphLaws.{all_spots}
use Rattle.ff_graph_dag.specs.laws.Readings.{spots_size, flag_is, feed_is}
use Rattle.ff_graph_dag.specs.laws.Spends.{spends_at, port_spent, feed_spent}
use Rattle.ff_graph_dag.proofs.Edges.{decided_spent}
use Rattle.ff_graph_dag.proofs.Moving.{node_of, to_there}
use Rattle.ff_graph_dag.proofs.Stopping.{reads_else}
use Rattle.ff_graph_dag.proofs.Halting.{Fixed, Quiet, fixed, solve_read}

-- where these differ at one port alone
abbrev pub SameElse : ℕ → Ports → Ports → Type 0
SameElse i ext ext' = (j : ℕ) → j ≢ i → ext j ≡ ext' j

-- a filter in a list is what it is seen as
placed_at : {F : Type 0} (view : F → View) (spends : F → ℕ → Bool) (ps : List (Placed F)) (k i : ℕ) → k < length ps → spends_at spends (slice_get ps k) i ≡ true
    → (m : Placed F) × (spot_at (spots view ps) k ≡ spot_of view m) × (spends m.filter i ≡ true)
placed_at view spends [] k i lt e = absurd (omega arith)
placed_at view spends (p ∷ ps) zero i lt e = (p, refl, e)
placed_at view spends (p ∷ ps) (suc k) i lt e = placed_at view spends ps k i (omega arith) e

module _ {F : Type 0} (view : F → View) (spends : F → ℕ → Bool) (grows : (m : F) → Grows (view m).rest) (quiet : (m : F) → Quiet (view m))
    (only : (m : F) (i : ℕ) → i < length (view m).ins → spends m i ≡ true → IsSpent (view m) i) (p : Plan) (ps : List (Placed F)) (s : Sound p (spots view ps))
    (i : ℕ) (ilt : i < length p.feeds.items) where
  abbrev here : Port
  here = (wire_at p i).to

  wlt : i < length p.wires.items
  wlt = (s.framed.entries i ilt).wire

  feed_here : feed_at p i ≡ here
  feed_here = feed_is p i (s.framed.entries i ilt)

  klt : here.filter < length (spots view ps)
  klt = omega (arith, s.size, (s.wired i wlt).to_there)

  plt : here.filter < length ps
  plt = omega (arith, klt, spots_size view ps)

  shut_here : (graph_view p (spots view ps)).shut i ≡ port_shut (spots view ps) here
  shut_here = flag_is p.feeds.items (port_shut (spots view ps)) i ilt ∙ ap (λ (f : Port). port_shut (spots view ps) f) feed_here

  -- the filter that it leads to has decided all that it gives
  decided : (graph_view p (spots view ps)).shut i ≡ false → feed_spent spends p ps i ≡ true → IsDecided (spot_at (spots view ps) here.filter).view
  decided unshut e =
      let at = placed_at view spends ps here.filter here.port plt (sym (ap (λ (f : Port). port_spent spends ps f) feed_here) ∙ e) in
      let there : here.port < length (view at.0.filter).ins = subst (λ (a : Spot). here.port < length a.view.ins) at.1 (to_there p (spots view ps) i s wlt) in
      let unfed : (view at.0.filter).shut here.port ≡ false = not_left ((view at.0.filter).shut here.port) (held_closes (held_at at.0.held.items here.port))
      (sym (ap (λ (a : Spot). a.view.shut here.port || held_closes (held_at a.held here.port)) at.1) ∙ (sym shut_here ∙ unshut)) in
      subst (λ (a : Spot). IsDecided a.view) (sym at.1) (decided_spent (view at.0.filter) here.port (grows at.0.filter) unfed (only at.0.filter here.port there at.2))
    where
      not_left : (a b : Bool) → (a || b) ≡ false → a ≡ false
      not_left true b x = cc
      not_left false b x = refl

  pub feed_free : (graph_view p (spots view ps)).shut i ≡ false → feed_spent spends p ps i ≡ true → (ext ext' : Ports) → SameElse i ext ext' → (q : ℕ)
      → (graph_view p (spots view ps)).rest ext q ≡ (graph_view p (spots view ps)).rest ext' q
  feed_free unshut e ext ext' same q =
      let k = node_of p.nodes.items here.filter ((s.wired i wlt).to_there) in
      let way : Reads i here.filter here.port p.nodes.items = (s.framed.entries i ilt).reads in
      let free : Fixed (spot_at (spots view ps) here.filter) = fixed (spot_at (spots view ps) here.filter)
      (all_spots view (λ a. Grows a.view.rest) (λ m. grows m.filter) ps here.filter plt)
      (all_spots view (λ a. Quiet a.view) (λ m. quiet m.filter) ps here.filter plt) (decided unshut e) in
      reads_else p.edges.items i (solve_spots ext (spots view ps) p.nodes.items) (solve_spots ext' (spots view ps) p.nodes.items) (s.wired i wlt).free
      (solve_read (spots view ps) p.nodes.items here.filter here.port no_spot k i ext ext' klt way ((s.fits here.filter k klt).outs) free (λ j n. same j n)) q
