-- Edges fit nodes whose ports have the lanes of the edges.
use Rattle.std.proofs.Common.{◌≡◌, ℕ, zero, suc, ◌<◌, List, [], ◌∷◌, ◌++◌, length, map, Option, Some, refl, sym, ap, ◌∙◌, arith}
use Rattle.std.proofs.lemmas.List.{length-map}
use Rattle.std.specs.List.{AllByRecursion, filter_map, cons_option}
use Rattle.ff_stream.specs.declared.item.Lane.{Lane}
use Rattle.ff_stream.specs.declared.edges.edge.Edge.{Edge}
use Rattle.ff_stream.specs.edges.Ports.{edge_to, edge_from, at_ports, shape_of, IsFed, HasIns, HasOuts, lane_of}
use Rattle.ff_net.specs.Ways.{lane_at}
use Rattle.ff_net_threads.specs.network.Fits.{edge_lanes, AreFit, ports_by}
use Rattle.ff_net_threads.proofs.NetworkLemmas.Fitting.{count_ports}

same_lane : (edges : List Edge) (w : ℕ) → lane_at (edge_lanes edges) w ≡ lane_of edges w
same_lane [] w = refl
same_lane (e ∷ es) zero = refl
same_lane (e ∷ es) (suc w) = same_lane es w

lane_there : (edges : List Edge) (w : ℕ) → w < length edges → (l : Lane) × (lane_of edges w ≡ Some l)
lane_there [] w lt = absurd (omega (arith, lt))
lane_there (e ∷ es) zero lt = (e.lane, refl)
lane_there (e ∷ es) (suc w) lt = lane_there es w (omega (arith, lt))

all_more : (m : ℕ) (ws : List ℕ) (w : ℕ) → AllByRecursion (λ v. v < m) ws → w < m → AllByRecursion (λ v. v < m) (ws ++ w ∷ [])
all_more m [] w all lt = (lt, tt)
all_more m (v ∷ vs) w all lt = (all.0, all_more m vs w all.1 lt)

all_ports : (f : ℕ → ℕ) (n m : ℕ) → ((p : ℕ) → p < n → f p < m) → AllByRecursion (λ v. v < m) (at_ports f n)
all_ports f zero m each = tt
all_ports f (suc n) m each = all_more m (at_ports f n) (f n) (all_ports f n m (λ p lt. each p (omega (arith, lt)))) (each n (omega arith))

-- edges that are there have lanes
lanes_are : (edges : List Edge) (ws : List ℕ) → AllByRecursion (λ w. w < length edges) ws → map (lane_at (edge_lanes edges)) ws ≡ map Some (filter_map (lane_of edges) ws)
lanes_are edges [] all = refl
lanes_are edges (w ∷ ws) all =
    let here = lane_there edges w all.0 in
    ap (λ (o : Option Lane). o ∷ map (lane_at (edge_lanes edges)) ws) (same_lane edges w ∙ here.1)
    ∙ (ap (λ (os : List (Option Lane)). Some here.0 ∷ os) (lanes_are edges ws all.1)
    ∙ ap (λ (o : Option Lane). map Some (cons_option o (filter_map (lane_of edges) ws))) (sym here.1))

module _ (edges : List Edge) (f : ℕ → ℕ) (n : ℕ) (there : (p : ℕ) → p < n → f p < length edges) where
  at_ports_are : map (lane_at (edge_lanes edges)) (at_ports f n) ≡ map Some (filter_map (lane_of edges) (at_ports f n))
  at_ports_are = lanes_are edges (at_ports f n) (all_ports f n (length edges) there)

  -- as many lanes as ports
  as_many : length (filter_map (lane_of edges) (at_ports f n)) ≡ n
  as_many =
      let lanes = filter_map (lane_of edges) (at_ports f n) in
      sym (length-map lanes (λ (l : Lane). Some l))
      ∙ (ap (λ (os : List (Option Lane)). length os) (sym at_ports_are) ∙ (length-map (at_ports f n) (lane_at (edge_lanes edges)) ∙ count_ports f n))

  port_lanes : map (lane_at (edge_lanes edges)) (at_ports f (length (filter_map (lane_of edges) (at_ports f n)))) ≡ map Some (filter_map (lane_of edges) (at_ports f n))
  port_lanes = ap (λ (m : ℕ). map (lane_at (edge_lanes edges)) (at_ports f m)) as_many ∙ at_ports_are

pub own_lanes_fit : (count : ℕ) (edges : List Edge) → IsFed (shape_of edges) count edges → ((k : ℕ) → k < count → HasIns edges k) → ((k : ℕ) → k < count → HasOuts edges k) → AreFit (ports_by edges) count edges
own_lanes_fit count edges fed ins outs = record {
  ins = λ k lt. port_lanes edges (edge_to edges k) (shape_of edges k).inputs (ins k lt).there;
  outs = λ k lt. port_lanes edges (edge_from edges k) (shape_of edges k).outputs (outs k lt).there;
  fed = λ k p klt plt.
      (let many = as_many edges (edge_to edges k) (shape_of edges k).inputs (ins k klt).there in
      let r = fed k p klt (omega (arith, plt, many)) in
      let jlt = r.2 in
      let qlt = r.3 in
      let more = as_many edges (edge_from edges r.0) (shape_of edges r.0).outputs (outs r.0 (omega (arith, jlt, klt))).there in
      (r.0, r.1, r.2, omega (arith, qlt, more), r.4));
}
