-- The output that an edge leaves is stopped, where the filter that it leads to needs no more.
use Rattle.std.proofs.Common.{◌≡◌, ◌≢◌, ℕ, zero, suc, ◌<◌, ◌==◌, Bool, true, false, List, [], ◌∷◌, length, Some, slice_index_or, slice_set, refl, ap}
use Rattle.std.proofs.Common.{cond, sym, ◌∙◌, subst, arith}
use Rattle.std.proofs.lemmas.Bool.Decides.{nat_tests}
use Rattle.ff_stream.specs.Ports.{nothing}
use Rattle.ff_stream.specs.laws.Order.{closed_below, nothing_below}
use Rattle.ff_filter.specs.Joins.{Flow, Ports, Grows, silence}
use Rattle.ff_filter.specs.Views.{View, Same}
use Rattle.ff_graph_dag.specs.declared.graph.Node.{Node}
use Rattle.ff_graph_dag.specs.declared.graph.Port.{Port}
use Rattle.ff_graph_dag.specs.declared.graph.Wire.{Wire}
use Rattle.ff_graph_dag.specs.declared.graph.Plan.{Plan}
use Rattle.ff_graph_dag.specs.declared.placed.Placed.{Placed}
use Rattle.ff_graph_dag.specs.laws.Dags.{Spot, spot_of, comes, gives, after, solve_spots, Reads, Leads, IsDecided, Halted}
use Rattle.ff_graph_dag.specs.laws.Graphs.{spots, no_spot, spot_at, wire_at, port_shut, port_ended, port_stopped, graph_view, Apart, OutThere, Sound}
use Rattle.ff_graph_dag.specs.laws.GraphLaws.{all_spots}
use Rattle.ff_graph_dag.proofs.Edges.{OutsFit}
use Rattle.ff_graph_dag.proofs.Moving.{spots_set, spot_is, node_of, each_both, each_all, flags, from_there}
use Rattle.ff_graph_dag.proofs.Stopping.{Else, put_else, reads_else, after_else, solve_else, stands_is, left_sound, stops_else, shuts, ends}
use Rattle.ff_graph_dag.proofs.Carrying.{Fine, source_there, filter_there}

-- what a filter gives doesn't depend on what comes to it
abbrev pub Fixed : Spot → Type 0
Fixed a = (n : Node) (σ τ : Ports) (q : ℕ) → q < length a.view.outs → gives a n σ q ≡ gives a n τ q

abbrev pub Quiet : View → Type 0
Quiet v = (q : ℕ) → v.ended q ≡ true → (ext : Ports) → v.rest ext q ≡ nothing

pub fixed : (a : Spot) → Grows a.view.rest → Quiet a.view → IsDecided a.view → Fixed a
fixed a grows quiet d n σ τ q lt = at (a.view.stopped q) refl (a.view.ended q) refl
  where
    one : (ρ : Ports) → a.view.stopped q ≡ false → a.view.ended q ≡ false → a.view.rest silence q ≡ a.view.rest (comes a n ρ) q
    one ρ on going = closed_below (a.view.rest silence q) (a.view.rest (comes a n ρ) q) (grows silence (comes a n ρ) (λ i. nothing_below (comes a n ρ i)) q)
        (d silence q lt on going)

    at : (b : Bool) → a.view.stopped q ≡ b → (c : Bool) → a.view.ended q ≡ c → gives a n σ q ≡ gives a n τ q
    at true k c e = rw k refl
    at false k true e = ap (λ (t : Flow). cond (a.view.stopped q) nothing t) (quiet q e (comes a n σ) ∙ sym (quiet q e (comes a n τ)))
    at false k false e = ap (λ (t : Flow). cond (a.view.stopped q) nothing t) (sym (one σ k e) ∙ one τ k e)

-- a filter that reads the edge and gives the same whatever comes
pub solve_read : (ss : List Spot) (ns : List Node) (k i : ℕ) (d : Spot) (m : Node) (w : ℕ) (σ τ : Ports) → k < length ss → Reads w k i ns
    → OutsFit (slice_index_or ss k d) (slice_index_or ns k m) → Fixed (slice_index_or ss k d) → Else w σ τ → Else w (solve_spots σ ss ns) (solve_spots τ ss ns)
solve_read [] ns k i d m w σ τ lt f l x e = absurd (omega arith)
solve_read (t ∷ ss) [] k i d m w σ τ lt f l x e = absurd f
solve_read (t ∷ ss) (n ∷ ns) zero i d m w σ τ lt f l x e = solve_else ss ns w (after t n σ) (after t n τ) f.2
    (put_else n.outs.items (gives t n σ) (gives t n τ) σ τ w e (λ o olt k. x n σ τ o (omega (arith, l, olt))))
solve_read (t ∷ ss) (n ∷ ns) (suc k) i d m w σ τ lt f l x e = solve_read ss ns k i d m w (after t n σ) (after t n τ) (omega arith) f.1 l x
    (after_else t n w σ τ f.0.0 e)

-- nothing changes but on the edge
solve_cut : (ss : List Spot) (ns : List Node) (j q k i : ℕ) (d s d2 : Spot) (m m2 : Node) (w : ℕ) → k < length ss → Leads w j q k i ns
    → OutsFit (slice_index_or ss j d) (slice_index_or ns j m) → Halted (slice_index_or ss j d) s q
    → OutsFit (slice_index_or ss k d2) (slice_index_or ns k m2) → Fixed (slice_index_or ss k d2)
    → (σ : Ports) → Else w (solve_spots σ (slice_set ss j s) ns) (solve_spots σ ss ns)
solve_cut [] ns j q k i d s d2 m m2 w lt f l g l2 x σ = absurd (omega arith)
solve_cut (t ∷ ss) [] j q k i d s d2 m m2 w lt f l g l2 x σ = absurd f
solve_cut (t ∷ ss) (n ∷ ns) j q zero i d s d2 m m2 w lt f l g l2 x σ = absurd f
solve_cut (t ∷ ss) (n ∷ ns) zero q (suc k) i d s d2 m m2 w lt f l g l2 x σ = solve_read ss ns k i d2 m2 w (after s n σ) (after t n σ) (omega arith) f.2 l2 x
    (put_else n.outs.items (gives s n σ) (gives t n σ) σ σ w (λ u z. refl) (λ o olt z. g.gives_is n σ o (omega (arith, l, olt))
    (λ e. z (ap (λ (r : ℕ). slice_index_or n.outs.items r 0) e ∙ stands_is n.outs.items w q f.1))))
solve_cut (t ∷ ss) (n ∷ ns) (suc j) q (suc k) i d s d2 m m2 w lt f l g l2 x σ = solve_cut ss ns j q k i d s d2 m m2 w (omega arith) f.1 l g l2 x (after t n σ)

module _ (p : Plan) (ss : List Spot) (w : ℕ) (f : Port) (u : Spot) (wlt : w < length p.wires.items) (s : Sound p ss) (is : (wire_at p w).from ≡ Some f)
    (g : Halted (spot_at ss f.filter) u f.port) (d : IsDecided (spot_at ss (wire_at p w).to.filter).view) where
  abbrev pub cut_spots : List Spot
  cut_spots = slice_set ss f.filter u

  klt : (wire_at p w).to.filter < length ss
  klt = omega (arith, s.size, (s.wired w wlt).to_there)

  jlt : f.filter < length ss
  jlt = let up = ((s.wired w wlt).from_there f is).0 in omega (arith, klt, up)

  idle_at : (v : ℕ) (e : Port) → v < length p.wires.items → (wire_at p v).from ≡ Some e → port_stopped cut_spots e ≡ true → (b : Bool) → (v == w) ≡ b
      → IsDecided (spot_at ss (wire_at p v).to.filter).view
  idle_at v e vlt k on true b = let same : w ≡ v = grind (arith, nat_tests) in subst (λ (n : ℕ). IsDecided (spot_at ss (wire_at p n).to.filter).view) same d
  idle_at v e vlt k on false b =
      let other : v ≢ w = grind (arith, nat_tests) in
      s.idle v e vlt k (sym (stops_else p ss f u jlt s g e ((s.wired w wlt).froms f e v is k other) (from_there p ss v e s vlt k)) ∙ on)

  pub cut_sound : Sound p cut_spots
  cut_sound = left_sound p ss f u jlt s g (λ v e vlt k on. idle_at v e vlt k on (v == w) refl)

  module _ (grows : Grows (spot_at ss (wire_at p w).to.filter).view.rest) (quiet : Quiet (spot_at ss (wire_at p w).to.filter).view) where
    solved : (σ : Ports) → Else w (solve_spots σ cut_spots p.nodes.items) (solve_spots σ ss p.nodes.items)
    solved =
        let j = node_of p.nodes.items f.filter (omega (arith, s.size, jlt)) in
        let k = node_of p.nodes.items (wire_at p w).to.filter (omega (arith, s.size, klt)) in
        solve_cut ss p.nodes.items f.filter f.port (wire_at p w).to.filter (wire_at p w).to.port no_spot u no_spot j k w klt ((s.wired w wlt).leads f is)
        ((s.fits f.filter j jlt).outs) g ((s.fits (wire_at p w).to.filter k klt).outs) (fixed (spot_at ss (wire_at p w).to.filter) grows quiet d)

    pub cut_same : Same (graph_view p ss) (graph_view p cut_spots)
    cut_same = record {
      ports = record { ins = refl; outs = refl };
      rest = λ ext q on. reads_else p.edges.items w (solve_spots ext cut_spots p.nodes.items) (solve_spots ext ss p.nodes.items) ((s.wired w wlt).free) (solved ext) q;
      shut = flags p.feeds.items (port_shut cut_spots) (port_shut ss) (each_all (λ e. port_shut cut_spots e ≡ port_shut ss e) (shuts p ss f u jlt s g) p.feeds.items);
      ended = flags p.pads.items (port_ended cut_spots) (port_ended ss) (each_all (λ e. port_ended cut_spots e ≡ port_ended ss e)
          (λ e. ends p ss f u jlt s g e.filter e.port) p.pads.items);
      stopped = flags p.pads.items (port_stopped cut_spots) (port_stopped ss) (each_both (λ e. Apart e f) (OutThere ss)
          (λ e. port_stopped cut_spots e ≡ port_stopped ss e) (stops_else p ss f u jlt s g) p.pads.items ((s.wired w wlt).pads f is) s.pads_there);
    }

-- the same, where filters stand in a vector: `q` left `r`, and `t` needs no more
module _ {F : Type 0} (view : F → View) (grows : (m : F) → Grows (view m).rest) (quiet : (m : F) → Quiet (view m)) (p : Plan) (ps : List (Placed F)) (w : ℕ) (e : Wire)
    (wlt : w < length p.wires.items) (is : wire_at p w ≡ e) (s : Sound p (spots view ps)) (f : Port) (from : e.from ≡ Some f) where
  pub cut_fine : (d q r d2 t : Placed F) → q ≡ slice_index_or ps f.filter d → Halted (spot_of view q) (spot_of view r) f.port → t ≡ slice_index_or ps e.to.filter d2
      → IsDecided (view t.filter) → Fine p (spots view ps) (spots view (slice_set ps f.filter r))
  cut_fine d q r d2 t k g k2 decided =
      let ss = spots view ps in
      let way : (wire_at p w).from ≡ Some f = ap (λ (x : Wire). x.from) is ∙ from in
      let here : spot_at ss f.filter ≡ spot_of view q = spot_is view ps f.filter d q (source_there view p ps w e wlt is s f from) k in
      let there : spot_at ss e.to.filter ≡ spot_of view t = spot_is view ps e.to.filter d2 t (filter_there view p ps w e wlt is s) k2 in
      let to : (wire_at p w).to.filter ≡ e.to.filter = ap (λ (x : Wire). x.to.filter) is in
      let halted : Halted (spot_at ss f.filter) (spot_of view r) f.port = subst (λ (a : Spot). Halted a (spot_of view r) f.port) (sym here) g in
      let over : IsDecided (spot_at ss (wire_at p w).to.filter).view = subst (λ (n : ℕ). IsDecided (spot_at ss n).view) (sym to)
      (subst (λ (a : Spot). IsDecided a.view) (sym there) decided) in
      let klt : (wire_at p w).to.filter < length ps = omega (arith, to, filter_there view p ps w e wlt is s) in
      subst (λ (ts : List Spot). Fine p ss ts) (sym (spots_set view ps f.filter r)) (record {
        sound = cut_sound p ss w f (spot_of view r) wlt s way halted over;
        same = cut_same p ss w f (spot_of view r) wlt s way halted over (all_spots view (λ a. Grows a.view.rest) (λ m. grows m.filter) ps (wire_at p w).to.filter klt)
            (all_spots view (λ a. Quiet a.view) (λ m. quiet m.filter) ps (wire_at p w).to.filter klt);
      })
