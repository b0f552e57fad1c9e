-- The receiver of an output of the graph has finished.
use Rattle.std.proofs.Common.{◌≡◌, ◌≢◌, ℕ, zero, suc, ◌<◌, ◌==◌, ◌||◌, if◌then◌else◌, Bool, true, false, is_some, List, [], ◌∷◌, length, Option, Some}
use Rattle.std.proofs.Common.{slice_index_or, slice_set, refl, ap, sym, ◌∙◌, subst, arith}
use Rattle.std.proofs.lemmas.Bool.Decides.{nat_tests}
use Rattle.std.proofs.lemmas.List.{get_or-set_same}
use Rattle.ff_stream.specs.declared.item.Item.{Item}
use Rattle.ff_stream.specs.declared.item.Lane.{Lane}
use Rattle.ff_net.specs.Nets.{put_all}
use Rattle.ff_filter.specs.Joins.{Flow, Ports}
use Rattle.ff_filter.specs.Views.{View, Same, Stopped}
use Rattle.ff_filter.specs.laws.Held.{after_held, held_closes}
use Rattle.ff_graph_dag.specs.declared.graph.Node.{Node}
use Rattle.ff_graph_dag.specs.declared.graph.Port.{Port}
use Rattle.ff_graph_dag.specs.declared.graph.Plan.{Plan}
use Rattle.ff_graph_dag.specs.declared.placed.Placed.{Placed}
use Rattle.ff_graph_dag.specs.laws.Dags.{Spot, spot_of, held_at, reads, comes, gives, after, solve_spots, Free, StandsAt, AllUntouched, Leaves, IsDecided, Halted}
use Rattle.ff_graph_dag.specs.laws.Graphs.{spots, no_spot, spot_at, pad_at, edge_at, wire_at, port_shut, port_ended, port_stopped, graph_view, Apart, InThere}
use Rattle.ff_graph_dag.specs.laws.Graphs.{OutThere, Sound, IsPad}
use Rattle.ff_graph_dag.specs.laws.Readings.{spots_size, flag_is}
use Rattle.ff_graph_dag.proofs.Edges.{OutsFit, gives_by, decided_stopped}
use Rattle.ff_graph_dag.proofs.Moving.{spots_set, spot_is, size_set, node_of, each_by, each_map, each_all, flags, fits_alike, from_there, else_by}
use Rattle.ff_graph_dag.proofs.DrawingLemmas.{Alikes, alikes_self}
use Rattle.ff_graph_dag.proofs.Giving.{flags_by, each_at}

-- one call after another
pub stopped_same : (u v w : View) (q : ℕ) → Stopped u v q → Same v w → Stopped u w q
stopped_same u v w q h s = record {
  ports = record { ins = s.ports.ins ∙ h.ports.ins; outs = s.ports.outs ∙ h.ports.outs };
  stopped_here = s.stopped q ∙ h.stopped_here;
  stopped_others = λ o lt n. s.stopped o ∙ h.stopped_others o lt n;
  rest_others = λ ext o lt n z. s.rest ext o (h.stopped_others o lt n ∙ z) ∙ h.rest_others ext o lt n z;
  shut = λ p. s.shut p ∙ h.shut p;
  ended = λ o. s.ended o ∙ h.ended o;
}

-- the same on every other edge ------------------------------------------------------------------------------------

abbrev pub Else : ℕ → Ports → Ports → Type 0
Else w σ τ = (u : ℕ) → u ≢ w → σ u ≡ τ u

pub put_else : (os : List ℕ) (g h σ τ : Ports) (w : ℕ) → Else w σ τ → ((o : ℕ) → o < length os → slice_index_or os o 0 ≢ w → g o ≡ h o) → Else w (put_all os g σ)
    (put_all os h τ)
put_else [] g h σ τ w e n u m = e u m
put_else (o ∷ os) g h σ τ w e n u m = at (put_else os (λ q. g (suc q)) (λ q. h (suc q)) σ τ w e (λ q lt k. n (suc q) (omega arith) k) u m) (o == u) refl
  where
    at : put_all os (λ q. g (suc q)) σ u ≡ put_all os (λ q. h (suc q)) τ u → (b : Bool) → (o == u) ≡ b
        → (if b then g 0 else put_all os (λ q. g (suc q)) σ u) ≡ (if b then h 0 else put_all os (λ q. h (suc q)) τ u)
    at r true k = let is : o ≡ u = grind (arith, nat_tests) in n 0 (omega arith) (λ z. m (sym is ∙ z))
    at r false k = r

pub reads_else : (ws : List ℕ) (w : ℕ) (σ τ : Ports) → Free w ws → Else w σ τ → (i : ℕ) → reads ws σ i ≡ reads ws τ i
reads_else [] w σ τ f e i = refl
reads_else (u ∷ us) w σ τ f e zero = e u f.0
reads_else (u ∷ us) w σ τ f e (suc i) = reads_else us w σ τ f.1 e i

-- the other places of a list in which the edge stands once
reads_apart : (ws : List ℕ) (w q : ℕ) (σ τ : Ports) → StandsAt w q ws → Else w σ τ → (i : ℕ) → i ≢ q → reads ws σ i ≡ reads ws τ i
reads_apart [] w q σ τ f e i n = refl
reads_apart (u ∷ us) w zero σ τ f e zero n = absurd (n refl)
reads_apart (u ∷ us) w zero σ τ f e (suc i) n = reads_else us w σ τ f.1 e i
reads_apart (u ∷ us) w (suc q) σ τ f e zero n = e u f.0
reads_apart (u ∷ us) w (suc q) σ τ f e (suc i) n = reads_apart us w q σ τ f.1 e i (λ k. n (ap (λ (m : ℕ). suc m) k))

pub after_else : (s : Spot) (n : Node) (w : ℕ) (σ τ : Ports) → Free w n.ins.items → Else w σ τ → Else w (after s n σ) (after s n τ)
after_else s n w σ τ f e = put_else n.outs.items (gives s n σ) (gives s n τ) σ τ w e
    (λ o lt k. gives_by s n σ τ (λ i. ap (λ (t : Flow). after_held (held_at s.held i) t) (reads_else n.ins.items w σ τ f e i)) o)

pub solve_else : (ss : List Spot) (ns : List Node) (w : ℕ) (σ τ : Ports) → AllUntouched w ns → Else w σ τ → Else w (solve_spots σ ss ns) (solve_spots τ ss ns)
solve_else [] ns w σ τ f e = e
solve_else (s ∷ ss) [] w σ τ f e = e
solve_else (s ∷ ss) (n ∷ ns) w σ τ f e = solve_else ss ns w (after s n σ) (after s n τ) f.1 (after_else s n w σ τ f.0.0 e)

pub stands_is : (us : List ℕ) (w q : ℕ) → StandsAt w q us → slice_index_or us q 0 ≡ w
stands_is [] w q f = absurd f
stands_is (u ∷ us) w zero f = f.0
stands_is (u ∷ us) w (suc q) f = stands_is us w q f.1

-- a filter that isn't asked for one output any more gives the same on all others
solve_halted : (ss : List Spot) (ns : List Node) (j q : ℕ) (d s : Spot) (m : Node) (w : ℕ) → j < length ss → Leaves w j q ns → OutsFit (slice_index_or ss j d)
    (slice_index_or ns j m) → Halted (slice_index_or ss j d) s q
    → (σ : Ports) → Else w (solve_spots σ (slice_set ss j s) ns) (solve_spots σ ss ns)
solve_halted [] ns j q d s m w lt f l g σ = absurd (omega arith)
solve_halted (t ∷ ss) [] j q d s m w lt f l g σ = absurd f
solve_halted (t ∷ ss) (n ∷ ns) zero q d s m w lt f l g σ = solve_else ss ns w (after s n σ) (after t n σ) f.2
    (put_else n.outs.items (gives s n σ) (gives t n σ) σ σ w (λ u k. refl) (λ o olt k. g.gives_is n σ o (omega (arith, l, olt))
    (λ z. k (ap (λ (p : ℕ). slice_index_or n.outs.items p 0) z ∙ stands_is n.outs.items w q f.0))))
solve_halted (t ∷ ss) (n ∷ ns) (suc j) q d s m w lt f l g σ = solve_halted ss ns j q d s m w (omega arith) f.1 l g (after t n σ)

-- what stopping does to a filter in its place
pub halted : (s : Spot) (v : View) (q : ℕ) → Stopped s.view v q → Halted s (record { view = v; held = s.held }) q
halted s v q g = record {
  ports = g.ports;
  held = refl;
  gives_is = λ n σ o lt m. same n σ o lt m (s.view.stopped o) refl;
  fed = g.shut;
  ended = g.ended;
  stopped_here = g.stopped_here;
  stopped_others = g.stopped_others;
  decided = decided_stopped s.view v q g;
}
  where
    same : (n : Node) (σ : Ports) (o : ℕ) → o < length s.view.outs → o ≢ q → (b : Bool) → s.view.stopped o ≡ b → gives (record { view = v; held = s.held }) n σ o ≡
        gives s n σ o
    same n σ o lt m true e = rw (g.stopped_others o lt m, e) refl
    same n σ o lt m false e = rw (g.stopped_others o lt m, e) (g.rest_others (comes s n σ) o lt m e)

-- one filter isn't asked for one output any more
module _ (p : Plan) (ss : List Spot) (f : Port) (u : Spot) (jlt : f.filter < length ss) (s : Sound p ss) (g : Halted (spot_at ss f.filter) u f.port) where
  abbrev pub left_spots : List Spot
  left_spots = slice_set ss f.filter u

  alikes : (m : ℕ) → Alikes (spot_at ss m) (spot_at left_spots m)
  alikes = each_by Alikes alikes_self ss f.filter u jlt (record { ports = g.ports; size = ap (λ (hs : List (Option Item)). length hs) g.held })

  pub ends : (m o : ℕ) → (spot_at left_spots m).view.ended o ≡ (spot_at ss m).view.ended o
  ends = each_by (λ a b. (o : ℕ) → b.view.ended o ≡ a.view.ended o) (λ a o. refl) ss f.filter u jlt g.ended

  fed : (m i : ℕ) → (spot_at left_spots m).view.shut i ≡ (spot_at ss m).view.shut i
  fed = each_by (λ a b. (i : ℕ) → b.view.shut i ≡ a.view.shut i) (λ a i. refl) ss f.filter u jlt g.fed

  held : (m i : ℕ) → held_at (spot_at left_spots m).held i ≡ held_at (spot_at ss m).held i
  held = each_by (λ a b. (i : ℕ) → held_at b.held i ≡ held_at a.held i) (λ a i. refl) ss f.filter u jlt (λ i. ap (λ (hs : List (Option Item)). held_at hs i) g.held)

  decideds : (m : ℕ) → IsDecided (spot_at ss m).view → IsDecided (spot_at left_spots m).view
  decideds = each_by (λ a b. IsDecided a.view → IsDecided b.view) (λ a d. d) ss f.filter u jlt g.decided

  pub shuts : (e : Port) → port_shut left_spots e ≡ port_shut ss e
  shuts e = ap (λ (b : Bool). b || held_closes (held_at (spot_at left_spots e.filter).held e.port)) (fed e.filter e.port)
      ∙ ap (λ (m : Option Item). (spot_at ss e.filter).view.shut e.port || held_closes m) (held e.filter e.port)

  pub stops_else : (e : Port) → Apart e f → OutThere ss e → port_stopped left_spots e ≡ port_stopped ss e
  stops_else e n lt = else_by (λ a b o. o < length a.view.outs → b.view.stopped o ≡ a.view.stopped o) (λ a o l. refl) ss f.filter f.port u jlt
      (λ o m l. g.stopped_others o l m) e n lt

  pub stops_here : port_stopped left_spots f ≡ true
  stops_here = ap (λ (a : Spot). a.view.stopped f.port) (get_or-set_same ss f.filter u no_spot jlt) ∙ g.stopped_here

  pub left_sound : ((v : ℕ) (e : Port) → v < length p.wires.items → (wire_at p v).from ≡ Some e → port_stopped left_spots e ≡ true
      → IsDecided (spot_at ss (wire_at p v).to.filter).view) → Sound p left_spots
  left_sound idle = record {
    framed = s.framed;
    wired = s.wired;
    pads = s.pads;
    size = size_set ss f.filter u ∙ s.size;
    fits = λ k m lt. fits_alike (spot_at ss k) (spot_at left_spots k) (slice_index_or p.nodes.items k m) (alikes k).ports (alikes k).size
        (s.fits k m (omega (arith, size_set ss f.filter u, lt)));
    feeds_there = each_map (InThere ss) (InThere left_spots) (λ e l. subst (λ (ls : List Lane). e.port < length ls) (sym (alikes e.filter).ports.ins) l) p.feeds.items
        s.feeds_there;
    pads_there = each_map (OutThere ss) (OutThere left_spots) (λ e l. subst (λ (ls : List Lane). e.port < length ls) (sym (alikes e.filter).ports.outs) l) p.pads.items
        s.pads_there;
    linked = λ v e vlt k. shuts (wire_at p v).to ∙ (s.linked v e vlt k ∙ sym (ends e.filter e.port));
    idle = λ v e vlt k on. decideds (wire_at p v).to.filter (idle v e vlt k on);
    unshut = λ v vlt e. fed (wire_at p v).to.filter (wire_at p v).to.port
        ∙ s.unshut v vlt (ap (λ (m : Option Item). is_some m) (sym (held (wire_at p v).to.filter (wire_at p v).to.port)) ∙ e);
  }

module _ (p : Plan) (ss : List Spot) (q : ℕ) (u : Spot) (qlt : q < length p.pads.items) (s : Sound p ss) (g : Halted (spot_at ss (pad_at p q).filter) u
    (pad_at p q).port) where
  abbrev pub end_port : Port
  end_port = pad_at p q

  abbrev pub end_spots : List Spot
  end_spots = slice_set ss end_port.filter u

  pad : IsPad p q
  pad = s.pads q qlt

  jlt : end_port.filter < length ss
  jlt = omega (arith, s.size, pad.there)

  -- an edge leaves another output
  apart : (v : ℕ) (e : Port) → v < length p.wires.items → (wire_at p v).from ≡ Some e → Apart e end_port
  apart v e vlt k = each_at (λ r. Apart e r) p.pads.items q qlt (each_map (λ r. Apart r e) (λ r. Apart e r) (λ r a h i. a (sym h) (sym i)) p.pads.items
      ((s.wired v vlt).pads e k))

  pub halted_sound : Sound p end_spots
  halted_sound = left_sound p ss end_port u jlt s g
      (λ v e vlt k on. s.idle v e vlt k (sym (stops_else p ss end_port u jlt s g e (apart v e vlt k) (from_there p ss v e s vlt k)) ∙ on))

  solved : (σ : Ports) → Else (edge_at p q) (solve_spots σ end_spots p.nodes.items) (solve_spots σ ss p.nodes.items)
  solved =
      let n = node_of p.nodes.items end_port.filter pad.there in
      solve_halted ss p.nodes.items end_port.filter end_port.port no_spot u n (edge_at p q) jlt pad.leaves ((s.fits end_port.filter n jlt).outs) g

  pub halted_stopped : Stopped (graph_view p ss) (graph_view p end_spots) q
  halted_stopped = record {
    ports = record { ins = refl; outs = refl };
    stopped_here = flag_is p.pads.items (port_stopped end_spots) q qlt ∙ stops_here p ss end_port u jlt s g;
    stopped_others = λ o lt n. flags_by p.pads.items (port_stopped end_spots) (port_stopped ss) o (λ olt. stops_else p ss end_port u jlt s g (pad_at p o) (pad.apart o olt n)
        (each_at (OutThere ss) p.pads.items o olt s.pads_there));
    rest_others = λ ext o lt n z. reads_apart p.edges.items (edge_at p q) q (solve_spots ext end_spots p.nodes.items) (solve_spots ext ss p.nodes.items) pad.edge
        (solved ext) o n;
    shut = flags p.feeds.items (port_shut end_spots) (port_shut ss) (each_all (λ e. port_shut end_spots e ≡ port_shut ss e) (shuts p ss end_port u jlt s g)
        p.feeds.items);
    ended = flags p.pads.items (port_ended end_spots) (port_ended ss) (each_all (λ e. port_ended end_spots e ≡ port_ended ss e)
        (λ e. ends p ss end_port u jlt s g e.filter e.port) p.pads.items);
  }

-- the same, where filters stand in a vector
module _ {F : Type 0} (view : F → View) (p : Plan) (ps : List (Placed F)) (q : ℕ) (f : Port) (qlt : q < length p.pads.items) (is : pad_at p q ≡ f)
    (s : Sound p (spots view ps)) where
  end_there : f.filter < length ps
  end_there = let lt = (s.pads q qlt).there in let same : (pad_at p q).filter ≡ f.filter = ap (λ (e : Port). e.filter) is in omega
      (arith, s.size, spots_size view ps, lt, same)

  there_is : (d a r : Placed F) → a ≡ slice_index_or ps f.filter d → Halted (spot_of view a) (spot_of view r) f.port → Halted (spot_at (spots view ps) f.filter)
      (spot_of view r) f.port
  there_is d a r k g = subst (λ (b : Spot). Halted b (spot_of view r) f.port) (sym (spot_is view ps f.filter d a end_there k)) g

  pub end_sound : (d a r : Placed F) → a ≡ slice_index_or ps f.filter d → Halted (spot_of view a) (spot_of view r) f.port
      → Sound p (spots view (slice_set ps f.filter r))
  end_sound d a r k g = subst (λ (ts : List Spot). Sound p ts) (sym (spots_set view ps f.filter r))
      (subst (λ (e : Port). Halted (spot_at (spots view ps) e.filter) (spot_of view r) e.port → Sound p (slice_set (spots view ps) e.filter (spot_of view r))) is
      (λ h. halted_sound p (spots view ps) q (spot_of view r) qlt s h) (there_is d a r k g))

  pub end_stopped : (d a r : Placed F) → a ≡ slice_index_or ps f.filter d → Halted (spot_of view a) (spot_of view r) f.port → Stopped (graph_view p (spots view ps))
      (graph_view p (spots view (slice_set ps f.filter r))) q
  end_stopped d a r k g = subst (λ (ts : List Spot). Stopped (graph_view p (spots view ps)) (graph_view p ts) q) (sym (spots_set view ps f.filter r))
      (subst (λ (e : Port). Halted (spot_at (spots view ps) e.filter) (spot_of view r) e.port → Stopped (graph_view p (spots view ps))
      (graph_view p (slice_set (spots view ps) e.filter (spot_of view r))) q) is (λ h. halted_stopped p (spots view ps) q (spot_of view r) qlt s h)
      (there_is d a r k g))
