-- An item is given at an output of the graph.
use Rattle.std.proofs.Common.{Result, Ok, Err, OnErr, ◌≡◌, ℕ, zero, suc, ◌<◌, ◌||◌, Bool, false, is_some, List, [], ◌∷◌, length, Option, None}
use Rattle.std.proofs.Common.{Some, slice_index_or, slice_set, refl, ap, sym, ◌∙◌, subst, arith}
use Rattle.std.proofs.lemmas.List.{get_or-set_same}
use Rattle.std.specs.declared.alloc.AllocError.{AllocError}
use Rattle.ff_stream.specs.declared.item.Item.{Item}
use Rattle.ff_stream.specs.declared.item.Lane.{Lane}
use Rattle.ff_stream.specs.Ports.{nothing}
use Rattle.ff_filter.specs.Joins.{Ports, silence, before_if, before_at}
use Rattle.ff_filter.specs.Views.{View, Same, Gave, closes}
use Rattle.ff_filter.specs.laws.Held.{held_closes}
use Rattle.ff_graph_dag.specs.declared.graph.Port.{Port}
use Rattle.ff_graph_dag.specs.declared.graph.Plan.{Plan}
use Rattle.ff_graph_dag.specs.declared.placed.Placed.{Placed}
use Rattle.ff_graph_dag.specs.laws.Dags.{Spot, spot_of, held_at, reads, solve_spots, IsDecided, Kept, Pulled}
use Rattle.ff_graph_dag.specs.laws.Graphs.{spots, no_spot, spot_at, no_port, pad_at, edge_at, wire_at, flag_at, port_shut, port_ended, port_stopped, graph_view, Apart}
use Rattle.ff_graph_dag.specs.laws.Graphs.{Each, InThere, OutThere, Sound, IsPad, IsCarried, IsQuiet}
use Rattle.ff_graph_dag.specs.laws.Readings.{is_same, is_other, spots_size, flag_is}
use Rattle.ff_graph_dag.proofs.Edges.{reads_at, solve_gave}
use Rattle.ff_graph_dag.proofs.Moving.{spots_set, spot_is, size_set, node_of, each_by, each_map, each_all, flags, fits_alike, from_there, else_by, kept_sound}
use Rattle.ff_graph_dag.proofs.Moving.{kept_same, kept_carried}
use Rattle.ff_graph_dag.proofs.DrawingLemmas.{Alikes, alikes_self}

pub flags_by : (ps : List Port) (f g : Port → Bool) (q : ℕ) → (q < length ps → f (slice_index_or ps q no_port) ≡ g (slice_index_or ps q no_port))
    → flag_at ps f q ≡ flag_at ps g q
flags_by [] f g q h = refl
flags_by (p ∷ ps) f g zero h = h (omega arith)
flags_by (p ∷ ps) f g (suc q) h = flags_by ps f g q (λ lt. h (omega arith))

pub each_at : (P : Port → Type 0) (ps : List Port) (q : ℕ) → q < length ps → Each P ps → P (slice_index_or ps q no_port)
each_at P [] q lt e = absurd (omega arith)
each_at P (p ∷ ps) zero lt e = e.0
each_at P (p ∷ ps) (suc q) lt e = each_at P ps q (omega arith) e.1

module _ (p : Plan) (ss : List Spot) (q : ℕ) (u : Spot) (x : Item) (qlt : q < length p.pads.items) (s : Sound p ss) (g : Pulled (spot_at ss (pad_at p q).filter) u
    (pad_at p q).port x) where
  abbrev pub pad_port : Port
  pad_port = pad_at p q

  abbrev pub pad_spots : List Spot
  pad_spots = slice_set ss pad_port.filter u

  pad : IsPad p q
  pad = s.pads q qlt

  jlt : pad_port.filter < length ss
  jlt = omega (arith, s.size, pad.there)

  alikes : (m : ℕ) → Alikes (spot_at ss m) (spot_at pad_spots m)
  alikes = each_by Alikes alikes_self ss pad_port.filter u jlt (record { ports = g.ports; size = ap (λ (hs : List (Option Item)). length hs) g.held })

  stops : (m o : ℕ) → (spot_at pad_spots m).view.stopped o ≡ (spot_at ss m).view.stopped o
  stops = each_by (λ a b. (o : ℕ) → b.view.stopped o ≡ a.view.stopped o) (λ a o. refl) ss pad_port.filter u jlt g.stopped

  decideds : (m : ℕ) → IsDecided (spot_at ss m).view → IsDecided (spot_at pad_spots m).view
  decideds = each_by (λ a b. IsDecided a.view → IsDecided b.view) (λ a d. d) ss pad_port.filter u jlt g.decided

  fed : (m i : ℕ) → (spot_at pad_spots m).view.shut i ≡ (spot_at ss m).view.shut i
  fed = each_by (λ a b. (i : ℕ) → b.view.shut i ≡ a.view.shut i) (λ a i. refl) ss pad_port.filter u jlt g.fed

  held : (m i : ℕ) → held_at (spot_at pad_spots m).held i ≡ held_at (spot_at ss m).held i
  held = each_by (λ a b. (i : ℕ) → held_at b.held i ≡ held_at a.held i) (λ a i. refl) ss pad_port.filter u jlt
      (λ i. ap (λ (hs : List (Option Item)). held_at hs i) g.held)

  shuts : (e : Port) → port_shut pad_spots e ≡ port_shut ss e
  shuts e = ap (λ (b : Bool). b || held_closes (held_at (spot_at pad_spots e.filter).held e.port)) (fed e.filter e.port)
      ∙ ap (λ (m : Option Item). (spot_at ss e.filter).view.shut e.port || held_closes m) (held e.filter e.port)

  ended_else : (e : Port) → Apart e pad_port → OutThere ss e → port_ended pad_spots e ≡ port_ended ss e
  ended_else e n lt = else_by (λ a b o. o < length a.view.outs → b.view.ended o ≡ a.view.ended o) (λ a o l. refl) ss pad_port.filter pad_port.port u jlt
      (λ o m l. g.ended_others o l m) e n lt

  ended_here : port_ended pad_spots pad_port ≡ closes x
  ended_here = ap (λ (a : Spot). a.view.ended pad_port.port) (get_or-set_same ss pad_port.filter u no_spot jlt) ∙ g.ended_here

  pub gave_sound : Sound p pad_spots
  gave_sound = record {
    framed = s.framed;
    wired = s.wired;
    pads = s.pads;
    size = size_set ss pad_port.filter u ∙ s.size;
    fits = λ k m lt. fits_alike (spot_at ss k) (spot_at pad_spots k) (slice_index_or p.nodes.items k m) (alikes k).ports (alikes k).size
        (s.fits k m (omega (arith, size_set ss pad_port.filter u, lt)));
    feeds_there = each_map (InThere ss) (InThere pad_spots) (λ e l. subst (λ (ls : List Lane). e.port < length ls) (sym (alikes e.filter).ports.ins) l) p.feeds.items
        s.feeds_there;
    pads_there = each_map (OutThere ss) (OutThere pad_spots) (λ e l. subst (λ (ls : List Lane). e.port < length ls) (sym (alikes e.filter).ports.outs) l) p.pads.items
        s.pads_there;
    linked = λ v e vlt k. shuts (wire_at p v).to
        ∙ (s.linked v e vlt k ∙ sym (ended_else e (each_at (λ r. Apart e r) p.pads.items q qlt (each_map (λ r. Apart r e) (λ r. Apart e r)
        (λ r a h i. a (sym h) (sym i)) p.pads.items ((s.wired v vlt).pads e k))) (from_there p ss v e s vlt k)));
    idle = λ v e vlt k on. decideds (wire_at p v).to.filter (s.idle v e vlt k (sym (stops e.filter e.port) ∙ on));
    unshut = λ v vlt e. fed (wire_at p v).to.filter (wire_at p v).to.port
        ∙ s.unshut v vlt (ap (λ (m : Option Item). is_some m) (sym (held (wire_at p v).to.filter (wire_at p v).to.port)) ∙ e);
  }

  solved : (σ : Ports) → solve_spots σ ss p.nodes.items ≡ before_at (edge_at p q) x (solve_spots σ pad_spots p.nodes.items)
  solved =
      let n = node_of p.nodes.items pad_port.filter pad.there in
      solve_gave ss p.nodes.items pad_port.filter pad_port.port no_spot u n (edge_at p q) x jlt pad.leaves ((s.fits pad_port.filter n jlt).outs) g

  reads_is : (ext : Ports) (o : ℕ) → reads p.edges.items (solve_spots ext ss p.nodes.items) o ≡ before_at q x
      (reads p.edges.items (solve_spots ext pad_spots p.nodes.items)) o
  reads_is ext o = ap (λ (σ : Ports). reads p.edges.items σ o) (solved ext) ∙ reads_at p.edges.items (edge_at p q) q x (solve_spots ext pad_spots p.nodes.items)
      pad.edge o

  pub gave_gave : Gave (graph_view p ss) (graph_view p pad_spots) q x
  gave_gave = record {
    ports = record { ins = refl; outs = refl };
    open_before = flag_is p.pads.items (port_ended ss) q qlt ∙ g.open_before;
    rest_here = λ ext. reads_is ext q ∙ ap (λ (b : Bool). before_if b x (reads p.edges.items (solve_spots ext pad_spots p.nodes.items) q)) (is_same q q refl);
    rest_others = λ ext o lt n z. sym (reads_is ext o ∙ ap (λ (b : Bool). before_if b x (reads p.edges.items (solve_spots ext pad_spots p.nodes.items) o))
        (is_other o q n));
    shut = flags p.feeds.items (port_shut pad_spots) (port_shut ss) (each_all (λ e. port_shut pad_spots e ≡ port_shut ss e) shuts p.feeds.items);
    ended_here = flag_is p.pads.items (port_ended pad_spots) q qlt ∙ ended_here;
    ended_others = λ o lt n. flags_by p.pads.items (port_ended pad_spots) (port_ended ss) o (λ olt. ended_else (pad_at p o) (pad.apart o olt n)
        (each_at (OutThere ss) p.pads.items o olt s.pads_there));
    stopped = flags p.pads.items (port_stopped pad_spots) (port_stopped ss) (each_all (λ e. port_stopped pad_spots e ≡ port_stopped ss e) (λ e. stops e.filter e.port)
        p.pads.items);
  }

-- nothing became due where every filter is as it was
pub quiet_carried : (p : Plan) (ss ts : List Spot) (q : ℕ) → q < length p.pads.items → (graph_view p ss).stopped q ≡ false → IsCarried ss ts → IsQuiet p ss q
    → IsQuiet p ts q
quiet_carried p ss ts q lt w h e = (h.kept (pad_at p q).filter).rest silence (pad_at p q).port (sym (flag_is p.pads.items (port_stopped ss) q lt) ∙ w) ∙ e

-- the same, where filters stand in a vector
module _ {F : Type 0} (view : F → View) (p : Plan) (ps : List (Placed F)) (q : ℕ) (f : Port) (qlt : q < length p.pads.items) (is : pad_at p q ≡ f)
    (s : Sound p (spots view ps)) where
  pub pad_there : f.filter < length ps
  pad_there = let lt = (s.pads q qlt).there in let same : (pad_at p q).filter ≡ f.filter = ap (λ (e : Port). e.filter) is in omega
      (arith, s.size, spots_size view ps, lt, same)

  pub pad_out : (d a : Placed F) → a ≡ slice_index_or ps f.filter d → f.port < length (view a.filter).outs
  pad_out d a k = subst (λ (b : Spot). f.port < length b.view.outs) (spot_is view ps f.filter d a pad_there k) (subst (λ (e : Port). OutThere (spots view ps) e) is
      (each_at (OutThere (spots view ps)) p.pads.items q qlt s.pads_there))

  pub pad_wanted : (d a : Placed F) → a ≡ slice_index_or ps f.filter d → (graph_view p (spots view ps)).stopped q ≡ false → (view a.filter).stopped f.port ≡ false
  pad_wanted d a k w =
      let there : port_stopped (spots view ps) (pad_at p q) ≡ false = sym (flag_is p.pads.items (port_stopped (spots view ps)) q qlt) ∙ w in
      ap (λ (b : Spot). b.view.stopped f.port) (sym (spot_is view ps f.filter d a pad_there k)) ∙ (ap (λ (e : Port). port_stopped (spots view ps) e) (sym is) ∙ there)

  there_is : (d a r : Placed F) (x : Item) → a ≡ slice_index_or ps f.filter d → Pulled (spot_of view a) (spot_of view r) f.port x
      → Pulled (spot_at (spots view ps) f.filter) (spot_of view r) f.port x
  there_is d a r x k g = subst (λ (b : Spot). Pulled b (spot_of view r) f.port x) (sym (spot_is view ps f.filter d a pad_there k)) g

  pub pad_sound : (d a r : Placed F) (x : Item) → a ≡ slice_index_or ps f.filter d → Pulled (spot_of view a) (spot_of view r) f.port x
      → Sound p (spots view (slice_set ps f.filter r))
  pad_sound d a r x k g = subst (λ (ts : List Spot). Sound p ts) (sym (spots_set view ps f.filter r))
      (subst (λ (e : Port). Pulled (spot_at (spots view ps) e.filter) (spot_of view r) e.port x → Sound p (slice_set (spots view ps) e.filter (spot_of view r))) is
      (λ h. gave_sound p (spots view ps) q (spot_of view r) x qlt s h) (there_is d a r x k g))

  pub pad_gave : (d a r : Placed F) (x : Item) → a ≡ slice_index_or ps f.filter d → Pulled (spot_of view a) (spot_of view r) f.port x
      → Gave (graph_view p (spots view ps)) (graph_view p (spots view (slice_set ps f.filter r))) q x
  pad_gave d a r x k g = subst (λ (ts : List Spot). Gave (graph_view p (spots view ps)) (graph_view p ts) q x) (sym (spots_set view ps f.filter r))
      (subst (λ (e : Port). Pulled (spot_at (spots view ps) e.filter) (spot_of view r) e.port x → Gave (graph_view p (spots view ps))
      (graph_view p (slice_set (spots view ps) e.filter (spot_of view r))) q x) is (λ h. gave_gave p (spots view ps) q (spot_of view r) x qlt s h)
      (there_is d a r x k g))

  kept_is : (d a r : Placed F) → a ≡ slice_index_or ps f.filter d → Kept (spot_of view a) (spot_of view r) → Kept (spot_at (spots view ps) f.filter) (spot_of view r)
  kept_is d a r k h = subst (λ (b : Spot). Kept b (spot_of view r)) (sym (spot_is view ps f.filter d a pad_there k)) h

  lt : f.filter < length (spots view ps)
  lt = omega (arith, spots_size view ps, pad_there)

  pub pad_kept : (d a r : Placed F) → a ≡ slice_index_or ps f.filter d → Kept (spot_of view a) (spot_of view r) → Sound p (spots view (slice_set ps f.filter r))
      × IsCarried (spots view ps) (spots view (slice_set ps f.filter r)) × Same (graph_view p (spots view ps)) (graph_view p (spots view (slice_set ps f.filter r)))
  pad_kept d a r k h = subst (λ (ts : List Spot). Sound p ts × IsCarried (spots view ps) ts × Same (graph_view p (spots view ps)) (graph_view p ts))
      (sym (spots_set view ps f.filter r)) (
        kept_sound p (spots view ps) f.filter (spot_of view r) lt s (kept_is d a r k h),
        kept_carried p (spots view ps) f.filter (spot_of view r) lt s
            (kept_is d a r k h),
        kept_same p (spots view ps) f.filter (spot_of view r) lt s (kept_is d a r k h),
      )

  pub pad_any : (d a r : Placed F) (o : Result (Option Item) AllocError) → a ≡ slice_index_or ps f.filter d → ((x : Item) → o ≡ Ok (Some x) → Pulled (spot_of view a)
      (spot_of view r) f.port x) → (o ≡ Ok None → Kept (spot_of view a) (spot_of view r)) → OnErr o (Kept (spot_of view a) (spot_of view r))
      → Sound p (spots view (slice_set ps f.filter r))
  pad_any d a r (Ok (Some x)) k gives waits err = pad_sound d a r x k (gives x refl)
  pad_any d a r (Ok None) k gives waits err = (pad_kept d a r k (waits refl)).0
  pad_any d a r (Err y) k gives waits err = (pad_kept d a r k err).0

  pub pad_err : (d a r : Placed F) (o : Result (Option Item) AllocError) → a ≡ slice_index_or ps f.filter d → OnErr o (Kept (spot_of view a) (spot_of view r))
      → OnErr o (Same (graph_view p (spots view ps)) (graph_view p (spots view (slice_set ps f.filter r))))
  pad_err d a r (Ok y) k err = tt
  pad_err d a r (Err y) k err = (pad_kept d a r k err).2

  pub pad_quiet : (r : Placed F) → (view r.filter).rest silence f.port ≡ nothing → IsQuiet p (spots view (slice_set ps f.filter r)) q
  pad_quiet r n =
      let here : spot_at (spots view (slice_set ps f.filter r)) f.filter ≡ spot_of view r = ap (λ (ss : List Spot). spot_at ss f.filter) (spots_set view ps f.filter r)
      ∙ get_or-set_same (spots view ps) f.filter (spot_of view r) no_spot lt in
      subst (λ (e : Port). (spot_at (spots view (slice_set ps f.filter r)) e.filter).view.rest silence e.port ≡ nothing) (sym is)
      (ap (λ (b : Spot). b.view.rest silence f.port) here ∙ n)

  pub stopped_is : (d a : Placed F) → a ≡ slice_index_or ps f.filter d → (view a.filter).stopped f.port ≡ (graph_view p (spots view ps)).stopped q
  stopped_is d a k =
      let there : (graph_view p (spots view ps)).stopped q ≡ port_stopped (spots view ps) f = flag_is p.pads.items (port_stopped (spots view ps)) q qlt
      ∙ ap (λ (e : Port). port_stopped (spots view ps) e) is in
      sym (there ∙ ap (λ (b : Spot). b.view.stopped f.port) (spot_is view ps f.filter d a pad_there k))
