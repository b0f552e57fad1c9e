-- An item comes on an input of the graph.
use Rattle.std.proofs.Common.{◌≡◌, ◌≢◌, ℕ, ◌<◌, ◌==◌, ◌||◌, Bool, true, false, is_some, List, length, Option, None, Some, slice_index_or, slice_set, refl, ap}
use Rattle.std.proofs.Common.{sym, ◌∙◌, subst, arith}
use Rattle.std.proofs.lemmas.Bool.Decides.{nat_tests}
use Rattle.std.proofs.lemmas.List.{get_or-set_same}
use Rattle.ff_stream.specs.declared.item.Item.{Item}
use Rattle.ff_stream.specs.declared.item.Lane.{Lane}
use Rattle.ff_filter.specs.Joins.{Ports, before_at}
use Rattle.ff_filter.specs.Views.{View, Same, Fed, closes}
use Rattle.ff_filter.specs.laws.Held.{held_closes}
use Rattle.ff_graph_dag.specs.declared.graph.Port.{Port}
use Rattle.ff_graph_dag.specs.declared.graph.Plan.{Plan}
use Rattle.ff_graph_dag.specs.declared.placed.Placed.{Placed}
use Rattle.ff_graph_dag.specs.laws.Dags.{Spot, spot_of, held_at, spot_shut, reads, solve_spots, IsDecided, Stored}
use Rattle.ff_graph_dag.specs.laws.Graphs.{spots, no_spot, spot_at, wire_at, feed_at, port_shut, port_ended, port_stopped, port_held, graph_view, Apart, InThere}
use Rattle.ff_graph_dag.specs.laws.Graphs.{OutThere, Sound, IsEntry}
use Rattle.ff_graph_dag.specs.laws.Readings.{spots_size, flag_is, feed_is}
use Rattle.ff_graph_dag.proofs.Edges.{reads_free, solve_stored, stored}
use Rattle.ff_graph_dag.proofs.Moving.{spots_set, spot_is, size_set, node_of, each_by, each_map, each_all, flags, fits_alike, to_there, else_by}
use Rattle.ff_graph_dag.proofs.DrawingLemmas.{Alikes, alikes_self}
use Rattle.ff_graph_dag.proofs.Giving.{flags_by}

or_left : (a b : Bool) → (a || b) ≡ false → a ≡ false
or_left true b e = e
or_left false b e = refl

-- one call after another
pub same_fed : (u v w : View) (p : ℕ) (x : Item) → Same u v → Fed v w p x → Fed u w p x
same_fed u v w p x s f = record {
  ports = record { ins = f.ports.ins ∙ s.ports.ins; outs = f.ports.outs ∙ s.ports.outs };
  rest = λ ext q o. f.rest ext q (s.stopped q ∙ o) ∙ s.rest (before_at p x ext) q o;
  shut_here = f.shut_here ∙ ap (λ (b : Bool). b || closes x) (s.shut p);
  shut_others = λ i lt n. f.shut_others i (subst (λ (ls : List Lane). i < length ls) (sym s.ports.ins) lt) n ∙ s.shut i;
  ended = λ q. f.ended q ∙ s.ended q;
  stopped = λ q. f.stopped q ∙ s.stopped q;
}

module _ (p : Plan) (ss : List Spot) (i : ℕ) (t : Spot) (x : Item) (ilt : i < length p.feeds.items) (s : Sound p ss)
    (open_there : port_shut ss (wire_at p i).to ≡ false)
    (h : Stored (spot_at ss (wire_at p i).to.filter) t (wire_at p i).to.port x) where
  abbrev pub in_port : Port
  in_port = (wire_at p i).to

  abbrev pub in_spots : List Spot
  in_spots = slice_set ss in_port.filter t

  entry : IsEntry p i
  entry = s.framed.entries i ilt

  klt : in_port.filter < length ss
  klt = omega (arith, s.size, (s.wired i entry.wire).to_there)

  here_is : spot_at in_spots in_port.filter ≡ t
  here_is = get_or-set_same ss in_port.filter t no_spot klt

  alikes : (m : ℕ) → Alikes (spot_at ss m) (spot_at in_spots m)
  alikes = each_by Alikes alikes_self ss in_port.filter t klt (record { ports = h.ports; size = h.size })

  views : (m : ℕ) → (spot_at in_spots m).view ≡ (spot_at ss m).view
  views = each_by (λ a b. b.view ≡ a.view) (λ a. refl) ss in_port.filter t klt h.view

  held_else : (e : Port) → Apart e in_port → held_at (spot_at in_spots e.filter).held e.port ≡ held_at (spot_at ss e.filter).held e.port
  held_else e n = else_by (λ a b i. held_at b.held i ≡ held_at a.held i) (λ a i. refl) ss in_port.filter in_port.port t klt h.held_others e n

  shut_else : (e : Port) → Apart e in_port → port_shut in_spots e ≡ port_shut ss e
  shut_else e n = ap (λ (v : View). v.shut e.port || held_closes (held_at (spot_at in_spots e.filter).held e.port)) (views e.filter)
      ∙ ap (λ (m : Option Item). (spot_at ss e.filter).view.shut e.port || held_closes m) (held_else e n)

  shut_here : port_shut in_spots in_port ≡ (port_shut ss in_port || closes x)
  shut_here = ap (λ (a : Spot). spot_shut a in_port.port) here_is ∙ h.shut_here

  -- a wire that leaves a filter is another one
  inner : (w : ℕ) (f : Port) → (wire_at p w).from ≡ Some f → w ≢ i
  inner w f k is =
      let some : is_some (wire_at p w).from ≡ true = ap (λ (m : Option Port). is_some m) k in
      let none : is_some (wire_at p w).from ≡ false = subst (λ (n : ℕ). is_some (wire_at p n).from ≡ false) (sym is) entry.from in
      let clash : true ≡ false = sym some ∙ none in cc

  unshut_at : (w : ℕ) → w < length p.wires.items → port_held in_spots (wire_at p w).to ≡ true → (b : Bool) → (w == i) ≡ b
      → (spot_at ss (wire_at p w).to.filter).view.shut (wire_at p w).to.port ≡ false
  unshut_at w wlt e true b =
      let same : i ≡ w = grind (arith, nat_tests) in
      subst (λ (n : ℕ). (spot_at ss (wire_at p n).to.filter).view.shut (wire_at p n).to.port ≡ false) same
      (or_left ((spot_at ss in_port.filter).view.shut in_port.port) (held_closes (held_at (spot_at ss in_port.filter).held in_port.port)) open_there)
  unshut_at w wlt e false b =
      let other : w ≢ i = grind (arith, nat_tests) in
      s.unshut w wlt (ap (λ (m : Option Item). is_some m) (sym (held_else (wire_at p w).to ((s.wired i entry.wire).tos w wlt other))) ∙ e)

  pub entered_sound : Sound p in_spots
  entered_sound = record {
    framed = s.framed;
    wired = s.wired;
    pads = s.pads;
    size = size_set ss in_port.filter t ∙ s.size;
    fits = λ k m lt. fits_alike (spot_at ss k) (spot_at in_spots k) (slice_index_or p.nodes.items k m) (alikes k).ports (alikes k).size
        (s.fits k m (omega (arith, size_set ss in_port.filter t, lt)));
    feeds_there = each_map (InThere ss) (InThere in_spots) (λ e l. subst (λ (ls : List Lane). e.port < length ls) (sym (alikes e.filter).ports.ins) l) p.feeds.items
        s.feeds_there;
    pads_there = each_map (OutThere ss) (OutThere in_spots) (λ e l. subst (λ (ls : List Lane). e.port < length ls) (sym (alikes e.filter).ports.outs) l) p.pads.items
        s.pads_there;
    linked = λ w e wlt k. shut_else (wire_at p w).to ((s.wired i entry.wire).tos w wlt (inner w e k))
        ∙ (s.linked w e wlt k ∙ sym (ap (λ (v : View). v.ended e.port) (views e.filter)));
    idle = λ w e wlt k on. subst IsDecided (sym (views (wire_at p w).to.filter)) (s.idle w e wlt k (sym (ap (λ (v : View). v.stopped e.port) (views e.filter)) ∙ on));
    unshut = λ w wlt e. ap (λ (v : View). v.shut (wire_at p w).to.port) (views (wire_at p w).to.filter) ∙ unshut_at w wlt e (w == i) refl;
  }

  solved : (σ : Ports) → solve_spots (before_at i x σ) ss p.nodes.items ≡ before_at i x (solve_spots σ in_spots p.nodes.items)
  solved σ = solve_stored ss p.nodes.items in_port.filter in_port.port no_spot t i x klt entry.reads h σ

  feed_shut : (j : ℕ) → j < length p.feeds.items → j ≢ i → port_shut in_spots (feed_at p j) ≡ port_shut ss (feed_at p j)
  feed_shut j jlt n =
      let e : IsEntry p j = s.framed.entries j jlt in
      subst (λ (f : Port). port_shut in_spots f ≡ port_shut ss f) (sym (feed_is p j e)) (shut_else (wire_at p j).to ((s.wired i entry.wire).tos j e.wire n))

  pub entered_fed : Fed (graph_view p ss) (graph_view p in_spots) i x
  entered_fed = record {
    ports = record { ins = refl; outs = refl };
    rest = λ ext q o. sym (reads_free p.edges.items i x (solve_spots ext in_spots p.nodes.items) ((s.wired i entry.wire).free) q)
        ∙ ap (λ (σ : Ports). reads p.edges.items σ q) (sym (solved ext));
    shut_here = flag_is p.feeds.items (port_shut in_spots) i ilt ∙ (subst (λ (f : Port). port_shut in_spots f ≡ (port_shut ss f || closes x)) (sym (feed_is p i entry))
        shut_here
        ∙ ap (λ (b : Bool). b || closes x) (sym (flag_is p.feeds.items (port_shut ss) i ilt)));
    shut_others = λ j lt n. flags_by p.feeds.items (port_shut in_spots) (port_shut ss) j (λ jlt. feed_shut j jlt n);
    ended = flags p.pads.items (port_ended in_spots) (port_ended ss) (each_all (λ e. port_ended in_spots e ≡ port_ended ss e)
        (λ e. ap (λ (v : View). v.ended e.port) (views e.filter)) p.pads.items);
    stopped = flags p.pads.items (port_stopped in_spots) (port_stopped ss) (each_all (λ e. port_stopped in_spots e ≡ port_stopped ss e)
        (λ e. ap (λ (v : View). v.stopped e.port) (views e.filter)) p.pads.items);
  }

-- the same, where filters stand in a vector
none_of : (m : Option Item) → is_some m ≡ false → m ≡ None
none_of None n = refl
none_of (Some y) n = cc

module _ {F : Type 0} (view : F → View) (p : Plan) (ps : List (Placed F)) (i : ℕ) (to : Port) (ilt : i < length p.feeds.items) (is : (wire_at p i).to ≡ to)
    (s : Sound p (spots view ps)) where
  abbrev wire_there : i < length p.wires.items
  wire_there = (s.framed.entries i ilt).wire

  pub in_filter : to.filter < length ps
  in_filter = let lt = (s.wired i wire_there).to_there in let same : (wire_at p i).to.filter ≡ to.filter = ap (λ (f : Port). f.filter) is in omega
      (arith, s.size, spots_size view ps, lt, same)

  module _ (d v r : Placed F) (x : Item) (k : v ≡ slice_index_or ps to.filter d) (there : to.port < length v.held.items)
      (room : port_held (spots view ps) (wire_at p i).to ≡ false) (open_before : (graph_view p (spots view ps)).shut i ≡ false)
      (filter_is : r.filter ≡ v.filter) (held_set : r.held.items ≡ slice_set v.held.items to.port (Some x)) where
    at : spot_at (spots view ps) to.filter ≡ spot_of view v
    at = spot_is view ps to.filter d v in_filter k

    empty : port_held (spots view ps) to ≡ false
    empty = ap (λ (f : Port). port_held (spots view ps) f) (sym is) ∙ room

    open_there : port_shut (spots view ps) to ≡ false
    open_there = ap (λ (f : Port). port_shut (spots view ps) f) (sym is) ∙ (ap (λ (f : Port). port_shut (spots view ps) f) (sym (feed_is p i (s.framed.entries i ilt)))
        ∙ (sym (flag_is p.feeds.items (port_shut (spots view ps)) i ilt) ∙ open_before))

    put : Stored (spot_at (spots view ps) to.filter) (spot_of view r) to.port x
    put =
        let none : held_at v.held.items to.port ≡ None = none_of (held_at v.held.items to.port) (ap (λ (a : Spot). is_some (held_at a.held to.port)) (sym at)
        ∙ empty) in
        let made : spot_of view r ≡ record { view = view v.filter; held = slice_set v.held.items to.port (Some x) } = λ j. record
        { view = view (filter_is j); held = held_set j } in
        subst (λ (a : Spot). Stored a (spot_of view r) to.port x) (sym at) (subst (λ (a : Spot). Stored (spot_of view v) a to.port x) (sym made)
        (stored (spot_of view v) to.port x there none))

    pub put_sound : Sound p (spots view (slice_set ps to.filter r))
    put_sound = subst (λ (ts : List Spot). Sound p ts) (sym (spots_set view ps to.filter r))
        (subst (λ (f : Port). port_shut (spots view ps) f ≡ false → Stored (spot_at (spots view ps) f.filter) (spot_of view r) f.port x
        → Sound p (slice_set (spots view ps) f.filter (spot_of view r))) is
        (λ a b. entered_sound p (spots view ps) i (spot_of view r) x ilt s a b) open_there put)

    pub put_fed : Fed (graph_view p (spots view ps)) (graph_view p (spots view (slice_set ps to.filter r))) i x
    put_fed = subst (λ (ts : List Spot). Fed (graph_view p (spots view ps)) (graph_view p ts) i x) (sym (spots_set view ps to.filter r))
        (subst (λ (f : Port). port_shut (spots view ps) f ≡ false → Stored (spot_at (spots view ps) f.filter) (spot_of view r) f.port x
        → Fed (graph_view p (spots view ps)) (graph_view p (slice_set (spots view ps) f.filter (spot_of view r))) i x) is
        (λ a b. entered_fed p (spots view ps) i (spot_of view r) x ilt s a b) open_there put)

-- the port that an input leads to, in a vector
module _ {F : Type 0} (view : F → View) (p : Plan) (ps : List (Placed F)) (i : ℕ) (f : Port) (ilt : i < length p.feeds.items) (is : feed_at p i ≡ f)
    (s : Sound p (spots view ps)) where
  feed_to : (wire_at p i).to ≡ f
  feed_to = sym (feed_is p i (s.framed.entries i ilt)) ∙ is

  wlt : i < length p.wires.items
  wlt = (s.framed.entries i ilt).wire

  pub feed_there : f.filter < length ps
  feed_there = let lt = (s.wired i wlt).to_there in let same : (wire_at p i).to.filter ≡ f.filter = ap (λ (g : Port). g.filter) feed_to in omega
      (arith, s.size, spots_size view ps, lt, same)

  feed_in : InThere (spots view ps) f
  feed_in = subst (λ (g : Port). InThere (spots view ps) g) feed_to (to_there p (spots view ps) i s wlt)

  pub feed_held : (d a : Placed F) → a ≡ slice_index_or ps f.filter d → f.port < length a.held.items
  feed_held d a k =
      let at : spot_at (spots view ps) f.filter ≡ spot_of view a = spot_is view ps f.filter d a feed_there k in
      let lt : f.filter < length p.nodes.items = omega (arith, s.size, spots_size view ps, feed_there) in
      let fit = s.fits f.filter (node_of p.nodes.items f.filter lt) (omega (arith, s.size, lt)) in
      subst (λ (b : Spot). f.port < length b.held) at (omega (arith, fit.held, feed_in))

  pub feed_port : (d a : Placed F) → a ≡ slice_index_or ps f.filter d → f.port < length (view a.filter).ins
  feed_port d a k = subst (λ (b : Spot). f.port < length b.view.ins) (spot_is view ps f.filter d a feed_there k) feed_in

  pub shut_is : (d a : Placed F) → a ≡ slice_index_or ps f.filter d → spot_shut (spot_of view a) f.port ≡ (graph_view p (spots view ps)).shut i
  shut_is d a k =
      let there : (graph_view p (spots view ps)).shut i ≡ port_shut (spots view ps) f = flag_is p.feeds.items (port_shut (spots view ps)) i ilt
      ∙ ap (λ (e : Port). port_shut (spots view ps) e) is in
      sym (there ∙ ap (λ (b : Spot). spot_shut b f.port) (spot_is view ps f.filter d a feed_there k))
