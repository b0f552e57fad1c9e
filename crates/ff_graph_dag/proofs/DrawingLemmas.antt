-- An item goes from an output to before the input that its edge leads to.
use Rattle.std.proofs.Common.{◌≡◌, ◌≢◌, ℕ, suc, ◌+◌, ◌*◌, ◌<◌, ◌==◌, ◌||◌, Bool, true, false, cond, is_some, List, length, Option}
use Rattle.std.proofs.Common.{None, Some, slice_index_or, slice_set, refl, ap, sym, ◌∙◌, subst, arith}
use Rattle.std.proofs.lemmas.Bool.Decides.{nat_tests}
use Rattle.std.proofs.lemmas.List.{get_or-set_same, get_or-set_other}
use Rattle.ff_stream.specs.declared.item.Item.{Item}
use Rattle.ff_stream.specs.declared.item.Item.TheVariants.{Audio, Video, Packet, Trailer, End, Broken}
use Rattle.ff_stream.specs.declared.item.Lane.{Lane}
use Rattle.ff_filter.specs.Joins.{Flow}
use Rattle.ff_filter.specs.Joins.{Ports, silence, before, before_if, before_at}
use Rattle.ff_filter.specs.Views.{View, SamePorts, Same, closes}
use Rattle.ff_filter.specs.laws.Held.{held_closes}
use Rattle.ff_graph_dag.specs.declared.graph.Port.{Port}
use Rattle.ff_graph_dag.specs.declared.graph.Plan.{Plan}
use Rattle.ff_graph_dag.specs.laws.Dags.{Spot, held_at, spot_shut, reads, solve_spots, IsDecided, Stored, Pulled}
use Rattle.ff_graph_dag.specs.laws.Graphs.{no_spot, spot_at, wire_at, port_shut, port_ended, port_stopped, port_held, graph_view, Apart, InThere, OutThere, Sound}
use Rattle.ff_graph_dag.specs.laws.Graphs.{begins, go_on, to_go}
use Rattle.ff_graph_dag.specs.laws.Readings.{is_same, is_other}
use Rattle.ff_graph_dag.proofs.Edges.{reads_free, solve_drawn}
use Rattle.ff_graph_dag.proofs.Moving.{size_set, node_of, each_by, each_map, each_both, each_all, flags, sum_less, fits_alike, from_there, else_by}

-- the same ports, and as much room
pub record Alikes (u v : Spot) : Type 0 where
  pub ports : SamePorts u.view v.view
  pub size : length v.held ≡ length u.held

pub alikes_self : (u : Spot) → Alikes u u
alikes_self u = record { ports = record { ins = refl; outs = refl }; size = refl }

alikes_trans : (u v w : Spot) → Alikes u v → Alikes v w → Alikes u w
alikes_trans u v w a b = record { ports = record { ins = b.ports.ins ∙ a.ports.ins; outs = b.ports.outs ∙ a.ports.outs }; size = b.size ∙ a.size }

or_left : (a b : Bool) → (a || b) ≡ false → a ≡ false
or_left true b e = e
or_left false b e = refl

count_before : (x : Item) (r : Flow) → closes x ≡ false → length (before x r).items ≡ suc (length r.items)
count_before (Audio f) r e = refl
count_before (Video f) r e = refl
count_before (Packet f) r e = refl
count_before (Trailer f) r e = refl
count_before End r e = cc
count_before Broken r e = cc

module _ (p : Plan) (ss : List Spot) (w : ℕ) (f : Port) (u t : Spot) (x : Item) (wlt : w < length p.wires.items) (s : Sound p ss) (is : (wire_at p w).from ≡ Some f)
    (empty : port_held ss (wire_at p w).to ≡ false)
    (g : Pulled (spot_at ss f.filter) u f.port x) (h : Stored (spot_at (slice_set ss f.filter u) (wire_at p w).to.filter) t (wire_at p w).to.port x) where
  abbrev pub put_port : Port
  put_port = (wire_at p w).to

  abbrev pub mid_spots : List Spot
  mid_spots = slice_set ss f.filter u

  abbrev pub put_spots : List Spot
  put_spots = slice_set mid_spots put_port.filter t

  up : f.filter < put_port.filter
  up = ((s.wired w wlt).from_there f is).0

  klt : put_port.filter < length ss
  klt = omega (arith, s.size, (s.wired w wlt).to_there)

  jlt : f.filter < length ss
  jlt = omega (arith, klt, up)

  mlt : put_port.filter < length mid_spots
  mlt = omega (arith, klt, size_set ss f.filter u)

  mid_is : spot_at mid_spots put_port.filter ≡ spot_at ss put_port.filter
  mid_is = get_or-set_other ss f.filter put_port.filter u no_spot (omega (arith, up))

  last_is : spot_at put_spots put_port.filter ≡ t
  last_is = get_or-set_same mid_spots put_port.filter t no_spot mlt

  first_is : spot_at put_spots f.filter ≡ u
  first_is = get_or-set_other mid_spots put_port.filter f.filter t no_spot (omega (arith, up)) ∙ get_or-set_same ss f.filter u no_spot jlt

  size_is : length put_spots ≡ length ss
  size_is = size_set mid_spots put_port.filter t ∙ size_set ss f.filter u

  alikes : (m : ℕ) → Alikes (spot_at ss m) (spot_at put_spots m)
  alikes m = alikes_trans (spot_at ss m) (spot_at mid_spots m) (spot_at put_spots m)
      (each_by Alikes alikes_self ss f.filter u jlt (record { ports = g.ports; size = ap (λ (hs : List (Option Item)). length hs) g.held }) m)
      (each_by Alikes alikes_self mid_spots put_port.filter t mlt (record { ports = h.ports; size = h.size }) m)

  stops : (m q : ℕ) → (spot_at put_spots m).view.stopped q ≡ (spot_at ss m).view.stopped q
  stops m q = each_by (λ a b. (q : ℕ) → b.view.stopped q ≡ a.view.stopped q) (λ a q. refl) mid_spots put_port.filter t mlt (λ q. ap (λ (v : View). v.stopped q) h.view)
      m q
      ∙ each_by (λ a b. (q : ℕ) → b.view.stopped q ≡ a.view.stopped q) (λ a q. refl) ss f.filter u jlt g.stopped m q

  decideds : (m : ℕ) → IsDecided (spot_at ss m).view → IsDecided (spot_at put_spots m).view
  decideds m d = each_by (λ a b. IsDecided a.view → IsDecided b.view) (λ a d. d) mid_spots put_port.filter t mlt (subst IsDecided (sym h.view)) m
      (each_by (λ a b. IsDecided a.view → IsDecided b.view) (λ a d. d) ss f.filter u jlt g.decided m d)

  fed : (m q : ℕ) → (spot_at put_spots m).view.shut q ≡ (spot_at ss m).view.shut q
  fed m q = each_by (λ a b. (q : ℕ) → b.view.shut q ≡ a.view.shut q) (λ a q. refl) mid_spots put_port.filter t mlt (λ q. ap (λ (v : View). v.shut q) h.view) m q
      ∙ each_by (λ a b. (q : ℕ) → b.view.shut q ≡ a.view.shut q) (λ a q. refl) ss f.filter u jlt g.fed m q

  held_else : (e : Port) → Apart e put_port → held_at (spot_at put_spots e.filter).held e.port ≡ held_at (spot_at ss e.filter).held e.port
  held_else e n = else_by (λ a b i. held_at b.held i ≡ held_at a.held i) (λ a i. refl) mid_spots put_port.filter put_port.port t mlt h.held_others e n
      ∙ each_by (λ a b. (i : ℕ) → held_at b.held i ≡ held_at a.held i) (λ a i. refl) ss f.filter u jlt (λ i. ap (λ (hs : List (Option Item)). held_at hs i) g.held)
      e.filter e.port

  shut_else : (e : Port) → Apart e put_port → port_shut put_spots e ≡ port_shut ss e
  shut_else e n = ap (λ (b : Bool). b || held_closes (held_at (spot_at put_spots e.filter).held e.port)) (fed e.filter e.port)
      ∙ ap (λ (m : Option Item). (spot_at ss e.filter).view.shut e.port || held_closes m) (held_else e n)

  ended_else : (e : Port) → Apart e f → OutThere ss e → port_ended put_spots e ≡ port_ended ss e
  ended_else e n lt = each_by (λ a b. (q : ℕ) → b.view.ended q ≡ a.view.ended q) (λ a q. refl) mid_spots put_port.filter t mlt
      (λ q. ap (λ (v : View). v.ended q) h.view) e.filter e.port
      ∙ else_by (λ a b o. o < length a.view.outs → b.view.ended o ≡ a.view.ended o) (λ a o l. refl) ss f.filter f.port u jlt (λ o m l. g.ended_others o l m) e n lt

  ended_here : port_ended put_spots f ≡ closes x
  ended_here = ap (λ (a : Spot). a.view.ended f.port) first_is ∙ g.ended_here

  open_there : port_shut ss put_port ≡ false
  open_there = s.linked w f wlt is ∙ g.open_before

  shut_here : port_shut put_spots put_port ≡ closes x
  shut_here = ap (λ (a : Spot). spot_shut a put_port.port) last_is
      ∙ (h.shut_here ∙ ap (λ (b : Bool). b || closes x) (ap (λ (a : Spot). spot_shut a put_port.port) mid_is ∙ open_there))

  linked_at : (v : ℕ) (e : Port) → v < length p.wires.items → (wire_at p v).from ≡ Some e → (b : Bool) → (v == w) ≡ b → port_shut put_spots (wire_at p v).to ≡
      port_ended put_spots e
  linked_at v e vlt k true b =
      let same : w ≡ v = grind (arith, nat_tests) in
      let from_is : (wire_at p v).from ≡ Some f = subst (λ (n : ℕ). (wire_at p n).from ≡ Some f) same is in
      let port_is : f ≡ e = cc (from_is, k) in
      subst (λ (n : ℕ). port_shut put_spots (wire_at p n).to ≡ port_ended put_spots e) same
      (shut_here ∙ (sym ended_here ∙ ap (λ (r : Port). port_ended put_spots r) port_is))
  linked_at v e vlt k false b =
      let other : v ≢ w = grind (arith, nat_tests) in
      shut_else (wire_at p v).to ((s.wired w wlt).tos v vlt other)
      ∙ (s.linked v e vlt k ∙ sym (ended_else e ((s.wired w wlt).froms f e v is k other) (from_there p ss v e s vlt k)))

  unshut_at : (v : ℕ) → v < length p.wires.items → port_held put_spots (wire_at p v).to ≡ true → (b : Bool) → (v == w) ≡ b
      → (spot_at ss (wire_at p v).to.filter).view.shut (wire_at p v).to.port ≡ false
  unshut_at v vlt e true b =
      let same : w ≡ v = grind (arith, nat_tests) in
      subst (λ (n : ℕ). (spot_at ss (wire_at p n).to.filter).view.shut (wire_at p n).to.port ≡ false) same
      (or_left ((spot_at ss put_port.filter).view.shut put_port.port) (held_closes (held_at (spot_at ss put_port.filter).held put_port.port)) open_there)
  unshut_at v vlt e false b =
      let other : v ≢ w = grind (arith, nat_tests) in
      s.unshut v vlt (ap (λ (m : Option Item). is_some m) (sym (held_else (wire_at p v).to ((s.wired w wlt).tos v vlt other))) ∙ e)

  pub drawn_sound : Sound p put_spots
  drawn_sound = record {
    framed = s.framed;
    wired = s.wired;
    pads = s.pads;
    size = size_is ∙ s.size;
    fits = λ k m lt. fits_alike (spot_at ss k) (spot_at put_spots k) (slice_index_or p.nodes.items k m) (alikes k).ports (alikes k).size
        (s.fits k m (omega (arith, size_is, lt)));
    feeds_there = each_map (InThere ss) (InThere put_spots) (λ e l. subst (λ (ls : List Lane). e.port < length ls) (sym (alikes e.filter).ports.ins) l) p.feeds.items
        s.feeds_there;
    pads_there = each_map (OutThere ss) (OutThere put_spots) (λ e l. subst (λ (ls : List Lane). e.port < length ls) (sym (alikes e.filter).ports.outs) l) p.pads.items
        s.pads_there;
    linked = λ v e vlt k. linked_at v e vlt k (v == w) refl;
    idle = λ v e vlt k on. decideds (wire_at p v).to.filter (s.idle v e vlt k (sym (stops e.filter e.port) ∙ on));
    unshut = λ v vlt e. fed (wire_at p v).to.filter (wire_at p v).to.port ∙ unshut_at v vlt e (v == w) refl;
  }

  solved : (σ : Ports) → solve_spots σ ss p.nodes.items ≡ before_at w x (solve_spots σ put_spots p.nodes.items)
  solved =
      let n = node_of p.nodes.items f.filter (omega (arith, s.size, jlt)) in
      solve_drawn ss p.nodes.items f.filter f.port put_port.filter put_port.port no_spot u no_spot t n w x klt ((s.wired w wlt).leads f is)
      ((s.fits f.filter n jlt).outs) g (subst (λ (a : Spot). Stored a t put_port.port x) mid_is h)

  pub drawn_same : Same (graph_view p ss) (graph_view p put_spots)
  drawn_same = record {
    ports = record { ins = refl; outs = refl };
    rest = λ ext q o. sym (reads_free p.edges.items w x (solve_spots ext put_spots p.nodes.items) ((s.wired w wlt).free) q)
        ∙ ap (λ (σ : Ports). reads p.edges.items σ q) (sym (solved ext));
    shut = flags p.feeds.items (port_shut put_spots) (port_shut ss) (each_map (λ e. Apart e put_port) (λ e. port_shut put_spots e ≡ port_shut ss e) shut_else
        p.feeds.items ((s.wired w wlt).feeds f is));
    ended = flags p.pads.items (port_ended put_spots) (port_ended ss) (each_both (λ e. Apart e f) (OutThere ss) (λ e. port_ended put_spots e ≡ port_ended ss e)
        ended_else p.pads.items ((s.wired w wlt).pads f is) s.pads_there);
    stopped = flags p.pads.items (port_stopped put_spots) (port_stopped ss) (each_all (λ e. port_stopped put_spots e ≡ port_stopped ss e) (λ e. stops e.filter e.port)
        p.pads.items);
  }

  begins_else : (v : ℕ) → v < length p.wires.items → v ≢ w → (o : Option Port) → (wire_at p v).from ≡ o → begins put_spots o
      (length (solve_spots silence put_spots p.nodes.items v).items) ≡ begins ss o (length (solve_spots silence ss p.nodes.items v).items)
  begins_else v vlt n None k = refl
  begins_else v vlt n (Some e) k =
      let same : solve_spots silence ss p.nodes.items v ≡ solve_spots silence put_spots p.nodes.items v = ap (λ (σ : Ports). σ v) (solved silence)
      ∙ ap (λ (b : Bool). before_if b x (solve_spots silence put_spots p.nodes.items v)) (is_other v w n) in
      ap (λ (b : Bool). cond b 0 (suc (length (solve_spots silence put_spots p.nodes.items v).items))) (ended_else e ((s.wired w wlt).froms f e v is k n)
      (from_there p ss v e s vlt k))
      ∙ ap (λ (r : Flow). cond (port_ended ss e) 0 (suc (length r.items))) (sym same)

  go_else : (v : ℕ) → v < length p.wires.items → v ≢ w → go_on p put_spots v ≡ go_on p ss v
  go_else v vlt n =
      let held : port_held put_spots (wire_at p v).to ≡ port_held ss (wire_at p v).to = ap (λ (m : Option Item). is_some m)
      (held_else (wire_at p v).to ((s.wired w wlt).tos v vlt n)) in
      ap (λ (n : ℕ). 2 * n + cond (port_held put_spots (wire_at p v).to) 1 0) (begins_else v vlt n (wire_at p v).from refl)
      ∙ ap (λ (b : Bool). 2 * begins ss (wire_at p v).from (length (solve_spots silence ss p.nodes.items v).items) + cond b 1 0) held

  here_less : (c : Bool) → closes x ≡ c → 2 * cond c 0 (suc (length (solve_spots silence put_spots p.nodes.items w).items)) + 1 < 2 * suc
      (length (solve_spots silence ss p.nodes.items w).items) + 0
  here_less true e = omega arith
  here_less false e =
      let same : solve_spots silence ss p.nodes.items w ≡ before x (solve_spots silence put_spots p.nodes.items w) = ap (λ (σ : Ports). σ w) (solved silence)
      ∙ ap (λ (b : Bool). before_if b x (solve_spots silence put_spots p.nodes.items w)) (is_same w w refl) in
      let more : length (solve_spots silence ss p.nodes.items w).items ≡ suc (length (solve_spots silence put_spots p.nodes.items w).items) = ap
      (λ (r : Flow). length r.items) same ∙ count_before x (solve_spots silence put_spots p.nodes.items w) e in
      omega (arith, more)

  go_here : go_on p put_spots w < go_on p ss w
  go_here =
      let held : port_held put_spots put_port ≡ true = ap (λ (a : Spot). is_some (held_at a.held put_port.port)) last_is ∙ ap (λ (m : Option Item). is_some m)
      h.held_here in
      rw (is, held, empty, ended_here, g.open_before) (here_less (closes x) refl)

  pub drawn_less : to_go p put_spots < to_go p ss
  drawn_less = sum_less (length p.wires.items) w (go_on p put_spots) (go_on p ss) wlt go_else go_here
