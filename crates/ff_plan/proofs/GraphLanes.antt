-- The lanes at the ports of a graph's node.
use Rattle.std.proofs.Common.{◌≡◌, inl, inr, ℕ, zero, suc, ◌+◌, ◌-◌, ◌<◌, ◌≤◌, ◌==◌, ◌&&◌, Bool, true, false, cond, List, [], ◌∷◌, ◌++◌, map, length, slice_index_or, Option, Some, refl, sym, ap, ◌∙◌, arith}
use Rattle.std.proofs.lemmas.List.{append-nil}
use Rattle.std.specs.Prelude.{slice_get}
use Rattle.std.specs.List.{AllByRecursion, filter, filter_map, flat_map, cons_option, range_with_len}
use Rattle.std.proofs.lemmas.Bool.Decides.{nat_tests}
use Rattle.ff_stream.specs.declared.edges.edge.Edge.{Edge}
use Rattle.ff_stream.specs.edges.Ports.{tally, HasOuts, at_ports, edge_from, lane_of, lanes_into, lanes_out_of}
use Rattle.ff_stream.specs.declared.item.Lane.{Lane}
use Rattle.ff_stream.specs.declared.item.Lane.TheVariants.{Frames}
use Rattle.ff_frame.specs.declared.head.StreamHead.{StreamHead}
use Rattle.ff_plan_layout.specs.declared.layout.InPad.{InPad}
use Rattle.ff_plan_layout.specs.declared.layout.Origin.{Origin}
use Rattle.ff_plan_layout.specs.declared.layout.Origin.TheVariants as origin
use Rattle.ff_plan_layout.specs.declared.layout.Placed.{Placed}
use Rattle.ff_plan_layout.specs.declared.layout.Laid.{Laid}
use Rattle.ff_plan_layout.specs.Layout.{IsLaid, IsAmong, Layout, placed, origins, read}
use Rattle.ff_plan.specs.Nodes.{before_graphs, before_shortests, graph_at, origin_at, origin_port, demux_wire, pad_wire, pad_wires, shortest_wire, enc_wire, mux_wire, wires_of}
use Rattle.ff_plan_layout.specs.declared.open_pads.OpenOut.{OpenOut}
use Rattle.ff_plan.specs.Wires.{Wire, port_or, leaves_node, enters_node, edges_behind, edges_of}
use Rattle.ff_plan_layout.proofs.Among.{all_joined, all_map, all_flat}
use Rattle.ff_plan_layout.proofs.Counts.{once_length, tally_among}
use Rattle.ff_plan.proofs.GraphWires.{of_graph, graph_test, stream_test, pad_test, are_named, node_outs, all_named, pads_count, pads_of}
use Rattle.ff_plan_layout.proofs.Kept.{nothing, same_some, among_at, below_at}
use Rattle.ff_plan.proofs.Lanes.{wire_lanes, into_is, at_ports_is, mapped}
use Rattle.ff_plan.proofs.Layouts.{demux_below, read_below}
use Rattle.ff_plan_layout.proofs.Tests.{nat_self, is_same, not_same, tally_hit, tally_miss, same_test, other_test}
use Rattle.ff_plan.proofs.Named.{named_count}
use Rattle.ff_plan.proofs.Upward.{first_passes, some_of}
use Rattle.ff_plan_layout.proofs.Uses.{pad_is}

-- ---- the lanes of some wires

module _ (q : Wire → Bool) where
  pub lanes_joined : (xs ys : List Wire) → wire_lanes q (xs ++ ys) ≡ wire_lanes q xs ++ wire_lanes q ys
  lanes_joined [] ys = refl
  lanes_joined (x ∷ xs) ys = step (q x) (lanes_joined xs ys) where
    step : (b : Bool) → wire_lanes q (xs ++ ys) ≡ wire_lanes q xs ++ wire_lanes q ys
        → map (λ (w : Wire). w.lane) (cond b (x ∷ filter q (xs ++ ys)) (filter q (xs ++ ys))) ≡ map (λ (w : Wire). w.lane) (cond b (x ∷ filter q xs) (filter q xs)) ++ wire_lanes q ys
    step true e = ap (λ (ls : List Lane). x.lane ∷ ls) e
    step false e = e

  module _ {A : Type 0} (f : A → Wire) where
    pub lanes_none : (xs : List A) → ((x : A) → IsAmong x xs → q (f x) ≡ false) → wire_lanes q (map f xs) ≡ []
    lanes_none [] each = refl
    lanes_none (x ∷ xs) each =
        ap (λ (b : Bool). map (λ (w : Wire). w.lane) (cond b (f x ∷ filter q (map f xs)) (filter q (map f xs)))) (each x (inl refl)) ∙ lanes_none xs (λ y i. each y (inr i))

    lanes_all : (xs : List A) → ((x : A) → IsAmong x xs → q (f x) ≡ true) → wire_lanes q (map f xs) ≡ map (λ (x : A). (f x).lane) xs
    lanes_all [] each = refl
    lanes_all (x ∷ xs) each =
        ap (λ (b : Bool). map (λ (w : Wire). w.lane) (cond b (f x ∷ filter q (map f xs)) (filter q (map f xs)))) (each x (inl refl))
        ∙ ap (λ (ls : List Lane). (f x).lane ∷ ls) (lanes_all xs (λ y i. each y (inr i)))

-- what one of them alone gives
module _ {A B : Type 0} (p : A → Bool) (f : A → List B) where
  abbrev if_so : A → List B
  if_so x = cond (p x) (f x) []

  none_so : (xs : List A) → tally p xs ≡ 0 → flat_map if_so xs ≡ []
  none_so [] h = refl
  none_so (x ∷ xs) h = step (p x) h (λ k. none_so xs k) where
    step : (b : Bool) → cond b (suc (tally p xs)) (tally p xs) ≡ 0 → (tally p xs ≡ 0 → flat_map if_so xs ≡ []) → cond b (f x) [] ++ flat_map if_so xs ≡ []
    step true k rest = absurd (omega (arith, k))
    step false k rest = rest k

  only_so : (xs : List A) (j : ℕ) (x : A) → slice_get xs j ≡ Some x → p x ≡ true → tally p xs ≤ 1 → flat_map if_so xs ≡ f x
  only_so [] j x at on few = absurd (nothing x at)
  only_so (y ∷ ys) zero x at on few =
      let same : y ≡ x = same_some y x at in
      let here : p y ≡ true = ap p same ∙ on in
      let t = tally_hit p y ys here in
      ap (λ (b : Bool). cond b (f y) [] ++ flat_map if_so ys) here ∙ (ap (λ (zs : List B). f y ++ zs) (none_so ys (omega (arith, t, few))) ∙ (append-nil (f y) ∙ ap f same))
  only_so (y ∷ ys) (suc j) x at on few = step (p y) refl (λ k. only_so ys j x at on k) where
    step : (b : Bool) → p y ≡ b → (tally p ys ≤ 1 → flat_map if_so ys ≡ f x) → cond b (f y) [] ++ flat_map if_so ys ≡ f x
    step true e rest = absurd (let t = tally_hit p y ys e in let u = tally_among p x ys (among_at x ys j at) on in omega (arith, t, u, few))
    step false e rest = rest (let t = tally_miss p y ys e in omega (arith, t, few))

-- ---- the node of graph x

module _ (l : Layout) (laid : IsLaid l) (k : ℕ) (low : before_graphs l ≤ k) (high : k < before_shortests l) (x : Laid)
    (at : slice_get l.graphs (k - before_graphs l) ≡ Some x) (one : tally (λ (y : Laid). y.graph == x.graph) l.graphs ≤ 1) where
  abbrev test : Wire → Bool
  test w = enters_node k w

  abbrev in_lanes : Laid → List Lane
  in_lanes y = map (λ (i : InPad). Frames i.head) y.ins

  row_lanes : (y : Laid) → wire_lanes test (pad_wires l y) ≡ cond (y.graph == x.graph) (in_lanes y) []
  row_lanes y = step (y.graph == x.graph) (graph_test l laid k low high x at one y.graph) where
    step : (b : Bool) → (graph_at l y.graph == k) ≡ b → wire_lanes test (pad_wires l y) ≡ cond b (in_lanes y) []
    step true e = lanes_all test (pad_wire l y.graph) y.ins (λ i a. e)
    step false e = lanes_none test (pad_wire l y.graph) y.ins (λ i a. e)

  rows_lanes : (gs : List Laid) → wire_lanes test (flat_map (pad_wires l) gs) ≡ flat_map (λ (y : Laid). cond (y.graph == x.graph) (in_lanes y) []) gs
  rows_lanes [] = refl
  rows_lanes (y ∷ gs) =
      lanes_joined test (pad_wires l y) (flat_map (pad_wires l) gs)
      ∙ (ap (λ (ls : List Lane). ls ++ wire_lanes test (flat_map (pad_wires l) gs)) (row_lanes y)
      ∙ ap (λ (ls : List Lane). cond (y.graph == x.graph) (in_lanes y) [] ++ ls) (rows_lanes gs))

  ends_none : wire_lanes test (map (shortest_wire l) (placed l)) ++ (wire_lanes test (map (enc_wire l) (placed l)) ++ []) ≡ []
  ends_none =
      ap (λ (ls : List Lane). ls ++ (wire_lanes test (map (enc_wire l) (placed l)) ++ []))
      (lanes_none test (shortest_wire l) (placed l) (λ p i. other_test (shortest_wire l p).to k (λ e. omega (arith, e, high))))
      ∙ ap (λ (ls : List Lane). ls ++ []) (lanes_none test (enc_wire l) (placed l) (λ p i. other_test (enc_wire l p).to k (λ e. omega (arith, e, high))))

  pub into_graph : lanes_into (edges_of (wires_of l)) k ≡ in_lanes x
  into_graph =
      let demuxes = map (demux_wire l) (read l) in let pads = flat_map (pad_wires l) l.graphs in let shorts = map (shortest_wire l) (placed l) in
      let encs = map (enc_wire l) (placed l) in let muxes = map (mux_wire l) (placed l) in
      into_is k (wires_of l)
      ∙ (lanes_joined test demuxes (pads ++ (shorts ++ (encs ++ muxes)))
      ∙ (ap (λ (ls : List Lane). ls ++ wire_lanes test (pads ++ (shorts ++ (encs ++ muxes))))
      (lanes_none test (demux_wire l) (read l) (λ s i. other_test (demux_wire l s).to k (λ e. (let lt = read_below l s i in omega (arith, e, lt, low)))))
      ∙ (lanes_joined test pads (shorts ++ (encs ++ muxes))
      ∙ (ap (λ (ls : List Lane). wire_lanes test pads ++ ls)
      (lanes_joined test shorts (encs ++ muxes)
      ∙ (ap (λ (ls : List Lane). wire_lanes test shorts ++ ls)
      (lanes_joined test encs muxes ∙ ap (λ (ls : List Lane). wire_lanes test encs ++ ls)
      (lanes_none test (mux_wire l) (placed l) (λ p i. other_test (mux_wire l p).to k (λ e. omega (arith, e, high)))))
      ∙ ends_none))
      ∙ (append-nil (wire_lanes test pads)
      ∙ (rows_lanes l.graphs ∙ only_so (λ (y : Laid). y.graph == x.graph) in_lanes l.graphs (k - before_graphs l) x at (nat_self x.graph) one))))))

  -- ---- its outputs, where these are its open pads

  module _ (outs : List OpenOut) (in_ : (q : ℕ) → q < length outs → tally (pad_is x.graph q) (origins l) ≡ 1) (out : (q : ℕ) → length outs ≤ q → tally (pad_is x.graph q) (origins l) ≡ 0)
      (pads_fit : (y : Laid) → IsAmong y l.graphs → (i : InPad) → IsAmong i y.ins → (p : ℕ) → i.source ≡ origin.Pad x.graph p → (o : OpenOut) × (slice_get outs p ≡ Some o) × (i.head ≡ o.head))
      (streams_fit : (s : Placed) → IsAmong s (placed l) → (p : ℕ) → s.what.source ≡ origin.Pad x.graph p → (o : OpenOut) × (slice_get outs p ≡ Some o) × (s.what.head ≡ o.head)) where
    abbrev Carries : Wire → Type 0
    Carries w = w.from ≡ k → (p : ℕ) × (o : OpenOut) × (w.port ≡ Some p) × (slice_get outs p ≡ Some o) × (w.lane ≡ Frames o.head)

    carried : (source : Origin) (head : StreamHead) → (origin_at l source == k) ≡ of_graph x.graph source
        → ((p : ℕ) → source ≡ origin.Pad x.graph p → (o : OpenOut) × (slice_get outs p ≡ Some o) × (head ≡ o.head)) → origin_at l source ≡ k
        → (p : ℕ) × (o : OpenOut) × (origin_port source ≡ Some p) × (slice_get outs p ≡ Some o) × (◌≡◌ {A = Lane} (Frames head) (Frames o.head))
    carried (origin.Stream s) head t fits e = absurd (not_same (origin_at l (origin.Stream s)) k t e)
    carried (origin.Pad h p) head t fits e =
        let same : h ≡ x.graph = is_same h x.graph (sym t ∙ same_test (graph_at l h) k e) in
        let r = fits p (ap (λ (g : ℕ). origin.Pad g p) same) in
        (p, r.0, refl, r.1, ap (λ (y : StreamHead). Frames y) r.2)

    ends_carry : AllByRecursion Carries (map (shortest_wire l) (placed l)) × AllByRecursion Carries (map (enc_wire l) (placed l))
    ends_carry = (
      all_map Carries (shortest_wire l) (placed l) (λ p i e. carried p.what.source p.what.head (stream_test l laid k low high x at one p i) (streams_fit p i) e),
      all_map Carries (enc_wire l) (placed l) (λ p i e. absurd (omega (arith, e, high))),
    )

    all_carry : AllByRecursion Carries (wires_of l)
    all_carry =
        let shorts = map (shortest_wire l) (placed l) in let encs = map (enc_wire l) (placed l) in let muxes = map (mux_wire l) (placed l) in
        let ends = ends_carry in
        all_joined Carries (map (demux_wire l) (read l)) (flat_map (pad_wires l) l.graphs ++ (shorts ++ (encs ++ muxes)))
        (all_map Carries (demux_wire l) (read l) (λ s i e. absurd (let lt = demux_below l s i in omega (arith, e, lt, low))))
        (all_joined Carries (flat_map (pad_wires l) l.graphs) (shorts ++ (encs ++ muxes))
        (all_flat Carries (pad_wires l) l.graphs (λ y iy. all_map Carries (pad_wire l y.graph) y.ins (λ i ii e. carried i.source i.head (pad_test l laid k low high x at one y iy i ii) (pads_fit y iy i ii) e)))
        (all_joined Carries shorts (encs ++ muxes) ends.0 (all_joined Carries encs muxes ends.1 (all_map Carries (mux_wire l) (placed l) (λ p i e. absurd (omega (arith, e, high)))))))

    abbrev Shows : Edge → Type 0
    Shows e = e.from ≡ k → (o : OpenOut) × (slice_get outs e.out_port ≡ Some o) × (e.lane ≡ Frames o.head)

    edges_show : (before ws : List Wire) → AllByRecursion Carries ws → (w : ℕ) (d : Edge) → w < length (edges_behind before ws) → Shows (slice_index_or (edges_behind before ws) w d)
    edges_show before [] all w d lt = absurd (omega (arith, lt))
    edges_show before (x ∷ ws) all zero d lt = λ e.
        (let r = all.0 e in (r.1, ap (λ (o : Option ℕ). slice_get outs (port_or (tally (leaves_node x.from) before) o)) r.2 ∙ r.3, r.4))
    edges_show before (x ∷ ws) all (suc w) d lt = edges_show (x ∷ before) ws all.1 w d (omega (arith, lt))

    abbrev es : List Edge
    es = edges_of (wires_of l)

    has : HasOuts es k
    has = node_outs l laid k low high x at one (length outs) in_ out

    -- as many as open pads
    port_count : tally (λ (e : Edge). e.from == k) es ≡ length outs
    port_count =
        named_count k (wires_of l) (are_named l laid k low high x at one)
        ∙ (ap (λ (ps : List ℕ). length ps) (all_named l laid k low high x at one)
        ∙ once_length (length outs) (pads_of x.graph (origins l)) (λ q lt. pads_count x.graph q (origins l) ∙ in_ q lt) (λ q le. pads_count x.graph q (origins l) ∙ out q le))

    lane_index : (xs : List Edge) (w : ℕ) (d : Edge) → w < length xs → lane_of xs w ≡ Some (slice_index_or xs w d).lane
    lane_index [] w d lt = absurd (omega (arith, lt))
    lane_index (y ∷ ys) zero d lt = refl
    lane_index (y ∷ ys) (suc w) d lt = lane_index ys w d (omega (arith, lt))

    from_is : (e : Edge) (p : ℕ) → ((e.from == k) && (e.out_port == p)) ≡ true → e.from ≡ k
    from_is e p h = grind (arith, nat_tests)

    port_is : (e : Edge) (p : ℕ) → ((e.from == k) && (e.out_port == p)) ≡ true → e.out_port ≡ p
    port_is e p h = grind (arith, nat_tests)

    port_lane : (q : ℕ) (o : OpenOut) → slice_get outs q ≡ Some o → q < length outs → lane_of es (edge_from es k q) ≡ Some (Frames o.head)
    port_lane q o at_q lt =
        let n = port_count in
        let wlt : edge_from es k q < length es = has.there q (omega (arith, n, lt)) in
        let d = some_of es (edge_from es k q) wlt in
        let e = slice_index_or es (edge_from es k q) d in
        let passes = first_passes (λ (y : Edge). (y.from == k) && (y.out_port == q)) es d wlt in
        let shown = edges_show [] (wires_of l) all_carry (edge_from es k q) d wlt (from_is e q passes) in
        let same : shown.0 ≡ o = same_some shown.0 o (sym shown.1 ∙ (ap (λ (p : ℕ). slice_get outs p) (port_is e q passes) ∙ at_q)) in
        lane_index es (edge_from es k q) d wlt ∙ (ap (λ (y : Lane). Some y) shown.2 ∙ ap (λ (y : OpenOut). Some (Frames y.head)) same)

    lanes_row : (f : ℕ → Option Lane) (os : List OpenOut) (a : ℕ) → ((q : ℕ) (o : OpenOut) → slice_get os q ≡ Some o → f (a + q) ≡ Some (Frames o.head))
        → filter_map f (range_with_len a (length os)) ≡ map (λ (o : OpenOut). Frames o.head) os
    lanes_row f [] a each = refl
    lanes_row f (o ∷ os) a each =
        let here : a + 0 ≡ a = omega arith in
        ap (λ (y : Option Lane). cons_option y (filter_map f (range_with_len (a + 1) (length os)))) (sym (ap f here) ∙ each 0 o refl)
        ∙ ap (λ (ls : List Lane). Frames o.head ∷ ls) (lanes_row f os (a + 1) (λ q p at_q. (let next : a + 1 + q ≡ a + suc q = omega arith in ap f next ∙ each (suc q) p at_q)))

    pub out_of_graph : lanes_out_of es k ≡ map (λ (o : OpenOut). Frames o.head) outs
    out_of_graph =
        ap (λ (n : ℕ). filter_map (lane_of es) (at_ports (edge_from es k) n)) port_count
        ∙ (ap (λ (ws : List ℕ). filter_map (lane_of es) ws) (at_ports_is (edge_from es k) (length outs))
        ∙ (mapped (lane_of es) (edge_from es k) (range_with_len 0 (length outs))
        ∙ lanes_row (λ (q : ℕ). lane_of es (edge_from es k q)) outs 0 (λ q o at_q. (let lt = below_at o outs q at_q in let e : 0 + q ≡ q = omega arith in
        ap (λ (p : ℕ). lane_of es (edge_from es k p)) e ∙ port_lane q o at_q lt))))
