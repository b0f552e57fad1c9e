-- The wires of a layout go upward.
use Rattle.std.proofs.Common.{◌≡◌, ℕ, zero, suc, ◌+◌, ◌<◌, ◌≤◌, ◌⊎◌, inl, inr, ◌==◌, Bool, true, false, cond, ◌++◌, map, length, refl, ◌∙◌, subst, arith}
use Rattle.std.specs.Prelude.{None}
use Rattle.ff_plan.specs.Wires.{edges_of}
use Rattle.ff_stream.specs.edges.Ports.{shape_of, IsFed}
use Rattle.ff_plan.proofs.Numbered.{has_ins, has_outs}
use Rattle.ff_plan.proofs.Upward.{go_upward, is_fed}
use Rattle.ff_plan.proofs.Spots.{known_in}
use Rattle.std.specs.List.{position_or_len, AllByRecursion, flat_map, list_any, range_with_len}
use Rattle.std.proofs.lemmas.Bool.Decides.{nat_tests}
use Rattle.ff_words.specs.declared.maps.streams.StreamRef.{StreamRef}
use Rattle.ff_words.specs.declared.maps.streams.Stream.{Stream}
use Rattle.ff_words.specs.maps.Choice.{all_streams}
use Rattle.ff_plan_layout.specs.declared.layout.InPad.{InPad}
use Rattle.ff_plan_layout.specs.declared.layout.Origin.{Origin}
use Rattle.ff_plan_layout.specs.declared.layout.Origin.TheVariants as origin
use Rattle.ff_plan_layout.specs.declared.layout.OutStream.{OutStream}
use Rattle.ff_plan_layout.specs.declared.layout.Placed.{Placed}
use Rattle.ff_plan_layout.specs.declared.layout.Laid.{Laid}
use Rattle.ff_plan_layout.specs.Layout.{IsAmong, Layout, same_ref, place_row, place_from, placed, origins, shows, used, is_used, used_inputs, IsThere, IsLaid, streams, read}
use Rattle.ff_plan_layout.specs.Sources.{source_streams}
use Rattle.ff_plan.specs.Nodes.{start_node, before_decs, before_graphs, before_shortests, node_count, output_numbers, demux_at, dec_at, graph_at, origin_at, origin_port, nodes_of, demux_wire, pad_wire, pad_wires, shortest_wire, enc_wire, mux_wire, wires_of}
use Rattle.ff_plan.specs.declared.planned.PlanNode.TheVariants as node
use Rattle.ff_plan.specs.laws.Laws.{IsUp, IsNextOf, IsNoGraph, GraphsHaveOuts}
use Rattle.ff_stream.specs.edges.Ports.{HasOuts}
use Rattle.ff_plan_layout.proofs.Among.{all_joined, all_map, all_flat, any_among, place_among, kept_among, was_among, among_left, among_right, among_map, among_flat, in_range}
use Rattle.ff_plan_layout.proofs.Tests.{same_self, nat_self}
use Rattle.ff_plan_layout.proofs.Sizes.{joined_length, place_in, map_length, range_length, less_or}

module _ (l : Layout) where
  pub counted : length (nodes_of l) ≡ node_count l
  counted =
      let a = map (λ i. node.Demux i) (used_inputs l) in let b = map (start_node (length l.heads)) (used l) in let c = map (λ g. node.Graph g.graph) l.graphs in
      let d = map (λ o. node.Shortest o) (output_numbers l) in let e = map (λ p. node.Enc p.output p.stream) (placed l) in let f = map (λ o. node.Mux o) (output_numbers l) in
      let j1 = joined_length a (b ++ (c ++ (d ++ (e ++ f)))) in let j2 = joined_length b (c ++ (d ++ (e ++ f))) in let j3 = joined_length c (d ++ (e ++ f)) in
      let j4 = joined_length d (e ++ f) in let j5 = joined_length e f in
      let la = map_length (λ i. node.Demux i) (used_inputs l) in let lb = map_length (start_node (length l.heads)) (used l) in let lc = map_length (λ g. node.Graph g.graph) l.graphs in
      let ld = map_length (λ o. node.Shortest o) (output_numbers l) in let le = map_length (λ p. node.Enc p.output p.stream) (placed l) in let lf = map_length (λ o. node.Mux o) (output_numbers l) in
      let lr = range_length 0 (length l.outputs) in
      omega (arith, j1, j2, j3, j4, j5, la, lb, lc, ld, le, lf, lr)

  pub number_in : (p : Placed) → IsAmong p (placed l) → p.number < length (placed l)
  number_in p i = (let r = place_in 0 0 l.outputs p i in let lt = r.0 in omega (arith, lt))

  pub output_in : (p : Placed) → IsAmong p (placed l) → p.output < length l.outputs
  output_in p i = (let r = place_in 0 0 l.outputs p i in let lt = r.1 in omega (arith, lt))

  pub demux_below : (k : Stream) → IsAmong k (read l) → demux_at l k.at.input < before_decs l
  demux_below k i =
      let was = was_among (λ k. list_any (shows k.at) (origins l)) k (all_streams l.heads) i in
      let below = known_in 0 l.heads k was.0 in
      let asked : is_used l k.at.input ≡ true = any_among (λ j. j.at.input == k.at.input) k (read l) i (nat_self k.at.input) in
      let kept = kept_among (is_used l) k.at.input (range_with_len 0 (length l.heads)) (in_range 0 (length l.heads) k.at.input (omega arith) below) asked in
      place_among (λ j. j == k.at.input) k.at.input (used_inputs l) kept (nat_self k.at.input)

  pub dec_below : (k : Stream) → IsAmong k (used l) → dec_at l k.at < before_graphs l
  dec_below k i = (let lt = place_among (λ j. same_ref j.at k.at) k (used l) i (same_self k.at) in omega (arith, lt))

  -- a stream that is read is used
  pub read_used : (k : Stream) → IsAmong k (read l) → IsAmong k (used l)
  read_used k i =
      let was = was_among (λ k. list_any (shows k.at) (origins l)) k (all_streams l.heads) i in
      kept_among (λ k. list_any (shows k.at) (origins l)) k (streams l) (among_right k (source_streams (length l.heads) l.made) (all_streams l.heads) was.0) was.1

  pub read_below : (k : Stream) → IsAmong k (read l) → dec_at l k.at < before_graphs l
  read_below k i = dec_below k (read_used k i)

  -- a stream that something shows is used
  pub is_used_stream : (s : StreamRef) (k : Stream) → IsAmong k (streams l) → k.at ≡ s → IsAmong (origin.Stream s) (origins l) → IsAmong k (used l)
  is_used_stream s k i e o = kept_among (λ k. list_any (shows k.at) (origins l)) k (streams l) i (any_among (shows k.at) (origin.Stream s) (origins l) o (subst (λ (r : StreamRef). same_ref k.at r ≡ true) e (same_self k.at)))

  origin_below : (before : ℕ) (source : Origin) → IsThere l before source → IsAmong source (origins l) → origin_at l source < before_graphs l + before
  origin_below before (origin.Stream s) (k, i, e) o =
      let lt = subst (λ (r : StreamRef). dec_at l r < before_graphs l) e (dec_below k (is_used_stream s k i e o)) in
      omega (arith, lt)
  origin_below before (origin.Pad g p) lt o = omega (arith, lt)

  stream_origin : (p : Placed) → IsAmong p (placed l) → IsAmong p.what.source (origins l)
  stream_origin p i = among_right p.what.source (flat_map (λ g. map (λ i. i.source) g.ins) l.graphs) (map (λ p. p.what.source) (placed l)) (among_map (λ p. p.what.source) p (placed l) i)

  pad_origin : (g : Laid) (i : InPad) → IsAmong g l.graphs → IsAmong i g.ins → IsAmong i.source (origins l)
  pad_origin g i ga ia = among_left i.source (flat_map (λ g. map (λ i. i.source) g.ins) l.graphs) (map (λ p. p.what.source) (placed l)) (among_flat (λ g. map (λ i. i.source) g.ins) i.source g l.graphs ga (among_map (λ i. i.source) i g.ins ia))

  module _ (laid : IsLaid l) where
    pub stream_below : (p : Placed) → IsAmong p (placed l) → origin_at l p.what.source < before_shortests l
    stream_below p i = origin_below (length l.graphs) p.what.source (laid.streams p i) (stream_origin p i)

    pub graph_below : (g : Laid) → IsAmong g l.graphs → graph_at l g.graph < before_shortests l
    graph_below g i = (let lt = place_among (λ x. x.graph == g.graph) g l.graphs i (nat_self g.graph) in omega (arith, lt))

    demux_up : (k : Stream) → IsAmong k (read l) → IsUp (node_count l) (demux_wire l k)
    demux_up k i = (let a = demux_below k i in let b = read_below k i in (omega (arith, a), omega (arith, b)))

    pub pad_up : (g : Laid) → IsAmong g l.graphs → (i : InPad) → IsAmong i g.ins → IsUp (node_count l) (pad_wire l g.graph i)
    pad_up g ga i ia = (origin_below (position_or_len (λ x. x.graph == g.graph) l.graphs) i.source (laid.graphs g i ga ia) (pad_origin g i ga ia), (let lt = graph_below g ga in omega (arith, lt)))

    shortest_up : (p : Placed) → IsAmong p (placed l) → IsUp (node_count l) (shortest_wire l p)
    shortest_up p i =
        let a = stream_below p i in let o = output_in p i in
        (omega (arith, a), omega (arith, o))

    shortests_up : AllByRecursion (IsUp (node_count l)) (map (shortest_wire l) (placed l))
    shortests_up = all_map (IsUp (node_count l)) (shortest_wire l) (placed l) shortest_up

    enc_up : (p : Placed) → IsAmong p (placed l) → IsUp (node_count l) (enc_wire l p)
    enc_up p i =
        let o = output_in p i in let m = number_in p i in
        (omega (arith, o), omega (arith, m))

    mux_up : (p : Placed) → IsAmong p (placed l) → IsUp (node_count l) (mux_wire l p)
    mux_up p i = (let o = output_in p i in let m = number_in p i in (omega (arith, m), omega (arith, o)))

    pub wires_up : AllByRecursion (IsUp (node_count l)) (wires_of l)
    wires_up =
        let P = IsUp (node_count l) in
        let shorts = map (shortest_wire l) (placed l) in let encs = map (enc_wire l) (placed l) in let muxes = map (mux_wire l) (placed l) in
        all_joined P (map (demux_wire l) (read l)) (flat_map (pad_wires l) l.graphs ++ (shorts ++ (encs ++ muxes))) (all_map P (demux_wire l) (read l) demux_up)
        (all_joined P (flat_map (pad_wires l) l.graphs) (shorts ++ (encs ++ muxes)) (all_flat P (pad_wires l) l.graphs (λ g i. all_map P (pad_wire l g.graph) g.ins (pad_up g i)))
        (all_joined P shorts (encs ++ muxes) shortests_up
        (all_joined P encs muxes (all_map P (enc_wire l) (placed l) enc_up) (all_map P (mux_wire l) (placed l) mux_up))))

    -- only a graph's ports are named
    origin_next : (k before : ℕ) → IsNoGraph l k → before ≤ length l.graphs → (source : Origin) → IsThere l before source → origin_at l source ≡ k → origin_port source ≡ None
    origin_next k before free le (origin.Stream s) is e = refl
    origin_next k before (inl lt) le (origin.Pad g p) is e = absurd (omega (arith, lt, e))
    origin_next k before (inr above) le (origin.Pad g p) is e = absurd (omega (arith, above, e, is, le))

    module _ (k : ℕ) (free : IsNoGraph l k) where
      stream_next : (p : Placed) → IsAmong p (placed l) → origin_at l p.what.source ≡ k → origin_port p.what.source ≡ None
      stream_next p i e = origin_next k (length l.graphs) free (omega arith) p.what.source (laid.streams p i) e

      pad_next : (g : Laid) → IsAmong g l.graphs → (i : InPad) → IsAmong i g.ins → IsNextOf k (pad_wire l g.graph i)
      pad_next g ga i ia e = (let lt = place_among (λ x. x.graph == g.graph) g l.graphs ga (nat_self g.graph) in
          origin_next k (position_or_len (λ x. x.graph == g.graph) l.graphs) free (omega (arith, lt)) i.source (laid.graphs g i ga ia) e)

      shortests_next : AllByRecursion (IsNextOf k) (map (shortest_wire l) (placed l))
      shortests_next = all_map (IsNextOf k) (shortest_wire l) (placed l) stream_next

      enc_next : (p : Placed) → IsAmong p (placed l) → IsNextOf k (enc_wire l p)
      enc_next p i e = refl

      pub wires_next : AllByRecursion (IsNextOf k) (wires_of l)
      wires_next =
          let P = IsNextOf k in
          let shorts = map (shortest_wire l) (placed l) in let encs = map (enc_wire l) (placed l) in let muxes = map (mux_wire l) (placed l) in
          all_joined P (map (demux_wire l) (read l)) (flat_map (pad_wires l) l.graphs ++ (shorts ++ (encs ++ muxes))) (all_map P (demux_wire l) (read l) (λ k i e. refl))
          (all_joined P (flat_map (pad_wires l) l.graphs) (shorts ++ (encs ++ muxes)) (all_flat P (pad_wires l) l.graphs (λ g i. all_map P (pad_wire l g.graph) g.ins (pad_next g i)))
          (all_joined P shorts (encs ++ muxes) shortests_next
          (all_joined P encs muxes (all_map P (enc_wire l) (placed l) enc_next) (all_map P (mux_wire l) (placed l) (λ p i e. refl)))))

      pub no_graph_outs : HasOuts (edges_of (wires_of l)) k
      no_graph_outs = has_outs k (wires_of l) wires_next

    low_or_not : (k a b : ℕ) → ((k < a) ⊎ (b ≤ k)) ⊎ ((a ≤ k) × (k < b))
    low_or_not k a b = elim (less_or k a) [ inl lt ↦ inl (inl lt) | inr le ↦ elim (less_or k b) [ inl lt ↦ inr (le, lt) | inr above ↦ inl (inr above) ] ]

    pub outs_all : GraphsHaveOuts l → (k : ℕ) → HasOuts (edges_of (wires_of l)) k
    outs_all outs k = elim (low_or_not k (before_graphs l) (before_shortests l)) [ inl free ↦ no_graph_outs k free | inr in_graphs ↦ outs k in_graphs.0 in_graphs.1 ]

    pub fed : GraphsHaveOuts l → IsFed (shape_of (edges_of (wires_of l))) (node_count l) (edges_of (wires_of l))
    fed outs = is_fed (node_count l) (edges_of (wires_of l)) (λ k. has_ins k (wires_of l)) (outs_all outs) (go_upward (node_count l) (wires_of l) wires_up)
