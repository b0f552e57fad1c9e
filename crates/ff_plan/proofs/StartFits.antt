-- What stands at the ports of the nodes of inputs.
use Rattle.std.proofs.Common.{◌≡◌, inl, inr, ℕ, suc, ◌+◌, ◌-◌, ◌<◌, ◌≤◌, ◌==◌, ◌&&◌, Bool, true, false, cond, List, [], ◌∷◌, ◌++◌, map, length, Some, refl, sym, ap, ◌∙◌, subst, arith}
use Rattle.std.proofs.lemmas.List.{append-nil}
use Rattle.std.proofs.lemmas.List.Elements.{filter-append}
use Rattle.std.specs.Prelude.{nat_lt, slice_get, replicate, Ok}
use Rattle.std.specs.List.{AllByRecursion, filter, flat_map, list_any, position_or_len, range_with_len}
use Rattle.std.proofs.lemmas.Bool.Decides.{nat_tests}
use Rattle.ff_stream.specs.edges.Ports.{lanes_out_of, tally}
use Rattle.ff_stream.specs.declared.item.Lane.{Lane}
use Rattle.ff_stream.specs.declared.item.Lane.TheVariants.{Frames, Packets}
use Rattle.ff_graph_links.specs.labels.Order.{ComeInOrder, HasNoLoop, graph_order, feeds, is_in}
use Rattle.ff_words.specs.declared.maps.streams.Stream.{Stream}
use Rattle.ff_words.specs.declared.maps.streams.StreamRef.{StreamRef}
use Rattle.ff_words.specs.maps.Choice.{all_streams}
use Rattle.ff_frame.specs.declared.head.StreamHead.{StreamHead}
use Rattle.ff_source.specs.Sources.{head_of}
use Rattle.ff_words.specs.declared.job.Job.{Job}
use Rattle.ff_plan_layout.specs.declared.layout.InPad.{InPad}
use Rattle.ff_plan_layout.specs.declared.layout.Origin.{Origin}
use Rattle.ff_plan_layout.specs.declared.layout.Origin.TheVariants as origin
use Rattle.ff_plan_layout.specs.declared.layout.OutStream.{OutStream}
use Rattle.ff_plan_layout.specs.declared.layout.Placed.{Placed}
use Rattle.ff_plan.specs.declared.planned.Plan.{Plan}
use Rattle.ff_plan.specs.declared.planned.PlanNode.{PlanNode}
use Rattle.ff_plan.specs.declared.planned.PlanNode.TheVariants as node
use Rattle.ff_plan_layout.specs.laws.Graphs.{AreRules}
use Rattle.ff_plan_layout.specs.LaidOut.{layout_of, laid_out}
use Rattle.ff_plan.specs.Planned.{planned}
use Rattle.ff_plan_layout.specs.Rules.{Rules}
use Rattle.ff_plan_layout.specs.declared.layout.Passed.{Passed}
use Rattle.ff_plan_layout.specs.declared.layout.Laid.{Laid}
use Rattle.ff_plan_layout.specs.Layout.{IsAmong, Layout, same_ref, placed, origins, shows, streams, is_shown, used, read, is_used, used_inputs, IsLaid}
use Rattle.ff_plan_layout.specs.Sources.{source_streams}
use Rattle.ff_plan.specs.Nodes.{before_decs, before_graphs, demux_at, dec_at, graph_at, origin_at, demux_wire, pad_wire, pad_wires, shortest_wire, enc_wire, mux_wire, nodes_of, wires_of, plan_of}
use Rattle.ff_plan.specs.laws.StartFits.{FitsCutter, FitsStart, StartsFit, FitsGen, FitsDec}
use Rattle.ff_plan.specs.Wires.{Wire, enters_node, leaves_node, edges_of}
use Rattle.ff_plan_layout.proofs.Among.{never, all_joined, all_map, all_flat, was_among, among_either, among_map, among_flat, of_flat}
use Rattle.ff_plan_layout.proofs.Counts.{total_same, tally_any, tally_joined, tally_none, tally_among, tally_filter_few, tally_map, tally_flat}
use Rattle.ff_plan.proofs.Decoded.{decoded_are}
use Rattle.ff_plan.proofs.EndFits.{IsAt, In_demuxes, In_starts, In_graphs, In_shortests, In_encs, In_muxes, is_at, five, lanes_some}
use Rattle.ff_plan_layout.proofs.Graphed.{Walked, walked, walked_laid, inside_of, of_map}
use Rattle.ff_plan.proofs.GraphFits.{get_either, get_right, only_one, in_comes, by_rows}
use Rattle.ff_plan.proofs.GraphLanes.{lanes_joined, lanes_none}
use Rattle.ff_plan_layout.proofs.Kept.{any_there, among_at, below_at, first_place, place_of, place_passes, one_kept}
use Rattle.ff_plan.proofs.Lanes.{wire_lanes, into_is, out_is}
use Rattle.ff_plan.proofs.Layouts.{demux_below, wires_next}
use Rattle.ff_plan_layout.proofs.Sizes.{map_length}
use Rattle.ff_plan_layout.proofs.Tests.{nat_self, same_self, is_same, same_test, other_test}
use Rattle.ff_plan_layout.proofs.Makings.{Comes, comes_right}
use Rattle.ff_plan_layout.proofs.Outs.{Passes}
use Rattle.ff_plan_layout.proofs.Results.{same_ok, behind_ok}
use Rattle.ff_plan.proofs.Rising.{rises_less, range_rises, head_is}
use Rattle.ff_plan.proofs.Spots.{known_in, known_from, source_at, same_place, places_few}
use Rattle.ff_plan.proofs.UsedOnce.{wanted_once}
use Rattle.ff_plan_layout.proofs.Uses.{only_place}

-- ---- lanes that are all the same

lanes_same : (q : Wire → Bool) (c : Lane) (ws : List Wire) → AllByRecursion (λ (w : Wire). q w ≡ true → w.lane ≡ c) ws → wire_lanes q ws ≡ replicate (length (filter q ws)) c
lanes_same q c [] all = refl
lanes_same q c (w ∷ ws) all = step (q w) all.0 (lanes_same q c ws all.1) where
  step : (b : Bool) → (b ≡ true → w.lane ≡ c) → wire_lanes q ws ≡ replicate (length (filter q ws)) c
      → map (λ (x : Wire). x.lane) (cond b (w ∷ filter q ws) (filter q ws)) ≡ replicate (length (cond b (w ∷ filter q ws) (filter q ws))) c
  step true same rest = ap (λ (x : Lane). x ∷ wire_lanes q ws) (same refl) ∙ ap (λ (ls : List Lane). c ∷ ls) rest
  step false same rest = rest

tally_length : {A : Type 0} (p : A → Bool) (xs : List A) → tally p xs ≡ length (filter p xs)
tally_length p [] = refl
tally_length p (x ∷ xs) = step (p x) (tally_length p xs) where
  step : (b : Bool) → tally p xs ≡ length (filter p xs) → cond b (suc (tally p xs)) (tally p xs) ≡ length (cond b (x ∷ filter p xs) (filter p xs))
  step true e = ap suc e
  step false e = e

tally_if : {A : Type 0} (p q : A → Bool) → ((x : A) → p x ≡ true → q x ≡ true) → (xs : List A) → tally p xs ≤ tally q xs
tally_if p q each [] = omega arith
tally_if {A} p q each (x ∷ xs) = step (p x) (q x) (each x) (tally_if p q each xs) where
  step : (b c : Bool) → (b ≡ true → c ≡ true) → tally p xs ≤ tally q xs → cond b (suc (tally p xs)) (tally p xs) ≤ cond c (suc (tally q xs)) (tally q xs)
  step true true on h = omega (arith, h)
  step true false on h = absurd (never (on refl))
  step false true on h = omega (arith, h)
  step false false on h = h

-- ---- kept of what was kept

filter_twice : {A : Type 0} (p q : A → Bool) (xs : List A) → filter p (filter q xs) ≡ filter (λ x. q x && p x) xs
filter_twice p q [] = refl
filter_twice {A} p q (x ∷ xs) = step (q x) (filter_twice p q xs) where
  step : (b : Bool) → filter p (filter q xs) ≡ filter (λ y. q y && p y) xs
      → filter p (cond b (x ∷ filter q xs) (filter q xs)) ≡ cond (b && p x) (x ∷ filter (λ y. q y && p y) xs) (filter (λ y. q y && p y) xs)
  step true e = ap (λ (ys : List A). cond (p x) (x ∷ ys) ys) e
  step false e = e

both_right : (a b : Bool) → (a && b) ≡ true → b ≡ true
both_right true b h = h
both_right false b h = absurd (never h)

module _ (l : Layout) (laid : IsLaid l) where
  abbrev ps : List Placed
  ps = placed l

  abbrev inputs : List ℕ
  inputs = used_inputs l

  origin_high : (o : Origin) → before_decs l ≤ origin_at l o
  origin_high (origin.Stream s) = omega arith
  origin_high (origin.Pad g p) = omega arith

  -- ---- a Demux

  module _ (k i : ℕ) (at : slice_get inputs k ≡ Some i) where
    low : k < before_decs l
    low = below_at i inputs k at

    own_place : position_or_len (λ j. j == i) inputs ≡ k
    own_place = first_place (λ (q : ℕ). q == i) inputs k i at (nat_self i) (λ j x lt e.
        (let less = rises_less 0 inputs j k x i (range_rises (is_used l) 0 (length l.heads)) lt e at in other_test x i (λ f. omega (arith, f, less))))

    from_test : (s : Stream) → (demux_at l s.at.input == k) ≡ (s.at.input == i)
    from_test s = step (s.at.input == i) refl where
      step : (b : Bool) → (s.at.input == i) ≡ b → (demux_at l s.at.input == k) ≡ b
      step true e = same_test (demux_at l s.at.input) k (ap (λ (j : ℕ). demux_at l j) (is_same s.at.input i e) ∙ own_place)
      step false e = other_test (demux_at l s.at.input) k (λ f. never (sym e ∙ same_test s.at.input i (sym (is_same i s.at.input (place_passes (λ (j : ℕ). j == s.at.input) inputs k i at f)))))

    none_in : wire_lanes (enters_node k) (wires_of l) ≡ []
    none_in = five l laid (enters_node k) [] [] [] [] []
        (lanes_none (enters_node k) (demux_wire l) (read l) (λ s a. other_test (demux_wire l s).to k (λ e. (let lt = low in omega (arith, e, lt)))))
        (pads_none_in l.graphs)
        shorts_none_in
        encs_none_in
        (lanes_none (enters_node k) (mux_wire l) ps (λ p a. other_test (mux_wire l p).to k (λ e. (let lt = low in omega (arith, e, lt))))) where
          pads_none_in : (gs : List Laid) → wire_lanes (enters_node k) (flat_map (pad_wires l) gs) ≡ []
          pads_none_in [] = refl
          pads_none_in (y ∷ gs) =
              lanes_joined (enters_node k) (pad_wires l y) (flat_map (pad_wires l) gs)
              ∙ (ap (λ (ls : List Lane). ls ++ wire_lanes (enters_node k) (flat_map (pad_wires l) gs)) (lanes_none (enters_node k) (pad_wire l y.graph) y.ins (λ p a. other_test (graph_at l y.graph) k (λ e. (let lt = low in omega (arith, e, lt)))))
              ∙ pads_none_in gs)

          shorts_none_in : wire_lanes (enters_node k) (map (shortest_wire l) ps) ≡ []
          shorts_none_in = lanes_none (enters_node k) (shortest_wire l) ps (λ p a. other_test (shortest_wire l p).to k (λ e. (let lt = low in omega (arith, e, lt))))

          encs_none_in : wire_lanes (enters_node k) (map (enc_wire l) ps) ≡ []
          encs_none_in = lanes_none (enters_node k) (enc_wire l) ps (λ p a. other_test (enc_wire l p).to k (λ e. (let lt = low in omega (arith, e, lt))))

    abbrev own : Stream → Bool
    own s = s.at.input == i

    own_out : wire_lanes (leaves_node k) (wires_of l) ≡ map (λ (s : Stream). Packets s.head) (filter own (read l))
    own_out =
        let mine = map (λ (s : Stream). Packets s.head) (filter own (read l)) in
        five l laid (leaves_node k) mine [] [] [] [] (lanes_some (leaves_node k) (demux_wire l) own (read l) from_test) (pads_none_out l.graphs) shorts_none_out encs_none_out
        (lanes_none (leaves_node k) (mux_wire l) ps (λ p a. other_test (mux_wire l p).from k (λ e. (let lt = low in omega (arith, e, lt))))) ∙ append-nil mine where
          pads_none_out : (gs : List Laid) → wire_lanes (leaves_node k) (flat_map (pad_wires l) gs) ≡ []
          pads_none_out [] = refl
          pads_none_out (y ∷ gs) =
              lanes_joined (leaves_node k) (pad_wires l y) (flat_map (pad_wires l) gs)
              ∙ (ap (λ (ls : List Lane). ls ++ wire_lanes (leaves_node k) (flat_map (pad_wires l) gs)) (lanes_none (leaves_node k) (pad_wire l y.graph) y.ins (λ p a. other_test (origin_at l p.source) k (λ e.
              (let lt = low in let h = origin_high p.source in omega (arith, e, lt, h)))))
              ∙ pads_none_out gs)

          shorts_none_out : wire_lanes (leaves_node k) (map (shortest_wire l) ps) ≡ []
          shorts_none_out = lanes_none (leaves_node k) (shortest_wire l) ps (λ p a. other_test (shortest_wire l p).from k (λ e. (let lt = low in let h = origin_high p.what.source in omega (arith, e, lt, h))))

          encs_none_out : wire_lanes (leaves_node k) (map (enc_wire l) ps) ≡ []
          encs_none_out = lanes_none (leaves_node k) (enc_wire l) ps (λ p a. other_test (enc_wire l p).from k (λ e. (let lt = low in omega (arith, e, lt))))

    outs_are : lanes_out_of (edges_of (wires_of l)) k ≡ map (λ (s : Stream). Packets s.head) (filter own (read l))
    outs_are = out_is k (wires_of l) (wires_next l laid k (inl (let lt = low in omega (arith, lt)))) ∙ own_out

    -- an input has a Demux where one of its streams is used
    own_some : 1 ≤ length (filter own (read l))
    own_some =
        let is = (was_among (is_used l) i (range_with_len 0 (length l.heads)) (among_at i inputs k at)).1 in
        let t = tally_any own (read l) is in
        let long = tally_length own (read l) in
        omega (arith, t, long)

    pub cutter_fits : FitsCutter l.heads (nodes_of l) (edges_of (wires_of l)) k i
    cutter_fits = record {
      shown = λ s. list_any (shows s.at) (origins l) && (s.at.input == i);
      of_input = λ s e. is_same s.at.input i (both_right (list_any (shows s.at) (origins l)) (s.at.input == i) e);
      ins = into_is k (wires_of l) ∙ none_in;
      decoded = decoded_are i l ∙ ap (λ (ss : List Stream). map (λ (s : Stream). s.at.stream) ss) (filter_twice own (λ (s : Stream). list_any (shows s.at) (origins l)) (all_streams l.heads));
      some = subst (λ (ls : List Lane). 1 ≤ length ls) (sym outs_are) (let n = own_some in let long = map_length (λ (s : Stream). Packets s.head) (filter own (read l)) in omega (arith, n, long));
      outs = outs_are ∙ ap (λ (ss : List Stream). map (λ (s : Stream). Packets s.head) ss) (filter_twice own (λ (s : Stream). list_any (shows s.at) (origins l)) (all_streams l.heads));
    }

  -- ---- a node of a stream

  -- those of sources that are used stand first
  abbrev of_sources : List Stream
  of_sources = source_streams (length l.heads) l.made

  abbrev used_sources : List Stream
  used_sources = filter (is_shown l) of_sources

  used_are : used l ≡ used_sources ++ read l
  used_are = filter-append (is_shown l) of_sources (all_streams l.heads)

  read_place : (j : ℕ) (t : Stream) → slice_get (read l) j ≡ Some t → slice_get (used l) (length used_sources + j) ≡ Some t
  read_place j t e = ap (λ (ss : List Stream). slice_get ss (length used_sources + j)) used_are ∙ (get_right used_sources (read l) (length used_sources + j) j refl ∙ e)

  stream_few : (t : StreamRef) → tally (λ (q : Stream). same_ref q.at t) (streams l) ≤ 1
  stream_few t = places_few t l.heads l.made

  spot : (j : ℕ) (t : Stream) → slice_get (used l) j ≡ Some t → position_or_len (λ (q : Stream). same_ref q.at t.at) (used l) ≡ j
  spot j t e =
      let some = stream_few t.at in
      let few = tally_filter_few (λ (q : Stream). same_ref q.at t.at) (is_shown l) (streams l) in
      (only_place (λ (q : Stream). same_ref q.at t.at) (used l) j t (omega (arith, some, few)) e (same_self t.at)).0

  module _ (k r : ℕ) (s : Stream) (at : slice_get (used l) r ≡ Some s) (place_ : k ≡ before_decs l + r)
      (pads_same : (y : Laid) → IsAmong y l.graphs → (i : InPad) → IsAmong i y.ins → i.source ≡ origin.Stream s.at → i.head ≡ s.head)
      (streams_same : (p : Placed) → IsAmong p ps → p.what.source ≡ origin.Stream s.at → p.what.head ≡ s.head) where
    dec_low : k < before_graphs l
    dec_low = (let lt = below_at s (used l) r at in omega (arith, lt, place_))

    own_node : dec_at l s.at ≡ k
    own_node = (let e = spot r s at in omega (arith, e, place_))

    -- by the wires from Demux nodes
    ins_by : (ls : List Lane) → wire_lanes (enters_node k) (map (demux_wire l) (read l)) ≡ ls → wire_lanes (enters_node k) (wires_of l) ≡ ls
    ins_by ls demuxes = five l laid (enters_node k) ls [] [] [] [] demuxes (no_pads l.graphs) no_shorts no_encs
        (lanes_none (enters_node k) (mux_wire l) ps (λ p a. other_test (mux_wire l p).to k (λ e. (let lt = dec_low in omega (arith, e, lt))))) ∙ append-nil ls where
          no_pads : (gs : List Laid) → wire_lanes (enters_node k) (flat_map (pad_wires l) gs) ≡ []
          no_pads [] = refl
          no_pads (y ∷ gs) =
              lanes_joined (enters_node k) (pad_wires l y) (flat_map (pad_wires l) gs)
              ∙ (ap (λ (ls : List Lane). ls ++ wire_lanes (enters_node k) (flat_map (pad_wires l) gs)) (lanes_none (enters_node k) (pad_wire l y.graph) y.ins (λ p a. other_test (graph_at l y.graph) k (λ e. (let lt = dec_low in omega (arith, e, lt)))))
              ∙ no_pads gs)

          no_shorts : wire_lanes (enters_node k) (map (shortest_wire l) ps) ≡ []
          no_shorts = lanes_none (enters_node k) (shortest_wire l) ps (λ p a. other_test (shortest_wire l p).to k (λ e. (let lt = dec_low in omega (arith, e, lt))))

          no_encs : wire_lanes (enters_node k) (map (enc_wire l) ps) ≡ []
          no_encs = lanes_none (enters_node k) (enc_wire l) ps (λ p a. other_test (enc_wire l p).to k (λ e. (let lt = dec_low in omega (arith, e, lt))))

    -- ---- the wires that leave it

    shown_here : (o : Origin) → origin_at l o ≡ k → o ≡ origin.Stream s.at
    shown_here (origin.Stream t) e =
        let p : position_or_len (λ (q : Stream). same_ref q.at t) (used l) ≡ r = omega (arith, e, place_) in
        ap (λ (x : StreamRef). origin.Stream x) (sym (same_place s.at t (place_passes (λ (q : Stream). same_ref q.at t) (used l) r s at p)))
    shown_here (origin.Pad g p) e = absurd (let lt = dec_low in omega (arith, e, lt))

    abbrev Same : Wire → Type 0
    Same w = (w.from == k) ≡ true → w.lane ≡ Frames s.head

    frames : (h : StreamHead) → h ≡ s.head → ◌≡◌ {A = Lane} (Frames h) (Frames s.head)
    frames h e = ap (λ (x : StreamHead). Frames x) e

    stream_same : (p : Placed) → IsAmong p ps → (origin_at l p.what.source == k) ≡ true → ◌≡◌ {A = Lane} (Frames p.what.head) (Frames s.head)
    stream_same p i e = frames p.what.head (streams_same p i (shown_here p.what.source (is_same (origin_at l p.what.source) k e)))

    ends_same : AllByRecursion Same (map (shortest_wire l) ps) × AllByRecursion Same (map (enc_wire l) ps)
    ends_same = (all_map Same (shortest_wire l) ps stream_same, all_map Same (enc_wire l) ps (λ p i e. absurd (let lt = dec_low in let f = is_same (enc_wire l p).from k e in omega (arith, f, lt))))

    all_same : AllByRecursion Same (wires_of l)
    all_same =
        let shorts = map (shortest_wire l) ps in let encs = map (enc_wire l) ps in let muxes = map (mux_wire l) ps in
        let ends = ends_same in
        all_joined Same (map (demux_wire l) (read l)) (flat_map (pad_wires l) l.graphs ++ (shorts ++ (encs ++ muxes)))
        (all_map Same (demux_wire l) (read l) (λ t i e. absurd (let lt = demux_below l t i in let f = is_same (demux_wire l t).from k e in omega (arith, f, lt, place_))))
        (all_joined Same (flat_map (pad_wires l) l.graphs) (shorts ++ (encs ++ muxes))
        (all_flat Same (pad_wires l) l.graphs (λ y iy. all_map Same (pad_wire l y.graph) y.ins (λ i ii e. frames i.head (pads_same y iy i ii (shown_here i.source (is_same (origin_at l i.source) k e))))))
        (all_joined Same shorts (encs ++ muxes) ends.0 (all_joined Same encs muxes ends.1
        (all_map Same (mux_wire l) ps (λ p i e. absurd (let lt = dec_low in let f = is_same (mux_wire l p).from k e in omega (arith, f, lt)))))))

    -- one of them at least
    some_end : (p : Placed) → IsAmong p ps → origin_at l p.what.source ≡ k → 1 ≤ tally (leaves_node k) (map (shortest_wire l) ps) + tally (leaves_node k) (map (enc_wire l) ps)
    some_end p i e = (let t = tally_among (leaves_node k) (shortest_wire l p) (map (shortest_wire l) ps) (among_map (shortest_wire l) p ps i) (same_test (origin_at l p.what.source) k e) in omega (arith, t))

    abbrev in_sources : List Origin
    in_sources = flat_map (λ (y : Laid). map (λ (i : InPad). i.source) y.ins) l.graphs

    some_use : (o : Origin) → IsAmong o (origins l) → origin_at l o ≡ k → 1 ≤ tally (leaves_node k) (wires_of l)
    some_use o io e =
        let demuxes = map (demux_wire l) (read l) in let pads = flat_map (pad_wires l) l.graphs in let shorts = map (shortest_wire l) ps in
        let encs = map (enc_wire l) ps in let muxes = map (mux_wire l) ps in
        let j1 = tally_joined (leaves_node k) demuxes (pads ++ (shorts ++ (encs ++ muxes))) in let j2 = tally_joined (leaves_node k) pads (shorts ++ (encs ++ muxes)) in
        let j3 = tally_joined (leaves_node k) shorts (encs ++ muxes) in let j4 = tally_joined (leaves_node k) encs muxes in
        elim (among_either o in_sources (map (λ (p : Placed). p.what.source) ps) io) [
          | inl a ↦ (let y = of_flat (λ (y : Laid). map (λ (i : InPad). i.source) y.ins) o l.graphs a in let i = of_map (λ (i : InPad). i.source) o y.0.ins y.2 in
              let t = tally_among (leaves_node k) (pad_wire l y.0.graph i.0) pads (among_flat (pad_wires l) (pad_wire l y.0.graph i.0) y.0 l.graphs y.1 (among_map (pad_wire l y.0.graph) i.0 y.0.ins i.1))
              (same_test (origin_at l i.0.source) k (ap (λ (x : Origin). origin_at l x) i.2 ∙ e)) in
              omega (arith, j1, j2, j3, j4, t))
          | inr b ↦ (let p = of_map (λ (p : Placed). p.what.source) o ps b in
              let t = some_end p.0 p.1 (ap (λ (x : Origin). origin_at l x) p.2 ∙ e) in
              omega (arith, j1, j2, j3, j4, t))
        ]

    was_used : IsAmong s (streams l) × (is_shown l s ≡ true)
    was_used = was_among (is_shown l) s (streams l) (among_at s (used l) r at)

    shown_node : (o : Origin) → shows s.at o ≡ true → origin_at l o ≡ k
    shown_node (origin.Stream t) e = ap (λ (x : StreamRef). dec_at l x) (sym (same_place s.at t e)) ∙ own_node
    shown_node (origin.Pad g p) e = absurd (never e)

    uses_some : 1 ≤ length (filter (leaves_node k) (wires_of l))
    uses_some =
        let o = any_there (shows s.at) (origins l) was_used.1 in
        let t = some_use o.1 (among_at o.1 (origins l) o.0 o.2) (shown_node o.1 o.3) in
        let long = tally_length (leaves_node k) (wires_of l) in
        omega (arith, t, long)

    frames_out : lanes_out_of (edges_of (wires_of l)) k ≡ replicate (length (filter (leaves_node k) (wires_of l))) (Frames s.head)
    frames_out = out_is k (wires_of l) (wires_next l laid k (inl dec_low)) ∙ lanes_same (leaves_node k) (Frames s.head) (wires_of l) all_same

    -- ---- a Dec

    module _ (low : s.at.input < length l.heads) where
      is_read : IsAmong s (all_streams l.heads)
      is_read = elim (among_either s of_sources (all_streams l.heads) was_used.0) [
        | inl i ↦ absurd (let le = known_from (length l.heads) (map (λ m. head_of m ∷ []) l.made) s i in omega (arith, low, le))
        | inr i ↦ i
      ]

      own_read : (j : ℕ) × (r ≡ length used_sources + j) × (slice_get (read l) j ≡ Some s)
      own_read = elim (get_either used_sources (read l) r s (sym (ap (λ (ss : List Stream). slice_get ss r) used_are) ∙ at)) [
        | inl x ↦ absurd (let i = (was_among (is_shown l) s of_sources (among_at s used_sources r x)).0 in
            let le = known_from (length l.heads) (map (λ m. head_of m ∷ []) l.made) s i in omega (arith, low, le))
        | inr x ↦ x
      ]

      only_own : filter (λ (t : Stream). dec_at l t.at == k) (read l) ≡ s ∷ []
      only_own =
          let here = own_read in let same = here.1 in
          one_kept (λ (t : Stream). dec_at l t.at == k) (read l) here.0 s here.2 (same_test (dec_at l s.at) k own_node)
          (λ j t f other. other_test (dec_at l t.at) k (λ e. other (let p = spot (length used_sources + j) t (read_place j t f) in omega (arith, e, p, place_, same))))

      dec_in : wire_lanes (enters_node k) (wires_of l) ≡ Packets s.head ∷ []
      dec_in = ins_by (Packets s.head ∷ [])
          (lanes_some (enters_node k) (demux_wire l) (λ (t : Stream). dec_at l t.at == k) (read l) (λ t. refl) ∙ ap (λ (ts : List Stream). map (λ (t : Stream). Packets t.head) ts) only_own)

      pub dec_fits : FitsDec l.heads (edges_of (wires_of l)) k s.at
      dec_fits = record {
        head = s.head;
        is = head_is l.heads s is_read;
        uses = length (filter (leaves_node k) (wires_of l));
        used = uses_some;
        ins = into_is k (wires_of l) ∙ dec_in;
        outs = frames_out;
      }

    -- ---- a Gen

    module _ (high : length l.heads ≤ s.at.input) (once : tally (shows s.at) (origins l) ≤ 1) where
      is_made : IsAmong s of_sources
      is_made = elim (among_either s of_sources (all_streams l.heads) was_used.0) [
        | inl i ↦ i
        | inr i ↦ absurd (let lt = known_in 0 l.heads s i in omega (arith, high, lt))
      ]

      own_first : r < length used_sources
      own_first = elim (get_either used_sources (read l) r s (sym (ap (λ (ss : List Stream). slice_get ss r) used_are) ∙ at)) [
        | inl x ↦ below_at s used_sources r x
        | inr x ↦ absurd (let i = (was_among (is_shown l) s (all_streams l.heads) (among_at s (read l) x.0 x.2)).0 in
            let lt = known_in 0 l.heads s i in omega (arith, high, lt))
      ]

      none_read : wire_lanes (enters_node k) (map (demux_wire l) (read l)) ≡ []
      none_read = lanes_none (enters_node k) (demux_wire l) (read l) (λ t i. other_test (demux_wire l t).to k (λ e.
          (let q = place_of t (read l) i in let p = spot (length used_sources + q.0) t (read_place q.0 t q.1) in let lt = own_first in omega (arith, e, p, place_, lt))))

      -- as many frames as uses
      shown_if : (o : Origin) → (origin_at l o == k) ≡ true → shows s.at o ≡ true
      shown_if o e = ap (λ (x : Origin). shows s.at x) (shown_here o (is_same (origin_at l o) k e)) ∙ same_self s.at

      uses_few : tally (leaves_node k) (wires_of l) ≤ 1
      uses_few =
          let demuxes = map (demux_wire l) (read l) in let pads = flat_map (pad_wires l) l.graphs in let shorts = map (shortest_wire l) ps in
          let encs = map (enc_wire l) ps in let muxes = map (mux_wire l) ps in
          let j1 = tally_joined (leaves_node k) demuxes (pads ++ (shorts ++ (encs ++ muxes))) in let j2 = tally_joined (leaves_node k) pads (shorts ++ (encs ++ muxes)) in
          let j3 = tally_joined (leaves_node k) shorts (encs ++ muxes) in let j4 = tally_joined (leaves_node k) encs muxes in
          let here : Origin → Bool = λ o. origin_at l o == k in
          let a = tally_none (leaves_node k) demuxes (λ w i.
          (let t = of_map (demux_wire l) w (read l) i in subst (λ (v : Wire). leaves_node k v ≡ false) t.2
          (other_test (demux_wire l t.0).from k (λ e. (let lt = demux_below l t.0 t.1 in omega (arith, e, lt, place_)))))) in
          let b = tally_flat (leaves_node k) (pad_wires l) l.graphs
          ∙ (total_same (λ (y : Laid). tally (leaves_node k) (pad_wires l y)) (λ (y : Laid). tally here (map (λ (i : InPad). i.source) y.ins)) l.graphs
          (λ y iy. tally_map (leaves_node k) (pad_wire l y.graph) y.ins ∙ sym (tally_map here (λ (i : InPad). i.source) y.ins))
          ∙ sym (tally_flat here (λ (y : Laid). map (λ (i : InPad). i.source) y.ins) l.graphs)) in
          let c = tally_map (leaves_node k) (shortest_wire l) ps ∙ sym (tally_map here (λ (p : Placed). p.what.source) ps) in
          let d = tally_none (leaves_node k) encs (λ w i.
          (let t = of_map (enc_wire l) w ps i in subst (λ (v : Wire). leaves_node k v ≡ false) t.2 (other_test (enc_wire l t.0).from k (λ e. (let lt = dec_low in omega (arith, e, lt)))))) in
          let f = tally_none (leaves_node k) muxes (λ w i.
          (let t = of_map (mux_wire l) w ps i in subst (λ (v : Wire). leaves_node k v ≡ false) t.2 (other_test (mux_wire l t.0).from k (λ e. (let lt = dec_low in omega (arith, e, lt)))))) in
          let j5 = tally_joined here in_sources (map (λ (p : Placed). p.what.source) ps) in
          let all = tally_if here (shows s.at) shown_if (origins l) in
          omega (arith, j1, j2, j3, j4, j5, a, b, c, d, f, all, once)

      one_use : length (filter (leaves_node k) (wires_of l)) ≡ 1
      one_use = (let few = uses_few in let some = uses_some in let long = tally_length (leaves_node k) (wires_of l) in omega (arith, few, some, long))

      pub gen_fits : FitsGen (length l.heads) l.made (edges_of (wires_of l)) k s.at.input
      gen_fits =
          let m = source_at (length l.heads) l.made s is_made in
          let number = m.2 in let head = m.4 in
          record {
            source = m.1;
            behind = high;
            is = ap (λ (j : ℕ). slice_get l.made j) (let e : s.at.input - length l.heads ≡ m.0 = omega (arith, number) in e) ∙ m.3;
            ins = into_is k (wires_of l) ∙ ins_by [] none_read;
            outs = frames_out ∙ (ap (λ (n : ℕ). replicate n (Frames s.head)) one_use ∙ ap (λ (h : StreamHead). Frames h ∷ []) head);
          }

-- ---- in a plan

module _ (rules : Rules) (are : AreRules rules) (job : Job) (heads : List (List StreamHead)) (l : Layout) (w : Walked rules job heads l)
    (come : ComeInOrder (feeds job.graphs) (length job.graphs) [] (graph_order job.graphs))
    (all_in : HasNoLoop (feeds job.graphs) (length job.graphs) → (g : ℕ) → g < length job.graphs → is_in (graph_order job.graphs) g ≡ true)
    (some_outputs : 1 ≤ length job.outputs) where
  abbrev whole : Layout
  whole = layout_of rules job heads w.made w.rows

  laid_whole : IsLaid whole
  laid_whole = subst IsLaid (sym w.is) (walked_laid rules job heads l come w)

  abbrev ref_in : Origin → StreamRef → StreamRef
  ref_in (origin.Stream t) d = t
  ref_in (origin.Pad g p) d = d

  abbrev IsPad : Origin → Type 0
  IsPad (origin.Stream t) = ⊥
  IsPad (origin.Pad g p) = Unit {0}

  module _ (s : Stream) (there : IsAmong s (streams whole)) where
    same_stream : (t : Stream) → IsAmong t (streams whole) → t.at ≡ s.at → t ≡ s
    same_stream t it e = only_one (λ (q : Stream). same_ref q.at s.at) t s (streams whole) (places_few s.at heads whole.made) it there
        (ap (λ (x : StreamRef). same_ref x s.at) e ∙ same_self s.at) (same_self s.at)

    -- what shows the stream has its head
    come_same : (i : InPad) → Comes (streams whole) w.made i → i.source ≡ origin.Stream s.at → i.head ≡ s.head
    come_same i (inl t) e =
        let at : t.stream.at ≡ s.at = ap (λ (o : Origin). ref_in o s.at) (ap (λ (j : InPad). j.source) t.is ∙ e) in
        sym (ap (λ (j : InPad). j.head) t.is) ∙ ap (λ (q : Stream). q.head) (same_stream t.stream t.there at)
    come_same i (inr o) e = absurd (subst IsPad (ap (λ (j : InPad). j.source) o.is ∙ e) tt)

    passed_same : (ps : List Passed) (p : Passed) → IsAmong ps w.rows → IsAmong p ps → Passes rules (inside_of heads job w.made) p → p.what.source ≡ origin.Stream s.at → p.what.head ≡ s.head
    passed_same ps p ips ip t e = elim t.how [
      | inl a ↦ sym (ap (λ (q : Passed). q.what.head) a)
          ∙ come_same t.pad (comes_right (source_streams (length heads) whole.made) (all_streams heads) w.made t.pad t.from) (ap (λ (q : Passed). q.what.source) a ∙ e)
      | inr f ↦ absurd (subst IsPad (ap (λ (q : Passed). q.what.source) f.is ∙ e) tt)
    ]

  abbrev Fit : ℕ → PlanNode → Type 0
  Fit k d = FitsStart heads whole.made (nodes_of whole) (edges_of (wires_of whole)) k d

  module _ (k r : ℕ) (s : Stream) (place_ : k ≡ before_decs whole + r) (at : slice_get (used whole) r ≡ Some s) where
    there : IsAmong s (streams whole)
    there = (was_among (is_shown whole) s (streams whole) (among_at s (used whole) r at)).0

    pads_same : (y : Laid) → IsAmong y whole.graphs → (i : InPad) → IsAmong i y.ins → i.source ≡ origin.Stream s.at → i.head ≡ s.head
    pads_same y iy i ii = come_same s there i (in_comes rules are job heads l w come all_in some_outputs y iy i ii)

    streams_same : (p : Placed) → IsAmong p (placed whole) → p.what.source ≡ origin.Stream s.at → p.what.head ≡ s.head
    streams_same p ip = by_rows rules are job heads l w come all_in some_outputs (λ (o : OutStream). o.source ≡ origin.Stream s.at → o.head ≡ s.head) (passed_same s there) p ip

    start_fit : (b : Bool) → nat_lt s.at.input (length heads) ≡ b → Fit k (cond b (node.Dec s.at) (node.Gen s.at.input))
    start_fit true e = dec_fits whole laid_whole k r s at place_ pads_same streams_same (let lt : s.at.input < length heads = grind (arith, nat_tests, e) in lt)
    start_fit false e =
        let high : length heads ≤ s.at.input = grind (arith, nat_tests, e) in
        gen_fits whole laid_whole k r s at place_ pads_same streams_same high (wanted_once rules are job heads l w come all_in some_outputs s high)

  at_fit : (k : ℕ) (d : PlanNode) → IsAt whole k d → Fit k d
  at_fit k d (In_demuxes i r e place_ at) = subst (Fit k) e (subst (λ (j : ℕ). Fit j (node.Demux i)) (sym place_) (cutter_fits whole laid_whole r i at))
  at_fit k d (In_starts s r e place_ at) = subst (Fit k) e (start_fit k r s place_ at (nat_lt s.at.input (length heads)) refl)
  at_fit k d (In_graphs x r e place_ at) = subst (Fit k) e tt
  at_fit k d (In_shortests o r e place_ at) = subst (Fit k) e tt
  at_fit k d (In_encs p r e place_ at) = subst (Fit k) e tt
  at_fit k d (In_muxes o r e place_ at) = subst (Fit k) e tt

  whole_starts : StartsFit heads (plan_of whole)
  whole_starts = λ k d e. at_fit k d (is_at whole k d e)

pub starts_fit : (rules : Rules) (are : AreRules rules) (job : Job) (heads : List (List StreamHead)) (p : Plan) → ComeInOrder (feeds job.graphs) (length job.graphs) [] (graph_order job.graphs)
    → (HasNoLoop (feeds job.graphs) (length job.graphs) → (g : ℕ) → g < length job.graphs → is_in (graph_order job.graphs) g ≡ true)
    → 1 ≤ length job.outputs → planned rules job heads ≡ Ok p → StartsFit heads p
starts_fit rules are job heads p come all_in some h =
    let at = behind_ok (laid_out rules job heads) (λ l. Ok (plan_of l)) p h in
    let w = walked rules job heads at.0 come at.1 in
    subst (λ (q : Plan). StartsFit heads q) (ap (λ (l : Layout). plan_of l) w.is ∙ same_ok (plan_of at.0) p at.2) (whole_starts rules are job heads at.0 w come all_in some)
