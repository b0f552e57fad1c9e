-- What stands at the ports of the nodes of outputs.
use Rattle.std.proofs.Common.{◌≡◌, inl, inr, ℕ, zero, suc, ◌+◌, ◌<◌, ◌≤◌, ◌==◌, Bool, true, false, cond, List, [], ◌∷◌, ◌++◌, map, length, Some, refl, sym, ap, ◌∙◌, subst, arith}
use Rattle.std.proofs.lemmas.List.{append-nil, map-append}
use Rattle.std.proofs.lemmas.List.Elements.{filter-append}
use Rattle.std.specs.Prelude.{nat_lt, slice_get, slice_index_or, Ok}
use Rattle.std.specs.List.{AllByRecursion, filter, flat_map}
use Rattle.std.proofs.lemmas.Bool.Decides.{nat_tests}
use Rattle.ff_stream.specs.edges.Ports.{lanes_into, lanes_out_of}
use Rattle.ff_stream.specs.declared.item.Lane.{Lane}
use Rattle.ff_stream.specs.declared.item.Lane.TheVariants.{Frames, Packets}
use Rattle.ff_graph_links.specs.labels.Order.{ComeInOrder, graph_order, feeds}
use Rattle.ff_words.specs.declared.maps.streams.Stream.{Stream}
use Rattle.ff_frame.specs.declared.head.StreamHead.{StreamHead}
use Rattle.ff_words.specs.declared.job.Job.{Job}
use Rattle.ff_words.specs.declared.job.OutputJob.{OutputJob}
use Rattle.ff_plan_layout.specs.declared.layout.InPad.{InPad}
use Rattle.ff_plan_layout.specs.declared.layout.OutStream.{OutStream}
use Rattle.ff_plan_layout.specs.declared.layout.Placed.{Placed}
use Rattle.ff_plan.specs.declared.planned.Plan.{Plan}
use Rattle.ff_plan.specs.declared.planned.PlanNode.{PlanNode}
use Rattle.ff_plan.specs.declared.planned.PlanNode.TheVariants as node
use Rattle.ff_plan.specs.laws.EndFits.{FitsEnd, EndsFit}
use Rattle.ff_plan_layout.specs.Labels.{taken_labels}
use Rattle.ff_plan_layout.specs.declared.layout.Laid.{Laid}
use Rattle.ff_plan_layout.specs.Layout.{IsLaid, IsAmong, Layout, place_row, place_from, placed, used, used_inputs, read}
use Rattle.ff_plan.specs.Nodes.{start_node, before_decs, before_graphs, before_shortests, before_encs, before_muxes, output_numbers, nodes_of, demux_wire, pad_wire, pad_wires, shortest_wire, enc_wire, mux_wire, wires_of, plan_of}
use Rattle.ff_plan_layout.specs.Order.{numbers}
use Rattle.ff_plan_layout.specs.Pads.{unlabelled}
use Rattle.ff_plan_layout.specs.LaidOut.{labels_of, graphs_of, layout_of, laid_out}
use Rattle.ff_plan.specs.Planned.{planned}
use Rattle.ff_plan_layout.specs.Rules.{Rules}
use Rattle.ff_plan_layout.specs.declared.layout.Passed.{Passed}
use Rattle.ff_plan_layout.specs.Streams.{Inside, graph_of, packed_as}
use Rattle.ff_plan.specs.Wires.{Wire, enters_node, leaves_node, edges_of}
use Rattle.ff_plan.proofs.Rising.{number_at}
use Rattle.ff_plan_layout.proofs.Among.{never}
use Rattle.ff_plan_layout.proofs.Graphed.{Walked, walked, walked_laid, inside_of}
use Rattle.ff_plan.proofs.GraphFits.{get_either, get_left, get_map, get_right}
use Rattle.ff_plan.proofs.GraphLanes.{lanes_joined, lanes_none}
use Rattle.ff_plan_layout.proofs.Kept.{nothing, same_some, at_map, below_at, one_kept}
use Rattle.ff_plan.proofs.Lanes.{wire_lanes, into_is, out_is}
use Rattle.ff_plan.proofs.Layouts.{demux_below, read_below, number_in, output_in, graph_below, stream_below, pad_up, wires_next}
use Rattle.ff_plan_layout.proofs.Sizes.{map_length, range_length, row_length}
use Rattle.ff_plan_layout.proofs.Outs.{IsPassed, AllPassed, AreOutputs}
use Rattle.ff_plan_layout.proofs.Results.{same_ok, behind_ok}
use Rattle.ff_plan_layout.proofs.Tests.{same_test, other_test}

-- ---- the streams of one output among all

module _ {B : Type 0} (f : OutStream → B) (o : ℕ) where
  abbrev own : Placed → Bool
  own p = p.output == o

  own_row : (n k : ℕ) (ss : List OutStream) → map (λ (p : Placed). f p.what) (filter own (place_row n o k ss)) ≡ map f ss
  own_row n k [] = refl
  own_row n k (s ∷ ss) =
      let rest = place_row (n + 1) o (k + 1) ss in
      let first : Placed = record { number = n; output = o; stream = k; what = s } in
      ap (λ (b : Bool). map (λ (p : Placed). f p.what) (cond b (first ∷ filter own rest) (filter own rest))) (same_test o o refl) ∙ ap (λ (ys : List B). f s ∷ ys) (own_row (n + 1) (k + 1) ss)

  other_row : (n a k : ℕ) (ss : List OutStream) → (a == o) ≡ false → filter own (place_row n a k ss) ≡ []
  other_row n a k [] e = refl
  other_row n a k (s ∷ ss) e =
      let rest = place_row (n + 1) a (k + 1) ss in
      let first : Placed = record { number = n; output = a; stream = k; what = s } in
      ap (λ (b : Bool). cond b (first ∷ filter own rest) (filter own rest)) e ∙ other_row (n + 1) a (k + 1) ss e

  later_rows : (n a : ℕ) (rows : List (List OutStream)) → o < a → filter own (place_from n a rows) ≡ []
  later_rows n a [] lt = refl
  later_rows n a (row ∷ rows) lt =
      filter-append own (place_row n a 0 row) (place_from (n + length row) (a + 1) rows)
      ∙ (ap (λ (ps : List Placed). ps ++ filter own (place_from (n + length row) (a + 1) rows)) (other_row n a 0 row (let e : (a == o) ≡ false = grind (arith, nat_tests, lt) in e))
      ∙ later_rows (n + length row) (a + 1) rows (omega (arith, lt)))

  pub own_rows : (n a i : ℕ) (rows : List (List OutStream)) → o ≡ a + i → map (λ (p : Placed). f p.what) (filter own (place_from n a rows)) ≡ map f (slice_index_or rows i [])
  own_rows n a i [] e = refl
  own_rows n a zero (row ∷ rows) e =
      let at : a ≡ o = omega (arith, e) in
      ap (λ (ps : List Placed). map (λ (p : Placed). f p.what) ps) (filter-append own (place_row n a 0 row) (place_from (n + length row) (a + 1) rows))
      ∙ (map-append (λ (p : Placed). f p.what) (filter own (place_row n a 0 row)) (filter own (place_from (n + length row) (a + 1) rows))
      ∙ (ap (λ (ps : List Placed). map (λ (p : Placed). f p.what) (filter own (place_row n a 0 row)) ++ map (λ (p : Placed). f p.what) ps) (later_rows (n + length row) (a + 1) rows (omega (arith, e)))
      ∙ (append-nil (map (λ (p : Placed). f p.what) (filter own (place_row n a 0 row)))
      ∙ (ap (λ (b : ℕ). map (λ (p : Placed). f p.what) (filter own (place_row n b 0 row))) at ∙ own_row n 0 row))))
  own_rows n a (suc i) (row ∷ rows) e =
      ap (λ (ps : List Placed). map (λ (p : Placed). f p.what) ps) (filter-append own (place_row n a 0 row) (place_from (n + length row) (a + 1) rows)
      ∙ ap (λ (ps : List Placed). ps ++ filter own (place_from (n + length row) (a + 1) rows)) (other_row n a 0 row (let lt : a < o = omega (arith, e) in let t : (a == o) ≡ false = grind (arith, nat_tests, lt) in t)))
      ∙ own_rows (n + length row) (a + 1) i rows (omega (arith, e))

-- ---- the stream at a place

row_place : (n a k : ℕ) (ss : List OutStream) (i : ℕ) (p : Placed) → slice_get (place_row n a k ss) i ≡ Some p
    → (p.number ≡ n + i) × (p.output ≡ a) × (p.stream ≡ k + i) × (slice_get ss i ≡ Some p.what)
row_place n a k [] i p e = absurd (nothing p e)
row_place n a k (s ∷ ss) zero p e =
    let same = same_some (record { number = n; output = a; stream = k; what = s }) p e in
    let number = ap (λ (q : Placed). q.number) same in let stream = ap (λ (q : Placed). q.stream) same in
    (omega (arith, number), sym (ap (λ (q : Placed). q.output) same), omega (arith, stream), ap (λ (q : Placed). Some q.what) same)
row_place n a k (s ∷ ss) (suc i) p e =
    (let r = row_place (n + 1) a (k + 1) ss i p e in let number = r.0 in let stream = r.2 in (omega (arith, number), r.1, omega (arith, stream), r.3))

stream_place : (n a : ℕ) (rows : List (List OutStream)) (i : ℕ) (p : Placed) → slice_get (place_from n a rows) i ≡ Some p
    → (p.number ≡ n + i) × ((t : ℕ) × (p.output ≡ a + t) × (t < length rows) × (slice_get (slice_index_or rows t []) p.stream ≡ Some p.what))
stream_place n a [] i p e = absurd (nothing p e)
stream_place n a (row ∷ rows) i p e =
    let long = row_length n a 0 row in
    elim (get_either (place_row n a 0 row) (place_from (n + length row) (a + 1) rows) i p e) [
      | inl x ↦ (let r = row_place n a 0 row i p x in let out = r.1 in let stream = r.2 in
          (r.0, (0, omega (arith, out), omega arith, ap (λ (k : ℕ). slice_get row k) (let z : p.stream ≡ i = omega (arith, stream) in z) ∙ r.3)))
      | inr y ↦ (let r = stream_place (n + length row) (a + 1) rows y.0 p y.2 in let place_ = y.1 in let number = r.0 in let out = r.1.1 in let lt = r.1.2 in
          (omega (arith, number, place_, long), (suc r.1.0, omega (arith, out), omega (arith, lt), r.1.3)))
    ]

-- ---- wires of the nodes of outputs

pub lanes_some : {A : Type 0} (q : Wire → Bool) (f : A → Wire) (r : A → Bool) (xs : List A) → ((x : A) → q (f x) ≡ r x) → wire_lanes q (map f xs) ≡ map (λ (x : A). (f x).lane) (filter r xs)
lanes_some q f r [] each = refl
lanes_some {A} q f r (x ∷ xs) each =
    ap (λ (b : Bool). map (λ (w : Wire). w.lane) (cond b (f x ∷ filter q (map f xs)) (filter q (map f xs)))) (each x) ∙ step (r x) (lanes_some q f r xs each) where
      step : (b : Bool) → wire_lanes q (map f xs) ≡ map (λ (y : A). (f y).lane) (filter r xs)
          → map (λ (w : Wire). w.lane) (cond b (f x ∷ filter q (map f xs)) (filter q (map f xs))) ≡ map (λ (y : A). (f y).lane) (cond b (x ∷ filter r xs) (filter r xs))
      step true e = ap (λ (ls : List Lane). (f x).lane ∷ ls) e
      step false e = e

shift_test : (a b k : ℕ) → ((k + a) == (k + b)) ≡ (a == b)
shift_test a b k = step (a == b) refl where
  step : (t : Bool) → (a == b) ≡ t → ((k + a) == (k + b)) ≡ t
  step true e = (let z : ((k + a) == (k + b)) ≡ true = grind (arith, nat_tests, e) in z)
  step false e = (let z : ((k + a) == (k + b)) ≡ false = grind (arith, nat_tests, e) in z)

module _ (l : Layout) (laid : IsLaid l) where
  abbrev ps : List Placed
  ps = placed l

  -- of all wires, by their five rows
  pub five : (q : Wire → Bool) (a b c d e : List Lane) → wire_lanes q (map (demux_wire l) (read l)) ≡ a → wire_lanes q (flat_map (pad_wires l) l.graphs) ≡ b
      → wire_lanes q (map (shortest_wire l) ps) ≡ c → wire_lanes q (map (enc_wire l) ps) ≡ d → wire_lanes q (map (mux_wire l) ps) ≡ e
      → wire_lanes q (wires_of l) ≡ a ++ (b ++ (c ++ (d ++ e)))
  five q a b c d e ea eb ec ed ee =
      let demuxes = map (demux_wire l) (read l) in let pads = flat_map (pad_wires l) l.graphs in let shorts = map (shortest_wire l) ps in
      let encs = map (enc_wire l) ps in let muxes = map (mux_wire l) ps in
      lanes_joined q demuxes (pads ++ (shorts ++ (encs ++ muxes)))
      ∙ (ap (λ (ls : List Lane). ls ++ wire_lanes q (pads ++ (shorts ++ (encs ++ muxes)))) ea
      ∙ ap (λ (ls : List Lane). a ++ ls) (lanes_joined q pads (shorts ++ (encs ++ muxes))
      ∙ (ap (λ (ls : List Lane). ls ++ wire_lanes q (shorts ++ (encs ++ muxes))) eb
      ∙ ap (λ (ls : List Lane). b ++ ls) (lanes_joined q shorts (encs ++ muxes)
      ∙ (ap (λ (ls : List Lane). ls ++ wire_lanes q (encs ++ muxes)) ec
      ∙ ap (λ (ls : List Lane). c ++ ls) (lanes_joined q encs muxes
      ∙ (ap (λ (ls : List Lane). ls ++ wire_lanes q muxes) ed ∙ ap (λ (ls : List Lane). d ++ ls) ee)))))))

  module _ (k : ℕ) (high : before_shortests l ≤ k) where
    demuxes_in : wire_lanes (enters_node k) (map (demux_wire l) (read l)) ≡ []
    demuxes_in = lanes_none (enters_node k) (demux_wire l) (read l) (λ s i. other_test (demux_wire l s).to k (λ e. (let lt = read_below l s i in omega (arith, e, lt, high))))

    demuxes_out : wire_lanes (leaves_node k) (map (demux_wire l) (read l)) ≡ []
    demuxes_out = lanes_none (leaves_node k) (demux_wire l) (read l) (λ s i. other_test (demux_wire l s).from k (λ e. (let lt = demux_below l s i in omega (arith, e, lt, high))))

    pads_none : (q : Wire → Bool) (gs : List Laid) → ((y : Laid) → IsAmong y gs → (i : InPad) → IsAmong i y.ins → q (pad_wire l y.graph i) ≡ false) → wire_lanes q (flat_map (pad_wires l) gs) ≡ []
    pads_none q [] each = refl
    pads_none q (y ∷ gs) each =
        lanes_joined q (pad_wires l y) (flat_map (pad_wires l) gs)
        ∙ (ap (λ (ls : List Lane). ls ++ wire_lanes q (flat_map (pad_wires l) gs)) (lanes_none q (pad_wire l y.graph) y.ins (each y (inl refl))) ∙ pads_none q gs (λ z i. each z (inr i)))

    pads_in : wire_lanes (enters_node k) (flat_map (pad_wires l) l.graphs) ≡ []
    pads_in = pads_none (enters_node k) l.graphs (λ y iy i ii. other_test (pad_wire l y.graph i).to k (λ e. (let lt = graph_below l laid y iy in omega (arith, e, lt, high))))

    pads_out : wire_lanes (leaves_node k) (flat_map (pad_wires l) l.graphs) ≡ []
    pads_out = pads_none (leaves_node k) l.graphs (λ y iy i ii. other_test (pad_wire l y.graph i).from k
        (λ e. (let up = pad_up l laid y iy i ii in let below = up.0 in let lt = graph_below l laid y iy in omega (arith, e, below, lt, high))))

    shorts_out : wire_lanes (leaves_node k) (map (shortest_wire l) ps) ≡ []
    shorts_out = lanes_none (leaves_node k) (shortest_wire l) ps (λ p i. other_test (shortest_wire l p).from k (λ e. (let lt = stream_below l laid p i in omega (arith, e, lt, high))))

    out_lanes : (ls : List Lane) → wire_lanes (leaves_node k) (wires_of l) ≡ ls → lanes_out_of (edges_of (wires_of l)) k ≡ ls
    out_lanes ls e = out_is k (wires_of l) (wires_next l laid k (inr high)) ∙ e

  shorts_in_high : (k : ℕ) → before_encs l ≤ k → wire_lanes (enters_node k) (map (shortest_wire l) ps) ≡ []
  shorts_in_high k le = lanes_none (enters_node k) (shortest_wire l) ps (λ p i. other_test (shortest_wire l p).to k
      (λ f. (let lt = output_in l p i in omega (arith, f, lt, le))))

  encs_out_high : (k : ℕ) → before_encs l ≤ k → wire_lanes (leaves_node k) (map (enc_wire l) ps) ≡ []
  encs_out_high k le = lanes_none (leaves_node k) (enc_wire l) ps (λ p i. other_test (enc_wire l p).from k
      (λ f. (let lt = output_in l p i in omega (arith, f, lt, le))))

  -- ---- a Shortest node

  module _ (o : ℕ) (lt : o < length l.outputs) where
    abbrev k : ℕ
    k = before_shortests l + o

    below_encs : k < before_encs l
    below_encs = omega (arith, lt)

    own_in : wire_lanes (enters_node k) (map (shortest_wire l) ps) ≡ map (λ (s : OutStream). Frames s.head) (slice_index_or l.outputs o [])
    own_in =
        lanes_some (enters_node k) (shortest_wire l) (λ p. p.output == o) ps (λ p. shift_test p.output o (before_shortests l))
        ∙ own_rows (λ (s : OutStream). Frames s.head) o 0 0 o l.outputs (omega arith)

    own_out : wire_lanes (leaves_node k) (map (enc_wire l) ps) ≡ map (λ (s : OutStream). Frames s.head) (slice_index_or l.outputs o [])
    own_out =
        lanes_some (leaves_node k) (enc_wire l) (λ p. p.output == o) ps (λ p. shift_test p.output o (before_shortests l))
        ∙ own_rows (λ (s : OutStream). Frames s.head) o 0 0 o l.outputs (omega arith)

    encs_in : wire_lanes (enters_node k) (map (enc_wire l) ps) ≡ []
    encs_in = lanes_none (enters_node k) (enc_wire l) ps (λ p i. other_test (enc_wire l p).to k (λ e. (let b = below_encs in omega (arith, e, b))))

    muxes_in : wire_lanes (enters_node k) (map (mux_wire l) ps) ≡ []
    muxes_in = lanes_none (enters_node k) (mux_wire l) ps (λ p i. other_test (mux_wire l p).to k (λ e. (let b = below_encs in omega (arith, e, b))))

    muxes_out : wire_lanes (leaves_node k) (map (mux_wire l) ps) ≡ []
    muxes_out = lanes_none (leaves_node k) (mux_wire l) ps (λ p i. other_test (mux_wire l p).from k (λ e. (let b = below_encs in omega (arith, e, b))))

    shortest_ins : lanes_into (edges_of (wires_of l)) k ≡ map (λ (s : OutStream). Frames s.head) (slice_index_or l.outputs o [])
    shortest_ins =
        let own = map (λ (s : OutStream). Frames s.head) (slice_index_or l.outputs o []) in
        into_is k (wires_of l)
        ∙ (five (enters_node k) [] [] own [] [] (demuxes_in k (omega arith)) (pads_in k (omega arith)) own_in encs_in muxes_in ∙ append-nil own)

    shortest_outs : lanes_out_of (edges_of (wires_of l)) k ≡ map (λ (s : OutStream). Frames s.head) (slice_index_or l.outputs o [])
    shortest_outs =
        let own = map (λ (s : OutStream). Frames s.head) (slice_index_or l.outputs o []) in
        out_lanes k (omega arith) own
        (five (leaves_node k) [] [] [] own [] (demuxes_out k (omega arith)) (pads_out k (omega arith)) (shorts_out k (omega arith)) own_out muxes_out ∙ append-nil own)

  -- ---- an Enc node

  module _ (i : ℕ) (p : Placed) (at : slice_get ps i ≡ Some p) where
    abbrev e_node : ℕ
    e_node = before_encs l + i

    number_is : (j : ℕ) (q : Placed) → slice_get ps j ≡ Some q → q.number ≡ j
    number_is j q f = (let r = (stream_place 0 0 l.outputs j q f).0 in omega (arith, r))

    one_there : filter (λ (q : Placed). q.number == i) ps ≡ p ∷ []
    one_there = one_kept (λ (q : Placed). q.number == i) ps i p at (same_test p.number i (number_is i p at)) (λ j q f other. other_test q.number i (λ e. other (sym (number_is j q f) ∙ e)))

    below_muxes : e_node < before_muxes l
    below_muxes = (let lt = below_at p ps i at in omega (arith, lt))

    enc_in : wire_lanes (enters_node e_node) (map (enc_wire l) ps) ≡ Frames p.what.head ∷ []
    enc_in =
        lanes_some (enters_node e_node) (enc_wire l) (λ q. q.number == i) ps (λ q. shift_test q.number i (before_encs l)) ∙ ap (λ (qs : List Placed). map (λ (q : Placed). Frames q.what.head) qs) one_there

    enc_out : wire_lanes (leaves_node e_node) (map (mux_wire l) ps) ≡ Packets p.what.packed ∷ []
    enc_out = lanes_some (leaves_node e_node) (mux_wire l) (λ q. q.number == i) ps (λ q. shift_test q.number i (before_encs l)) ∙ ap (λ (qs : List Placed). map (λ (q : Placed). Packets q.what.packed) qs) one_there

    enc_muxes_in : wire_lanes (enters_node e_node) (map (mux_wire l) ps) ≡ []
    enc_muxes_in = lanes_none (enters_node e_node) (mux_wire l) ps (λ q j. other_test (mux_wire l q).to e_node (λ e. (let b = below_muxes in omega (arith, e, b))))

    enc_ins : lanes_into (edges_of (wires_of l)) e_node ≡ Frames p.what.head ∷ []
    enc_ins = into_is e_node (wires_of l)
        ∙ five (enters_node e_node) [] [] [] (Frames p.what.head ∷ []) [] (demuxes_in e_node (omega arith)) (pads_in e_node (omega arith)) (shorts_in_high e_node (omega arith)) enc_in enc_muxes_in

    enc_outs : lanes_out_of (edges_of (wires_of l)) e_node ≡ Packets p.what.packed ∷ []
    enc_outs = out_lanes e_node (omega arith) (Packets p.what.packed ∷ [])
        (five (leaves_node e_node) [] [] [] [] (Packets p.what.packed ∷ []) (demuxes_out e_node (omega arith)) (pads_out e_node (omega arith)) (shorts_out e_node (omega arith))
        (encs_out_high e_node (omega arith)) enc_out)

  -- ---- a Mux node

  module _ (o : ℕ) where
    abbrev m_node : ℕ
    m_node = before_muxes l + o

    mux_in : wire_lanes (enters_node m_node) (map (mux_wire l) ps) ≡ map (λ (s : OutStream). Packets s.packed) (slice_index_or l.outputs o [])
    mux_in =
        lanes_some (enters_node m_node) (mux_wire l) (λ p. p.output == o) ps (λ p. shift_test p.output o (before_muxes l))
        ∙ own_rows (λ (s : OutStream). Packets s.packed) o 0 0 o l.outputs (omega arith)

    mux_encs_in : wire_lanes (enters_node m_node) (map (enc_wire l) ps) ≡ []
    mux_encs_in = lanes_none (enters_node m_node) (enc_wire l) ps (λ p i. other_test (enc_wire l p).to m_node (λ e. (let lt = number_in l p i in omega (arith, e, lt))))

    mux_out : wire_lanes (leaves_node m_node) (map (mux_wire l) ps) ≡ []
    mux_out = lanes_none (leaves_node m_node) (mux_wire l) ps (λ p i. other_test (mux_wire l p).from m_node (λ e. (let lt = number_in l p i in omega (arith, e, lt))))

    mux_ins : lanes_into (edges_of (wires_of l)) m_node ≡ map (λ (s : OutStream). Packets s.packed) (slice_index_or l.outputs o [])
    mux_ins = into_is m_node (wires_of l)
        ∙ five (enters_node m_node) [] [] [] [] (map (λ (s : OutStream). Packets s.packed) (slice_index_or l.outputs o [])) (demuxes_in m_node (omega arith)) (pads_in m_node (omega arith))
        (shorts_in_high m_node (omega arith)) mux_encs_in mux_in

    mux_outs : lanes_out_of (edges_of (wires_of l)) m_node ≡ []
    mux_outs = out_lanes m_node (omega arith) []
        (five (leaves_node m_node) [] [] [] [] [] (demuxes_out m_node (omega arith)) (pads_out m_node (omega arith)) (shorts_out m_node (omega arith)) (encs_out_high m_node (omega arith)) mux_out)

-- ---- packets are those of frames

module _ (rules : Rules) where
  -- each stream's packets have the head that its output makes of its frames
  abbrev IsPacked : OutputJob → Passed → Type 0
  IsPacked out p = p.what.packed ≡ packed_as out p.what.head

  one_packed : (out : OutputJob) (g : ℕ) (i : InPad) (p : Passed) → IsPassed rules out g i p → IsPacked out p
  one_packed out g i p (inl e) = subst (λ (q : Passed). IsPacked out q) e refl
  one_packed out g i p (inr f) = subst (λ (q : Passed). IsPacked out q) f.is refl

  row_packed : (out : OutputJob) (g : ℕ) (is : List InPad) (qs : List Passed) → AllPassed rules out g is qs → AllByRecursion (IsPacked out) qs
  row_packed out g [] [] s = tt
  row_packed out g [] (p ∷ qs) s = absurd s
  row_packed out g (i ∷ is) [] s = absurd s
  row_packed out g (i ∷ is) (p ∷ qs) s = (one_packed out g i p s.0, row_packed out (g + length (graph_of p)) is qs s.1)

  -- the output and the streams at a place
  rows_packed : (inside : Inside) (g : ℕ) (before_used : List (List ℕ)) (before : List InPad) (outs : List OutputJob) (rows : List (List Passed)) → AreOutputs rules inside g before_used before outs rows
      → (o : ℕ) → o < length rows → (out : OutputJob) × (slice_get outs o ≡ Some out) × AllByRecursion (IsPacked out) (slice_index_or rows o [])
  rows_packed inside g taken before [] [] s o lt = absurd (omega (arith, lt))
  rows_packed inside g taken before [] (qs ∷ rows) s o lt = absurd s
  rows_packed inside g taken before (out ∷ outs) [] s o lt = absurd s
  rows_packed inside g taken before (out ∷ outs) (qs ∷ rows) s zero lt = (out, refl, row_packed out g s.0 qs s.2)
  rows_packed inside g taken before (out ∷ outs) (qs ∷ rows) s (suc o) lt = rows_packed inside (g + graphs_of qs) (labels_of out ++ taken) [] outs rows s.3 o (omega (arith, lt))

  pub rows_count : (inside : Inside) (g : ℕ) (taken : List (List ℕ)) (before : List InPad) (outs : List OutputJob) (rows : List (List Passed)) → AreOutputs rules inside g taken before outs rows → length rows ≡ length outs
  rows_count inside g taken before [] [] s = refl
  rows_count inside g taken before [] (qs ∷ rows) s = absurd s
  rows_count inside g taken before (out ∷ outs) [] s = absurd s
  rows_count inside g taken before (out ∷ outs) (qs ∷ rows) s = ap suc (rows_count inside (g + graphs_of qs) (labels_of out ++ taken) [] outs rows s.3)

-- ---- which node stands where

pub data IsAt (l : Layout) (k : ℕ) (d : PlanNode) : Type 0 where
  In_demuxes : (i r : ℕ) → node.Demux i ≡ d → k ≡ r → slice_get (used_inputs l) r ≡ Some i → IsAt l k d
  In_starts : (s : Stream) (r : ℕ) → start_node (length l.heads) s ≡ d → k ≡ before_decs l + r → slice_get (used l) r ≡ Some s → IsAt l k d
  In_graphs : (x : Laid) (r : ℕ) → node.Graph x.graph ≡ d → k ≡ before_graphs l + r → slice_get l.graphs r ≡ Some x → IsAt l k d
  In_shortests : (o r : ℕ) → node.Shortest o ≡ d → k ≡ before_shortests l + r → slice_get (output_numbers l) r ≡ Some o → IsAt l k d
  In_encs : (p : Placed) (r : ℕ) → node.Enc p.output p.stream ≡ d → k ≡ before_encs l + r → slice_get (placed l) r ≡ Some p → IsAt l k d
  In_muxes : (o r : ℕ) → node.Mux o ≡ d → k ≡ before_muxes l + r → slice_get (output_numbers l) r ≡ Some o → IsAt l k d

pub is_at : (l : Layout) (k : ℕ) (d : PlanNode) → slice_get (nodes_of l) k ≡ Some d → IsAt l k d
is_at l k d e =
    let a = map (λ i. node.Demux i) (used_inputs l) in let b = map (start_node (length l.heads)) (used l) in let c = map (λ (x : Laid). node.Graph x.graph) l.graphs in
    let f = map (λ o. node.Shortest o) (output_numbers l) in let g = map (λ (p : Placed). node.Enc p.output p.stream) (placed l) in let h = map (λ o. node.Mux o) (output_numbers l) in
    let la = map_length (λ i. node.Demux i) (used_inputs l) in let lb = map_length (start_node (length l.heads)) (used l) in let lc = map_length (λ (x : Laid). node.Graph x.graph) l.graphs in
    let lf = map_length (λ o. node.Shortest o) (output_numbers l) in let lr = range_length 0 (length l.outputs) in let lg = map_length (λ (p : Placed). node.Enc p.output p.stream) (placed l) in
    elim (get_either a (b ++ (c ++ (f ++ (g ++ h)))) k d e) [
      | inl x ↦ (let y = at_map (λ i. node.Demux i) (used_inputs l) k d x in In_demuxes y.0 k y.2 refl y.1)
      | inr r1 ↦ elim (get_either b (c ++ (f ++ (g ++ h))) r1.0 d r1.2) [
        | inl x ↦ (let y = at_map (start_node (length l.heads)) (used l) r1.0 d x in let n1 = r1.1 in In_starts y.0 r1.0 y.2 (omega (arith, n1, la)) y.1)
        | inr r2 ↦ elim (get_either c (f ++ (g ++ h)) r2.0 d r2.2) [
          | inl x ↦ (let y = at_map (λ (x : Laid). node.Graph x.graph) l.graphs r2.0 d x in let n1 = r1.1 in let n2 = r2.1 in In_graphs y.0 r2.0 y.2 (omega (arith, n1, n2, la, lb)) y.1)
          | inr r3 ↦ elim (get_either f (g ++ h) r3.0 d r3.2) [
            | inl x ↦ (let y = at_map (λ o. node.Shortest o) (output_numbers l) r3.0 d x in let n1 = r1.1 in let n2 = r2.1 in let n3 = r3.1 in
                In_shortests y.0 r3.0 y.2 (omega (arith, n1, n2, n3, la, lb, lc)) y.1)
            | inr r4 ↦ elim (get_either g h r4.0 d r4.2) [
              | inl x ↦ (let y = at_map (λ (p : Placed). node.Enc p.output p.stream) (placed l) r4.0 d x in let n1 = r1.1 in let n2 = r2.1 in let n3 = r3.1 in let n4 = r4.1 in
                  In_encs y.0 r4.0 y.2 (omega (arith, n1, n2, n3, n4, la, lb, lc, lf, lr)) y.1)
              | inr r5 ↦ (let y = at_map (λ o. node.Mux o) (output_numbers l) r5.0 d r5.2 in let n1 = r1.1 in let n2 = r2.1 in let n3 = r3.1 in let n4 = r4.1 in let n5 = r5.1 in
                  In_muxes y.0 r5.0 y.2 (omega (arith, n1, n2, n3, n4, n5, la, lb, lc, lf, lr, lg)) y.1)
            ]
          ]
        ]
      ]
    ]

-- ---- lists by output

index_map : {A B : Type 0} (f : A → B) (xs : List (List A)) (o : ℕ) → slice_index_or (map (λ (ys : List A). map f ys) xs) o [] ≡ map f (slice_index_or xs o [])
index_map f [] o = refl
index_map f (x ∷ xs) zero = refl
index_map f (x ∷ xs) (suc o) = index_map f xs o

frames_of : (ss : List OutStream) → map (λ (s : OutStream). Frames s.head) ss ≡ map (λ (h : StreamHead). Frames h) (map (λ (s : OutStream). s.head) ss)
frames_of [] = refl
frames_of (s ∷ ss) = ap (λ (ls : List Lane). Frames s.head ∷ ls) (frames_of ss)

packets_of : (out : OutputJob) (qs : List Passed) → AllByRecursion (λ (p : Passed). p.what.packed ≡ packed_as out p.what.head) qs
    → map (λ (s : OutStream). Packets s.packed) (map (λ (p : Passed). p.what) qs) ≡ map (λ (h : StreamHead). Packets (packed_as out h)) (map (λ (s : OutStream). s.head) (map (λ (p : Passed). p.what) qs))
packets_of out [] all = refl
packets_of out (p ∷ qs) all =
    ap (λ (h : StreamHead). Packets h ∷ map (λ (s : OutStream). Packets s.packed) (map (λ (q : Passed). q.what) qs)) all.0
    ∙ ap (λ (ls : List Lane). Packets (packed_as out p.what.head) ∷ ls) (packets_of out qs all.1)

packed_at : (out : OutputJob) (qs : List Passed) (j : ℕ) (s : OutStream) → AllByRecursion (λ (p : Passed). p.what.packed ≡ packed_as out p.what.head) qs
    → slice_get (map (λ (p : Passed). p.what) qs) j ≡ Some s → s.packed ≡ packed_as out s.head
packed_at out [] j s all e = absurd (nothing s e)
packed_at out (p ∷ qs) zero s all e = subst (λ (x : OutStream). x.packed ≡ packed_as out x.head) (same_some p.what s e) all.0
packed_at out (p ∷ qs) (suc j) s all e = packed_at out qs j s all.1 e

-- the place of stream j of output o among all
spot_in_row : (n o s : ℕ) (ss : List OutStream) (j : ℕ) → j < length ss
    → (r : ℕ) × (p : Placed) × (slice_get (place_row n o s ss) r ≡ Some p) × (p.output ≡ o) × (p.stream ≡ s + j)
spot_in_row n o s [] j lt = absurd (omega (arith, lt))
spot_in_row n o s (x ∷ xs) zero lt = (0, record { number = n; output = o; stream = s; what = x }, refl, refl, omega arith)
spot_in_row n o s (x ∷ xs) (suc j) lt = (let r = spot_in_row (n + 1) o (s + 1) xs j (omega (arith, lt)) in let e = r.4 in (suc r.0, r.1, r.2, r.3, omega (arith, e)))

spot_of : (n o : ℕ) (rows : List (List OutStream)) (i j : ℕ) → j < length (slice_index_or rows i [])
    → (r : ℕ) × (p : Placed) × (slice_get (place_from n o rows) r ≡ Some p) × (p.output ≡ o + i) × (p.stream ≡ j)
spot_of n o [] i j lt = absurd (omega (arith, lt))
spot_of n o (row ∷ rows) zero j lt =
    let r = spot_in_row n o 0 row j lt in let out = r.3 in let e = r.4 in
    (r.0, r.1, get_left (place_row n o 0 row) (place_from (n + length row) (o + 1) rows) r.0 r.1 r.2, omega (arith, out), omega (arith, e))
spot_of n o (row ∷ rows) (suc i) j lt =
    let r = spot_of (n + length row) (o + 1) rows i j lt in let out = r.3 in
    let first = place_row n o 0 row in
    (length first + r.0, r.1, get_right first (place_from (n + length row) (o + 1) rows) (length first + r.0) r.0 refl ∙ r.2, omega (arith, out), r.4)

-- and the Enc node there
pub enc_there : (l : Layout) (r : ℕ) (p : Placed) → slice_get (placed l) r ≡ Some p → (e : ℕ) × (slice_get (nodes_of l) e ≡ Some (node.Enc p.output p.stream))
enc_there l r p at =
    let a = map (λ i. node.Demux i) (used_inputs l) in let b = map (start_node (length l.heads)) (used l) in let c = map (λ (x : Laid). node.Graph x.graph) l.graphs in
    let f = map (λ o. node.Shortest o) (output_numbers l) in let g = map (λ (p : Placed). node.Enc p.output p.stream) (placed l) in let h = map (λ o. node.Mux o) (output_numbers l) in
    let last = get_left g h r (node.Enc p.output p.stream) (get_map (λ (p : Placed). node.Enc p.output p.stream) (placed l) r p at) in
    let e1 = length f + r in let e2 = length c + e1 in let e3 = length b + e2 in let e4 = length a + e3 in (
      e4,
      get_right a (b ++ (c ++ (f ++ (g ++ h)))) e4 e3 refl ∙ (get_right b (c ++ (f ++ (g ++ h))) e3 e2 refl
          ∙ (get_right c (f ++ (g ++ h)) e2 e1 refl ∙ (get_right f (g ++ h) e1 r refl ∙ last))),
    )

pub stream_coded : (l : Layout) (o j : ℕ) → j < length (slice_index_or (map (λ (row : List OutStream). map (λ (s : OutStream). s.head) row) l.outputs) o [])
    → (e : ℕ) × (slice_get (nodes_of l) e ≡ Some (node.Enc o j))
stream_coded l o j lt =
    let same = index_map (λ (s : OutStream). s.head) l.outputs o in
    let long = ap (λ (hs : List StreamHead). length hs) same ∙ map_length (λ (s : OutStream). s.head) (slice_index_or l.outputs o []) in
    let r = spot_of 0 0 l.outputs o j (omega (arith, lt, long)) in
    let out = r.3 in let is : r.1.output ≡ o = omega (arith, out) in
    let e = enc_there l r.0 r.1 r.2 in
    (e.0, e.1 ∙ (ap (λ (x : ℕ). Some (node.Enc x r.1.stream)) is ∙ ap (λ (x : ℕ). Some (node.Enc o x)) r.4))

module _ (rules : Rules) (job : Job) (heads : List (List StreamHead)) (l : Layout) (come : ComeInOrder (feeds job.graphs) (length job.graphs) [] (graph_order job.graphs))
    (w : Walked rules job heads l) where
  abbrev whole : Layout
  whole = layout_of rules job heads w.made w.rows

  laid_whole : IsLaid whole
  laid_whole = subst IsLaid (sym w.is) (walked_laid rules job heads l come w)

  abbrev by_output : List (List StreamHead)
  by_output = map (λ (row : List OutStream). map (λ (s : OutStream). s.head) row) whole.outputs

  abbrev row : ℕ → List OutStream
  row o = slice_index_or whole.outputs o []

  abbrev passed_row : ℕ → List Passed
  passed_row o = slice_index_or w.rows o []

  row_is : (o : ℕ) → row o ≡ map (λ (p : Passed). p.what) (passed_row o)
  row_is o = index_map (λ (p : Passed). p.what) w.rows o

  heads_are : (o : ℕ) → slice_index_or by_output o [] ≡ map (λ (s : OutStream). s.head) (row o)
  heads_are o = index_map (λ (s : OutStream). s.head) whole.outputs o

  made_by : (o : ℕ) → o < length whole.outputs → (out : OutputJob) × (slice_get job.outputs o ≡ Some out) × AllByRecursion (λ (p : Passed). p.what.packed ≡ packed_as out p.what.head) (passed_row o)
  made_by o lt =
      let long = map_length (λ (ps : List Passed). map (λ (p : Passed). p.what) ps) w.rows in
      rows_packed rules (inside_of heads job w.made) (length job.graphs) (taken_labels job.graphs) (unlabelled w.made (numbers job.graphs)) job.outputs w.rows w.outputs o (omega (arith, lt, long))

  abbrev Fit : ℕ → PlanNode → Type 0
  Fit k d = FitsEnd job.outputs by_output (edges_of (wires_of whole)) k d

  shortest_fit : (k o r : ℕ) → k ≡ before_shortests whole + r → slice_get (output_numbers whole) r ≡ Some o → Fit k (node.Shortest o)
  shortest_fit k o r place_ at =
      let number = number_at 0 (length whole.outputs) r o at in
      let long = range_length 0 (length whole.outputs) in let below = below_at o (output_numbers whole) r at in
      let lt : o < length whole.outputs = omega (arith, number, long, below) in
      let same : before_shortests whole + o ≡ k = omega (arith, place_, number) in
      let lanes = frames_of (row o) ∙ ap (λ (hs : List StreamHead). map (λ (h : StreamHead). Frames h) hs) (sym (heads_are o)) in
      subst (λ (i : ℕ). Fit i (node.Shortest o)) same (record { ins = shortest_ins whole laid_whole o lt ∙ lanes; outs = shortest_outs whole laid_whole o lt ∙ lanes })

  enc_fit : (k r : ℕ) (p : Placed) → k ≡ before_encs whole + r → slice_get (placed whole) r ≡ Some p → Fit k (node.Enc p.output p.stream)
  enc_fit k r p place_ at =
      let s = stream_place 0 0 whole.outputs r p at in
      let number = s.1.1 in let below = s.1.2 in
      let same : s.1.0 ≡ p.output = omega (arith, number) in
      let lt : p.output < length whole.outputs = omega (arith, number, below) in
      let there : slice_get (row p.output) p.stream ≡ Some p.what = subst (λ (t : ℕ). slice_get (row t) p.stream ≡ Some p.what) same s.1.3 in
      let by = made_by p.output lt in
      let packed = packed_at by.0 (passed_row p.output) p.stream p.what by.2 (ap (λ (ss : List OutStream). slice_get ss p.stream) (sym (row_is p.output)) ∙ there) in
      subst (λ (i : ℕ). Fit i (node.Enc p.output p.stream)) (sym place_) (record {
        out = by.0;
        out_is = by.1;
        head = p.what.head;
        is = ap (λ (hs : List StreamHead). slice_get hs p.stream) (heads_are p.output) ∙ get_map (λ (s : OutStream). s.head) (row p.output) p.stream p.what there;
        ins = enc_ins whole laid_whole r p at;
        outs = enc_outs whole laid_whole r p at ∙ ap (λ (h : StreamHead). Packets h ∷ []) packed;
      })

  mux_fit : (k o r : ℕ) → k ≡ before_muxes whole + r → slice_get (output_numbers whole) r ≡ Some o → Fit k (node.Mux o)
  mux_fit k o r place_ at =
      let number = number_at 0 (length whole.outputs) r o at in
      let long = range_length 0 (length whole.outputs) in let below = below_at o (output_numbers whole) r at in
      let lt : o < length whole.outputs = omega (arith, number, long, below) in
      let same : before_muxes whole + o ≡ k = omega (arith, place_, number) in
      let by = made_by o lt in
      let lanes = ap (λ (ss : List OutStream). map (λ (s : OutStream). Packets s.packed) ss) (row_is o)
      ∙ (packets_of by.0 (passed_row o) by.2 ∙ (ap (λ (ss : List OutStream). map (λ (h : StreamHead). Packets (packed_as by.0 h)) (map (λ (s : OutStream). s.head) ss)) (sym (row_is o))
      ∙ ap (λ (hs : List StreamHead). map (λ (h : StreamHead). Packets (packed_as by.0 h)) hs) (sym (heads_are o)))) in
      subst (λ (i : ℕ). Fit i (node.Mux o)) same (record { out = by.0; out_is = by.1; ins = mux_ins whole laid_whole o ∙ lanes; outs = mux_outs whole laid_whole o })

  pub at_fit : (k : ℕ) (d : PlanNode) → IsAt whole k d → Fit k d
  at_fit k d (In_demuxes i r e place_ at) = subst (Fit k) e tt
  at_fit k d (In_starts s r e place_ at) = subst (Fit k) e (start_free (nat_lt s.at.input (length heads))) where
    start_free : (b : Bool) → Fit k (cond b (node.Dec s.at) (node.Gen s.at.input))
    start_free true = tt
    start_free false = tt
  at_fit k d (In_graphs x r e place_ at) = subst (Fit k) e tt
  at_fit k d (In_shortests o r e place_ at) = subst (Fit k) e (shortest_fit k o r place_ at)
  at_fit k d (In_encs p r e place_ at) = subst (Fit k) e (enc_fit k r p place_ at)
  at_fit k d (In_muxes o r e place_ at) = subst (Fit k) e (mux_fit k o r place_ at)

  whole_ends : EndsFit job.outputs (plan_of whole)
  whole_ends = record {
    heads = by_output;
    count =
        map_length (λ (row : List OutStream). map (λ (s : OutStream). s.head) row) whole.outputs
        ∙ (map_length (λ (ps : List Passed). map (λ (p : Passed). p.what) ps) w.rows
        ∙ rows_count rules (inside_of heads job w.made) (length job.graphs) (taken_labels job.graphs) (unlabelled w.made (numbers job.graphs)) job.outputs w.rows w.outputs);
    fit = λ k d e. at_fit k d (is_at whole k d e);
    coded = λ o j lt. stream_coded whole o j lt;
  }

pub ends_fit : (rules : Rules) (job : Job) (heads : List (List StreamHead)) (p : Plan) → ComeInOrder (feeds job.graphs) (length job.graphs) [] (graph_order job.graphs) → planned rules job heads ≡ Ok p
    → EndsFit job.outputs p
ends_fit rules job heads p come h =
    let at = behind_ok (laid_out rules job heads) (λ l. Ok (plan_of l)) p h in
    let w = walked rules job heads at.0 come at.1 in
    subst (λ (q : Plan). EndsFit job.outputs q) (ap (λ (l : Layout). plan_of l) w.is ∙ same_ok (plan_of at.0) p at.2) (whole_ends rules job heads at.0 come w)
