-- The routes of any plan, its streams and texts, and its edges.
use Rattle.std.proofs.Common.{◌≡◌, inl, inr, ℕ, suc, ◌+◌, ◌-◌, ◌<◌, ◌≤◌, ◌==◌, ◌&&◌, nat_le, nat_lt, Bool, true, false, cond, List, [], ◌∷◌, ◌++◌, map, length, Option, Some, None, refl, sym, ap, ◌∙◌, subst, arith}
use Rattle.std.proofs.lemmas.Bool.Decides.{nat_tests}
use Rattle.std.proofs.lemmas.List.Elements.{All-from_recursion}
use Rattle.std.specs.Prelude.{Ok, slice_get, slice_index_or}
use Rattle.std.specs.List.{AllByRecursion, find, flat_map, filter_map, cons_option, range_with_len}
use Rattle.ff_stream.specs.edges.Ports.{tally, lanes_into}
use Rattle.ff_stream.specs.declared.item.Lane.{Lane}
use Rattle.ff_stream.specs.declared.item.Lane.TheVariants.{Packets}
use Rattle.ff_plan.specs.declared.planned.PlanNode.TheVariants as node
use Rattle.ff_plan.specs.laws.EndFits.{EndsFit}
use Rattle.ff_plan_layout.specs.Streams.{packed_as, Inside, graph_of}
use Rattle.ff_graph_links.specs.labels.Order.{ComeInOrder, HasNoLoop, graph_order, feeds, is_in}
use Rattle.ff_sched.specs.declared.routes.Way.{Way}
use Rattle.ff_sched.specs.laws.Routes.{AreRoutes}
use Rattle.ff_frame.specs.declared.head.StreamHead.{StreamHead}
use Rattle.ff_words.specs.declared.job.Job.{Job}
use Rattle.ff_words.specs.declared.job.OutputJob.{OutputJob}
use Rattle.ff_plan.specs.declared.number.Wire.{Wire}
use Rattle.ff_plan.specs.declared.planned.Plan.{Plan}
use Rattle.ff_plan_layout.specs.declared.layout.GraphText.TheVariants.{Complex}
use Rattle.ff_plan_layout.specs.laws.Graphs.{AreRules}
use Rattle.ff_plan_layout.specs.Labels.{taken_labels}
use Rattle.ff_plan_layout.specs.Layout.{IsLaid, IsAmong, Layout, placed, used, read}
use Rattle.ff_plan.specs.laws.Laws.{GoUpward, GraphsHaveOuts}
use Rattle.ff_plan.specs.Nodes.{before_muxes, node_count, output_numbers, demux_wire, pad_wire, pad_wires, shortest_wire, enc_wire, mux_wire, nodes_of, wires_of, way_to, ways_in, routes_of, plan_of}
use Rattle.ff_plan.specs.Numbers.{leads_between, streams_between, HasFewStreams}
use Rattle.ff_plan_layout.specs.Order.{numbers}
use Rattle.ff_plan_layout.specs.Pads.{all_wants, pad_in, head_in, unlabelled}
use Rattle.ff_plan_layout.specs.laws.Limits.{IsWithinLimits}
use Rattle.ff_plan_layout.specs.LaidOut.{labels_of, graphs_of, layout_of, laid_out}
use Rattle.ff_plan.specs.Planned.{planned}
use Rattle.ff_plan_layout.specs.Rules.{Rules}
use Rattle.ff_plan_layout.specs.Texts.{texts_of_row, texts_from}
use Rattle.ff_plan.specs.Wires.{edges_behind, edges_of}
use Rattle.ff_plan_layout.proofs.Among.{all_map, among_either, each_of, of_flat}
use Rattle.ff_plan_layout.proofs.Counts.{once_length, tally_joined, tally_none}
use Rattle.ff_plan.proofs.EndFits.{rows_count}
use Rattle.ff_plan_layout.proofs.Graphed.{Stands, Walked, walked, walked_laid, inside_of, of_map}
use Rattle.ff_plan.proofs.GraphFits.{graphs_fit, row_long}
use Rattle.ff_plan_layout.proofs.Kept.{below_at}
use Rattle.ff_plan.proofs.Layouts.{counted, number_in, output_in, read_below, graph_below, wires_up, outs_all}
use Rattle.ff_plan_layout.proofs.Sizes.{joined_length, map_length, range_length}
use Rattle.ff_plan_layout.proofs.Makings.{found_is, fit_length, wants_fit}
use Rattle.ff_plan_layout.proofs.GraphNumbers.{all_once, none_above}
use Rattle.ff_plan.proofs.Numbered.{has_ins}
use Rattle.ff_plan_layout.proofs.Once.{had}
use Rattle.ff_plan_layout.proofs.Outs.{AreOutputs, Passes}
use Rattle.ff_plan.proofs.Ported.{stands, passing, have_outs}
use Rattle.ff_plan_layout.proofs.Results.{same_ok, behind_ok}
use Rattle.ff_plan_layout.proofs.Small.{few}
use Rattle.ff_plan.proofs.StartFits.{starts_fit}
use Rattle.ff_plan.proofs.Upward.{go_upward}
use Rattle.ff_plan.specs.laws.Sound.{HasFewIns, KeepsTaken, IsSoundPlan}
use Rattle.ff_plan.proofs.Taken.{outputs_fit}
use Rattle.ff_plan_layout.specs.declared.layout.InPad.{InPad}
use Rattle.ff_plan_layout.specs.declared.layout.Laid.{Laid}
use Rattle.ff_plan_layout.specs.declared.layout.Made.{Made}
use Rattle.ff_plan_layout.specs.declared.layout.Passed.{Passed}
use Rattle.ff_plan_layout.specs.declared.layout.Placed.{Placed}

-- ---- lists

kept_few : {A B : Type 0} (f : A → Option B) (xs : List A) → length (filter_map f xs) ≤ length xs
kept_few f [] = omega arith
kept_few {A} {B} f (x ∷ xs) = step (f x) (kept_few f xs) where
  step : (o : Option B) → length (filter_map f xs) ≤ length xs → length (cons_option o (filter_map f xs)) ≤ suc (length xs)
  step None h = omega (arith, h)
  step (Some y) h = omega (arith, h)

tally_few : {A : Type 0} (p : A → Bool) (xs : List A) → tally p xs ≤ length xs
tally_few p [] = omega arith
tally_few p (x ∷ xs) = step (p x) (tally_few p xs) where
  step : (b : Bool) → tally p xs ≤ length xs → cond b (suc (tally p xs)) (tally p xs) ≤ suc (length xs)
  step true h = omega (arith, h)
  step false h = omega (arith, h)

-- ---- streams that enter the Mux nodes

abbrev enters_between : ℕ → ℕ → Wire → Bool
enters_between low high w = nat_le low w.to && nat_lt w.to high

edges_between : (low high : ℕ) (before ws : List Wire) → tally (leads_between low high) (edges_behind before ws) ≡ tally (enters_between low high) ws
edges_between low high before [] = refl
edges_between low high before (w ∷ ws) = ap (λ (k : ℕ). cond (enters_between low high w) (suc k) k) (edges_between low high (w ∷ before) ws)

below_test : (low high : ℕ) (w : Wire) → w.to < low → enters_between low high w ≡ false
below_test low high w lt = grind (arith, nat_tests, lt)

module _ (l : Layout) (laid : IsLaid l) (high : ℕ) where
  abbrev Q : Wire → Bool
  Q w = enters_between (before_muxes l) high w

  demuxes_none : tally Q (map (demux_wire l) (read l)) ≡ 0
  demuxes_none = tally_none Q (map (demux_wire l) (read l)) (λ w i.
      (let s = of_map (demux_wire l) w (read l) i in subst (λ (v : Wire). Q v ≡ false) s.2
      (below_test (before_muxes l) high (demux_wire l s.0) (let lt = read_below l s.0 s.1 in omega (arith, lt)))))

  pads_none : tally Q (flat_map (pad_wires l) l.graphs) ≡ 0
  pads_none = tally_none Q (flat_map (pad_wires l) l.graphs) (λ w i.
      (let g = of_flat (pad_wires l) w l.graphs i in let j = of_map (pad_wire l g.0.graph) w g.0.ins g.2 in subst (λ (v : Wire). Q v ≡ false) j.2
      (below_test (before_muxes l) high (pad_wire l g.0.graph j.0) (let lt = graph_below l laid g.0 g.1 in omega (arith, lt)))))

  shorts_none : tally Q (map (shortest_wire l) (placed l)) ≡ 0
  shorts_none = tally_none Q (map (shortest_wire l) (placed l)) (λ w i.
      (let s = of_map (shortest_wire l) w (placed l) i in
      subst (λ (v : Wire). Q v ≡ false) s.2 (below_test (before_muxes l) high (shortest_wire l s.0) (let lt = output_in l s.0 s.1 in omega (arith, lt)))))

  encs_none : tally Q (map (enc_wire l) (placed l)) ≡ 0
  encs_none = tally_none Q (map (enc_wire l) (placed l)) (λ w i.
      (let s = of_map (enc_wire l) w (placed l) i in subst (λ (v : Wire). Q v ≡ false) s.2
      (below_test (before_muxes l) high (enc_wire l s.0) (let lt = number_in l s.0 s.1 in omega (arith, lt)))))

  few_enter : tally Q (wires_of l) ≤ length (placed l)
  few_enter =
      let demuxes = map (demux_wire l) (read l) in let pads = flat_map (pad_wires l) l.graphs in let shorts = map (shortest_wire l) (placed l) in
      let encs = map (enc_wire l) (placed l) in let muxes = map (mux_wire l) (placed l) in
      let j1 = tally_joined Q demuxes (pads ++ (shorts ++ (encs ++ muxes))) in let j2 = tally_joined Q pads (shorts ++ (encs ++ muxes)) in
      let j3 = tally_joined Q shorts (encs ++ muxes) in let j4 = tally_joined Q encs muxes in
      let a = demuxes_none in let b = pads_none in let c = shorts_none in let d = encs_none in
      let e = tally_few Q muxes in let f = map_length (mux_wire l) (placed l) in
      omega (arith, j1, j2, j3, j4, a, b, c, d, e, f)

-- ---- the texts of simple graphs

-- what a Mux writes is what the Enc nodes of its output make
writers_coded : {outputs : List OutputJob} (p : Plan) → EndsFit outputs p → (k o j : ℕ) → slice_get p.nodes k ≡ Some (node.Mux o) → j < length (lanes_into p.edges k)
    → (e : ℕ) × (slice_get p.nodes e ≡ Some (node.Enc o j))
writers_coded p ends k o j e lt =
    let fit = ends.fit k (node.Mux o) e in
    let same = ap (λ (ls : List Lane). length ls) fit.ins in
    let long = map_length (λ (h : StreamHead). Packets (packed_as fit.out h)) (slice_index_or ends.heads o []) in
    ends.coded o j (omega (arith, lt, same, long))

module _ (rules : Rules) (outputs : List OutputJob) where
  texts_long : (inside : Inside) (o g : ℕ) (before_used : List (List ℕ)) (before : List InPad) (outs : List OutputJob) (rows : List (List Passed)) → AreOutputs rules inside g before_used before outs rows
      → ((i : ℕ) (out : OutputJob) → slice_get outs i ≡ Some out → slice_get outputs (o + i) ≡ Some out)
      → length (texts_from o outs rows) ≡ length (flat_map (λ (ps : List Passed). flat_map graph_of ps) rows)
  texts_long inside o g taken before [] [] s at = refl
  texts_long inside o g taken before [] (ps ∷ rows) s at = absurd s
  texts_long inside o g taken before (out ∷ outs) [] s at = absurd s
  texts_long inside o g taken before (out ∷ outs) (ps ∷ rows) s at =
      let here : slice_get outputs o ≡ Some out = ap (λ (k : ℕ). slice_get outputs k) (let z : o ≡ o + 0 = omega arith in z) ∙ at 0 out refl in
      let a = joined_length (texts_of_row o out ps) (texts_from (o + 1) outs rows) in
      let b = joined_length (flat_map graph_of ps) (flat_map (λ (qs : List Passed). flat_map graph_of qs) rows) in
      let c = row_long rules outputs [] o out here g s.0 ps s.2 in
      let d = texts_long inside (o + 1) (g + graphs_of ps) (labels_of out ++ taken) [] outs rows s.3
      (λ i q f. ap (λ (k : ℕ). slice_get outputs k) (let z : o + 1 + i ≡ o + suc i = omega arith in z) ∙ at (suc i) q f) in
      omega (arith, a, b, c, d)

module _ (rules : Rules) (are : AreRules rules) (job : Job) (heads : List (List StreamHead)) (l : Layout) (w : Walked rules job heads l)
    (come : ComeInOrder (feeds job.graphs) (length job.graphs) [] (graph_order job.graphs))
    (all_in : HasNoLoop (feeds job.graphs) (length job.graphs) → (g : ℕ) → g < length job.graphs → is_in (graph_order job.graphs) g ≡ true)
    (some_outputs : 1 ≤ length job.outputs) where
  abbrev whole : Layout
  whole = layout_of rules job heads w.made w.rows

  abbrev simples : List Laid
  simples = flat_map (λ (ps : List Passed). flat_map graph_of ps) w.rows

  abbrev complexes : List Laid
  complexes = map (λ (m : Made). m.laid) w.made

  abbrev Passing : Passed → Type 0
  Passing p = Passes rules (inside_of heads job w.made) p

  abbrev StandsHere : Made → Type 0
  StandsHere m = Stands rules job.graphs (all_wants rules heads job.graphs) w.made m

  graphs_count : length whole.graphs ≡ length job.graphs + length simples
  graphs_count =
      sym (map_length (λ (x : Laid). x.graph) whole.graphs)
      ∙ once_length (length job.graphs + length simples) (map (λ (x : Laid). x.graph) whole.graphs) (all_once rules job heads l w come all_in) (none_above rules job heads l w come all_in)

  pub texts_count : length whole.texts ≡ length whole.graphs
  texts_count =
      let a = joined_length (map (λ g. Complex g) (numbers job.graphs)) (texts_from 0 job.outputs w.rows) in
      let b = map_length (λ g. Complex g) (numbers job.graphs) in let c = range_length 0 (length job.graphs) in
      let d = texts_long rules job.outputs (inside_of heads job w.made) 0 (length job.graphs) (taken_labels job.graphs) (unlabelled w.made (numbers job.graphs)) job.outputs w.rows w.outputs
      (λ i out e. ap (λ (k : ℕ). slice_get job.outputs k) (let z : 0 + i ≡ i = omega arith in z) ∙ e) in
      let e = graphs_count in
      omega (arith, a, b, c, d, e)

  routed_count : length (routes_of whole).graphs ≡ length whole.graphs
  routed_count = map_length (λ g. ways_in (find (λ (x : Laid). x.graph == g) whole.graphs)) (range_with_len 0 (length whole.graphs)) ∙ range_length 0 (length whole.graphs)

  outputs_count : length whole.outputs ≡ length job.outputs
  outputs_count =
      map_length (λ (ps : List Passed). map (λ (p : Passed). p.what) ps) w.rows
      ∙ rows_count rules (inside_of heads job w.made) (length job.graphs) (taken_labels job.graphs) (unlabelled w.made (numbers job.graphs)) job.outputs w.rows w.outputs

  -- ---- inputs of graphs

  simple_few : (x : Laid) (p : Passed) → Passing p → IsAmong x (graph_of p) → length x.ins ≤ 16
  simple_few x p t i = elim t.how [
    | inl e ↦ absurd (subst (λ (q : Passed). IsAmong x (graph_of q)) (sym e) i)
    | inr f ↦ elim (subst (λ (q : Passed). IsAmong x (graph_of q)) (sym f.is) i) [
      | inl same ↦ (let one = ap (λ (y : Laid). length y.ins) same in omega (arith, one))
      | inr none ↦ absurd none
    ]
  ]

  module _ (narrow : HasFewIns rules) where
    made_few : (m : Made) → IsAmong m w.made → length m.laid.ins ≤ 16
    made_few m im =
        let s = each_of StandsHere m w.made (stands rules are job heads l w come all_in some_outputs) im in
        let row = slice_index_or (all_wants rules heads job.graphs) s.number [] in
        let long = fit_length rules heads job.graphs (rules.open_ins s.how.text) row (wants_fit rules heads job.graphs [] job.graphs s.number s.how.text s.how.there) in
        let low = narrow s.how.text (map (λ v. head_in (pad_in s.front v)) row) m.outs (had rules are job heads l w come all_in some_outputs m s) in
        let kept = kept_few (pad_in s.front) row in
        subst (λ (is : List InPad). length is ≤ 16) (sym s.how.ins) (omega (arith, long, low, kept))

    ins_few : (x : Laid) → IsAmong x whole.graphs → length x.ins ≤ 16
    ins_few x i = elim (among_either x complexes simples i) [
      | inl c ↦ (let m = of_map (λ (m : Made). m.laid) x w.made c in subst (λ (y : Laid). length y.ins ≤ 16) m.2 (made_few m.0 m.1))
      | inr b ↦ (let a = of_flat (λ (ps : List Passed). flat_map graph_of ps) x w.rows b in let q = of_flat graph_of x a.0 a.2 in
          simple_few x q.0 (each_of Passing q.0 a.0 (each_of (λ ps. AllByRecursion Passing ps) a.0 w.rows (passing rules are job heads l w come all_in some_outputs) a.1) q.1) q.2)
    ]

    ways_few : (g : ℕ) → length (ways_in (find (λ (x : Laid). x.graph == g) whole.graphs)) ≤ 16
    ways_few g = step (find (λ (x : Laid). x.graph == g) whole.graphs) refl where
      step : (o : Option Laid) → find (λ (x : Laid). x.graph == g) whole.graphs ≡ o → length (ways_in o) ≤ 16
      step None e = omega arith
      step (Some x) e = (let long = map_length (λ (i : InPad). way_to i.source) x.ins in
          let low = ins_few x (found_is (λ (x : Laid). x.graph == g) whole.graphs x e).0 in omega (arith, long, low))

    are_routes : IsWithinLimits job heads → length (placed whole) ≤ 16 → AreRoutes (routes_of whole)
    are_routes limits small = record {
      sources = w.few_sources;
      streams = (let n = map_length (λ (p : Placed). way_to p.what.source) (placed whole) in omega (arith, n, small));
      graphs = (let a = routed_count in let b = graphs_count in let c = w.few_graphs in omega (arith, a, b, c));
      inputs = All-from_recursion (λ (ways : List Way). length ways ≤ 16) (routes_of whole).graphs
          (all_map (λ (ways : List Way). length ways ≤ 16) (λ g. ways_in (find (λ (x : Laid). x.graph == g) whole.graphs)) (range_with_len 0 (length whole.graphs)) (λ g i. ways_few g));
    }

  -- ---- all together

  pub laid_whole : IsLaid whole
  laid_whole = subst IsLaid (sym w.is) (walked_laid rules job heads l come w)

  few_streams : length (placed whole) ≤ 16 → HasFewStreams (length job.outputs) (plan_of whole)
  few_streams small = λ k.
      (let all = counted whole in let many = outputs_count in
      let low : before_muxes whole ≡ length (nodes_of whole) - length job.outputs = omega (arith, all, many) in
      let e = edges_between (before_muxes whole) k [] (wires_of whole) in
      let f = few_enter whole laid_whole k in
      subst (λ (m : ℕ). streams_between m k (edges_of (wires_of whole)) ≤ 16) low (omega (arith, e, f, small)))

  upward_whole : GoUpward (length (nodes_of whole)) (edges_of (wires_of whole))
  upward_whole = subst (λ (m : ℕ). GoUpward m (edges_of (wires_of whole))) (sym (counted whole)) (go_upward (node_count whole) (wires_of whole) (wires_up whole laid_whole))

  whole_sound : HasFewIns rules → KeepsTaken rules → IsWithinLimits job heads → laid_out rules job heads ≡ Ok l → planned rules job heads ≡ Ok (plan_of whole) → IsSoundPlan rules job heads (plan_of whole)
  whole_sound narrow keeps limits lh ph =
      let small = subst (λ (y : Layout). length (placed y) ≤ 16) (sym w.is) (few rules job heads l lh) in
      record {
        outputs = outputs_fit rules keeps job heads (plan_of whole) come ph;
        routes = are_routes narrow limits small;
        sources = refl;
        few = few_streams small;
        texts = texts_count ∙ sym routed_count;
        graphs = λ k g e. (let fit = graphs_fit rules are job heads (plan_of whole) come all_in some_outputs ph k g e in below_at fit.stands whole.texts g fit.at);
        used = λ k i e. (starts_fit rules are job heads (plan_of whole) come all_in some_outputs ph k (node.Demux i) e).some;
        coded = λ k o j e lt. writers_coded (plan_of whole) (outputs_fit rules keeps job heads (plan_of whole) come ph).ends k o j e lt;
        upward = upward_whole;
        ins = λ k. has_ins k (wires_of whole);
        outs = outs_all whole laid_whole (subst GraphsHaveOuts (sym w.is) (have_outs rules are job heads l come all_in some_outputs lh));
      }

pub sound : (rules : Rules) (job : Job) (heads : List (List StreamHead)) (p : Plan) → AreRules rules → HasFewIns rules → KeepsTaken rules → IsWithinLimits job heads
    → ComeInOrder (feeds job.graphs) (length job.graphs) [] (graph_order job.graphs)
    → (HasNoLoop (feeds job.graphs) (length job.graphs) → (g : ℕ) → g < length job.graphs → is_in (graph_order job.graphs) g ≡ true)
    → 1 ≤ length job.outputs → planned rules job heads ≡ Ok p → IsSoundPlan rules job heads p
sound rules job heads p are narrow keeps limits come all_in some h =
    let at = behind_ok (laid_out rules job heads) (λ l. Ok (plan_of l)) p h in
    let w = walked rules job heads at.0 come at.1 in
    let same = ap (λ (l : Layout). plan_of l) w.is ∙ same_ok (plan_of at.0) p at.2 in
    subst (λ (q : Plan). IsSoundPlan rules job heads q) same
    (whole_sound rules are job heads at.0 w come all_in some narrow keeps limits at.1 (subst (λ (q : Plan). planned rules job heads ≡ Ok q) (sym same) h))
