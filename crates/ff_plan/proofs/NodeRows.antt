-- The nodes of any plan, row by row.
use Rattle.std.proofs.Common.{◌≡◌, ◌⊎◌, inl, inr, ℕ, zero, suc, ◌+◌, ◌<◌, ◌≤◌, ◌==◌, Bool, true, false, cond, List, [], ◌∷◌, ◌++◌, map, length, slice_index_or, refl, sym, ap, ◌∙◌, append_assoc, subst, arith}
use Rattle.std.proofs.lemmas.List.{map-append}
use Rattle.std.proofs.lemmas.List.Elements.{filter-append}
use Rattle.std.specs.Prelude.{nat_lt, slice_get, Ok, Some}
use Rattle.std.specs.List.{filter, flat_map, range_with_len}
use Rattle.std.proofs.lemmas.Bool.Decides.{nat_tests}
use Rattle.ff_stream.specs.edges.Ports.{tally}
use Rattle.ff_graph_links.specs.labels.Order.{ComeInOrder, HasNoLoop, graph_order, feeds, is_in}
use Rattle.ff_words.specs.declared.maps.streams.Stream.{Stream}
use Rattle.ff_words.specs.maps.Choice.{all_streams}
use Rattle.ff_frame.specs.declared.head.StreamHead.{StreamHead}
use Rattle.ff_source.specs.declared.made.Made.{Made as SourceMade}
use Rattle.ff_source.specs.Sources.{head_of}
use Rattle.ff_words.specs.declared.job.Job.{Job}
use Rattle.ff_plan_layout.specs.declared.layout.Placed.{Placed}
use Rattle.ff_plan.specs.declared.planned.Plan.{Plan}
use Rattle.ff_plan.specs.declared.planned.PlanNode.{PlanNode}
use Rattle.ff_plan.specs.declared.planned.PlanNode.TheVariants as node
use Rattle.ff_plan_layout.specs.Labels.{taken_labels}
use Rattle.ff_plan_layout.specs.declared.layout.Laid.{Laid}
use Rattle.ff_plan_layout.specs.Layout.{IsAmong, Layout, placed, streams, is_shown, read, used, is_used, used_inputs}
use Rattle.ff_plan_layout.specs.Sources.{source_streams}
use Rattle.ff_plan.specs.laws.NodeRows.{HasRows}
use Rattle.ff_plan.specs.Nodes.{start_node, output_numbers, nodes_of, plan_of}
use Rattle.ff_plan_layout.specs.Order.{numbers}
use Rattle.ff_plan_layout.specs.declared.layout.Made.{Made}
use Rattle.ff_plan_layout.specs.Pads.{all_wants, unlabelled}
use Rattle.ff_plan_layout.specs.laws.Limits.{IsWithinLimits}
use Rattle.ff_plan_layout.specs.LaidOut.{laid_out, layout_of}
use Rattle.ff_plan.specs.Planned.{planned}
use Rattle.ff_plan_layout.specs.Rules.{Rules}
use Rattle.ff_plan_layout.specs.declared.layout.Passed.{Passed}
use Rattle.ff_plan_layout.specs.Streams.{graph_of}
use Rattle.ff_plan_layout.proofs.Among.{was_among}
use Rattle.ff_plan_layout.proofs.Counts.{once_each, once_length, tally_joined, tally_none}
use Rattle.ff_plan.proofs.EndFits.{rows_count}
use Rattle.ff_plan_layout.proofs.GraphNumbers.{map_twice, all_once, none_above}
use Rattle.ff_plan_layout.proofs.Graphed.{Walked, walked, inside_of}
use Rattle.ff_plan_layout.proofs.Kept.{at_index, among_at, below_at, place_of}
use Rattle.ff_plan.proofs.ByRows.{sources_length}
use Rattle.ff_plan.proofs.Layouts.{counted}
use Rattle.ff_plan.proofs.Spots.{known_from, known_in}
use Rattle.ff_plan_layout.proofs.Sizes.{joined_length, less_or, map_length, range_length}
use Rattle.ff_plan_layout.proofs.Bounds.{few_inputs, filter_few, streams_length}
use Rattle.ff_plan_layout.proofs.Tests.{is_same}
use Rattle.ff_plan_layout.proofs.Once.{low_in, once_in, in_tally, has_no_loop, numbers_are}
use Rattle.ff_plan_layout.proofs.GraphNumbers.{range_above, rows_numbers}
use Rattle.ff_plan_layout.proofs.Results.{same_ok, behind_ok}
use Rattle.ff_plan.proofs.Rising.{Rises, rises_lower, rises_above, rises_less, range_rises, number_at}
use Rattle.ff_plan_layout.proofs.Small.{few}

-- ---- the nodes of streams

starts_made : (n : ℕ) (ss : List Stream) → ((s : Stream) → IsAmong s ss → n ≤ s.at.input) → map (start_node n) ss ≡ map (λ i. node.Gen i) (map (λ (s : Stream). s.at.input) ss)
starts_made n [] each = refl
starts_made n (s ∷ ss) each =
    let off : nat_lt s.at.input n ≡ false = (let le = each s (inl refl) in grind (arith, nat_tests, le)) in
    ap (λ (b : Bool). cond b (node.Dec s.at) (node.Gen s.at.input) ∷ map (start_node n) ss) off
    ∙ ap (λ (ds : List PlanNode). node.Gen s.at.input ∷ ds) (starts_made n ss (λ t i. each t (inr i)))

starts_read : (n : ℕ) (ss : List Stream) → ((s : Stream) → IsAmong s ss → s.at.input < n) → map (start_node n) ss ≡ map (λ at. node.Dec at) (map (λ (s : Stream). s.at) ss)
starts_read n [] each = refl
starts_read n (s ∷ ss) each =
    let on : nat_lt s.at.input n ≡ true = (let lt = each s (inl refl) in grind (arith, nat_tests, lt)) in
    ap (λ (b : Bool). cond b (node.Dec s.at) (node.Gen s.at.input) ∷ map (start_node n) ss) on
    ∙ ap (λ (ds : List PlanNode). node.Dec s.at ∷ ds) (starts_read n ss (λ t i. each t (inr i)))

sources_rise : (p : Stream → Bool) (n : ℕ) (made : List SourceMade) → Rises n (map (λ (s : Stream). s.at.input) (filter p (source_streams n made)))
sources_rise p n [] = tt
sources_rise p n (m ∷ ms) = step (p first) (sources_rise p (n + 1) ms) where
  first : Stream
  first = record { at = record { input = n; stream = 0 }; head = head_of m }

  rest : List Stream
  rest = filter p (source_streams (n + 1) ms)

  step : (b : Bool) → Rises (n + 1) (map (λ (s : Stream). s.at.input) rest) → Rises n (map (λ (s : Stream). s.at.input) (cond b (first ∷ rest) rest))
  step true r = (omega arith, rises_lower (suc n) (n + 1) (map (λ (s : Stream). s.at.input) rest) (omega arith) r)
  step false r = rises_lower n (n + 1) (map (λ (s : Stream). s.at.input) rest) (omega arith) r

module _ (rules : Rules) (job : Job) (heads : List (List StreamHead)) (l : Layout) (w : Walked rules job heads l)
    (come : ComeInOrder (feeds job.graphs) (length job.graphs) [] (graph_order job.graphs))
    (all_in : HasNoLoop (feeds job.graphs) (length job.graphs) → (g : ℕ) → g < length job.graphs → is_in (graph_order job.graphs) g ≡ true) where
  abbrev whole : Layout
  whole = layout_of rules job heads w.made w.rows

  abbrev simples : List Laid
  simples = flat_map (λ ps. flat_map graph_of ps) w.rows

  abbrev n : ℕ
  n = length job.graphs

  abbrev graph_numbers : List ℕ
  graph_numbers = map (λ (x : Laid). x.graph) whole.graphs

  abbrev inputs : List ℕ
  inputs = used_inputs whole

  below_heads : (k i : ℕ) → slice_get inputs k ≡ Some i → i < length heads
  below_heads k i at =
      let was = (was_among (is_used whole) i (range_with_len 0 (length heads)) (among_at i inputs k at)).0 in
      let q = place_of i (range_with_len 0 (length heads)) was in
      let is = number_at 0 (length heads) q.0 i q.1 in
      let lt = below_at i (range_with_len 0 (length heads)) q.0 q.1 in
      let lr = range_length 0 (length heads) in
      omega (arith, is, lt, lr)

  outputs_count : length whole.outputs ≡ length job.outputs
  outputs_count =
      map_length (λ (ps : List Passed). map (λ (p : Passed). p.what) ps) w.rows
      ∙ rows_count rules (inside_of heads job w.made) (length job.graphs) (taken_labels job.graphs) (unlabelled w.made (numbers job.graphs)) job.outputs w.rows w.outputs

  abbrev count : ℕ
  count = length heads

  abbrev of_sources : List Stream
  of_sources = source_streams count whole.made

  abbrev used_sources : List Stream
  used_sources = filter (is_shown whole) of_sources

  abbrev made_numbers : List ℕ
  made_numbers = map (λ (s : Stream). s.at.input) used_sources

  starts_are : map (start_node count) (used whole) ≡ map (λ i. node.Gen i) made_numbers ++ map (λ at. node.Dec at) (map (λ (s : Stream). s.at) (read whole))
  starts_are =
      ap (λ (ss : List Stream). map (start_node count) ss) (filter-append (is_shown whole) of_sources (all_streams heads))
      ∙ (map-append (start_node count) used_sources (read whole)
      ∙ (ap (λ (ds : List PlanNode). ds ++ map (start_node count) (read whole)) (starts_made count used_sources (λ s i.
      known_from count (map (λ m. head_of m ∷ []) whole.made) s (was_among (is_shown whole) s of_sources i).0))
      ∙ ap (λ (ds : List PlanNode). map (λ i. node.Gen i) made_numbers ++ ds) (starts_read count (read whole) (λ s i.
      (let lt = known_in 0 heads s (was_among (is_shown whole) s (all_streams heads) i).0 in omega (arith, lt))))))

  made_rise : Rises count made_numbers
  made_rise = sources_rise (is_shown whole) count whole.made

  abbrev later : List PlanNode
  later = map (λ o. node.Shortest o) (output_numbers whole) ++ (map (λ (p : Placed). node.Enc p.output p.stream) (placed whole) ++ map (λ o. node.Mux o) (output_numbers whole))

  whole_rows : IsWithinLimits job heads → length (placed whole) ≤ 16 → HasRows (length heads) (length whole.outputs) (nodes_of whole)
  whole_rows limits few_placed = record {
    demuxed = inputs;
    rising = λ j k d lt h. rises_less 0 inputs j k (slice_index_or inputs j d) (slice_index_or inputs k d) (range_rises (is_used whole) 0 (length heads)) lt
        (at_index inputs j d (omega (arith, lt, h))) (at_index inputs k d h);
    inputs_are = λ k d h. below_heads k (slice_index_or inputs k d) (at_index inputs k d h);
    made = made_numbers;
    made_rising = λ j k d lt h. rises_less count made_numbers j k (slice_index_or made_numbers j d) (slice_index_or made_numbers k d) made_rise lt
        (at_index made_numbers j d (omega (arith, lt, h))) (at_index made_numbers k d h);
    made_are = λ k d h. rises_above count made_numbers k (slice_index_or made_numbers k d) made_rise (at_index made_numbers k d h);
    decoded = map (λ (s : Stream). s.at) (read whole);
    graphs = graph_numbers;
    numbered = once_each (n + length simples) graph_numbers (all_once rules job heads l w come all_in) (none_above rules job heads l w come all_in);
    joined = output_numbers whole;
    all_or_none = inr refl;
    coded = placed whole;
    are =
        (let gens = map (λ i. node.Gen i) made_numbers in let decs = map (λ at. node.Dec at) (map (λ (s : Stream). s.at) (read whole)) in
        let rest = map (λ (x : Laid). node.Graph x.graph) whole.graphs ++ later in
        ap (λ (xs : List PlanNode). map (λ i. node.Demux i) inputs ++ (xs ++ rest)) starts_are
        ∙ (ap (λ (xs : List PlanNode). map (λ i. node.Demux i) inputs ++ xs) (append_assoc gens decs rest)
        ∙ ap (λ (xs : List PlanNode). map (λ i. node.Demux i) inputs ++ (gens ++ (decs ++ (xs ++ later)))) (map_twice (λ g. node.Graph g) (λ (x : Laid). x.graph) whole.graphs)));
    few =
        (let all = counted whole in
        let a = few_inputs (is_used whole) (length heads) limits.inputs in
        let b = filter_few (is_shown whole) (streams whole) in
        let j = joined_length of_sources (all_streams heads) in let m = sources_length count whole.made in let together = w.few_sources in
        let c = streams_length 0 heads limits.streams in
        let d = map_length (λ (x : Laid). x.graph) whole.graphs in let e = once_length (n + length simples) graph_numbers (all_once rules job heads l w come all_in) (none_above rules job heads l w come all_in) in
        let g = outputs_count in let h = limits.outputs in let wide = w.few_graphs in let in_ = limits.inputs in
        omega (arith, all, a, b, j, m, together, c, d, e, g, h, wide, in_, few_placed));
  }

pub have_rows : (rules : Rules) (job : Job) (heads : List (List StreamHead)) (p : Plan) → ComeInOrder (feeds job.graphs) (length job.graphs) [] (graph_order job.graphs)
    → (HasNoLoop (feeds job.graphs) (length job.graphs) → (g : ℕ) → g < length job.graphs → is_in (graph_order job.graphs) g ≡ true)
    → IsWithinLimits job heads → planned rules job heads ≡ Ok p → HasRows (length heads) (length job.outputs) p.nodes
have_rows rules job heads p come all_in limits h =
    let at = behind_ok (laid_out rules job heads) (λ l. Ok (plan_of l)) p h in
    let w = walked rules job heads at.0 come at.1 in
    let small = subst (λ (l : Layout). length (placed l) ≤ 16) (sym w.is) (few rules job heads at.0 at.1) in
    subst (λ (q : Plan). HasRows (length heads) (length job.outputs) q.nodes) (ap (λ (l : Layout). plan_of l) w.is ∙ same_ok (plan_of at.0) p at.2)
    (subst (λ (k : ℕ). HasRows (length heads) k (nodes_of (layout_of rules job heads w.made w.rows))) (outputs_count rules job heads at.0 w come all_in) (whole_rows rules job heads at.0 w come all_in limits small))
