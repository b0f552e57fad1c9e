-- Refusals that no plan has.
use Rattle.std.proofs.Common.{◌≡◌, ◌≢◌, inl, inr, ℕ, ◌+◌, ◌==◌, ◌&&◌, ◌||◌, nat_le, nat_lt, Bool, true, false, not, List, [], ◌∷◌, ◌++◌, length, map, Option, None, Some, refl, sym, ◌∙◌, subst}
use Rattle.std.specs.Prelude.{Ok, Err, Result, slice_get, slice_index_or, is_some}
use Rattle.std.specs.List.{AllByRecursion, find, filter_map, flat_map}
use Rattle.ff_lang.specs.declared.graph.Filter.{Filter}
use Rattle.ff_lang.specs.declared.graph.Graph.{Graph}
use Rattle.ff_words.specs.declared.maps.map.MapFrom.{MapFrom}
use Rattle.ff_words.specs.declared.maps.map.MapFrom.TheVariants as from
use Rattle.ff_words.specs.declared.maps.map.MapSpec.{MapSpec}
use Rattle.ff_words.specs.maps.Choice.{all_streams, selected}
use Rattle.ff_graph_links.specs.declared.labels.fault.LabelFault.{LabelFault}
use Rattle.ff_graph_links.specs.declared.labels.fault.LabelFault.TheVariants as label_fault
use Rattle.ff_graph_links.specs.labels.Labels.{is_one_of, filters_of, taken_in, given_in}
use Rattle.ff_graph_links.specs.labels.Names.{or_else, where_so as fault_where, unknown_label, twice, filter_fault, filters_fault, graphs_fault, all_given, own_fault, twice_in, unknown_filter}
use Rattle.ff_graph_links.specs.labels.Order.{graph_order}
use Rattle.ff_frame.specs.declared.config.ConfigError.{ConfigError}
use Rattle.ff_frame.specs.declared.config.ConfigError.TheVariants as config
use Rattle.ff_frame.specs.declared.head.StreamHead.{StreamHead}
use Rattle.ff_words.specs.declared.job.Job.{Job}
use Rattle.ff_words.specs.declared.job.OutputJob.{OutputJob}
use Rattle.ff_plan_layout.specs.declared.open_pads.OpenIn.{OpenIn}
use Rattle.ff_plan_layout.specs.declared.open_pads.OpenOut.{OpenOut}
use Rattle.ff_plan_layout.specs.declared.open_pads.SourcePad.{SourcePad}
use Rattle.ff_plan_layout.specs.declared.open_pads.Refused.{Refused}
use Rattle.ff_plan.specs.declared.planned.Plan.{Plan}
use Rattle.ff_plan_layout.specs.declared.error.PlanError.{PlanError}
use Rattle.ff_plan_layout.specs.declared.error.PlanError.TheVariants as fault
use Rattle.ff_plan_layout.specs.Choice.{kind_of}
use Rattle.ff_plan_layout.specs.Labels.{refusal_of, refused, labels_fault, stream_of_label, taken_labels, is_given, giver}
use Rattle.ff_plan_layout.specs.Layout.{Layout}
use Rattle.ff_plan.specs.Nodes.{plan_of}
use Rattle.ff_plan_layout.specs.Order.{numbers, loop_of, loop_fault}
use Rattle.ff_plan_layout.specs.Pads.{all_wants, pad_in, head_in, made_of, configure, make_from, make_all, unlabelled}
use Rattle.ff_plan_layout.specs.LaidOut.{outputs_from, labels_of, graphs_of, unused_of, unused_label, simple_graphs, layout_of, limited, laid_out}
use Rattle.ff_plan.specs.Planned.{planned}
use Rattle.ff_plan_layout.specs.Rules.{Rules, Planned, behind, unless, where_so, or_else as or_refusal}
use Rattle.ff_plan_layout.specs.Sources.{sources_of, sources_fault, refused_at, pads_of, source_pad}
use Rattle.ff_plan_layout.specs.Streams.{Inside, is_empty, label_pad, mapped, all_mapped, asked, chosen, some_or, front_with, label_in, takes, through, configured_simple, simply, null_graph, simple_of, passed_by, passed_from, as_asked, passed, all_passed, graph_of}
use Rattle.ff_plan_layout.specs.Asking.{is_as_asked}
use Rattle.ff_plan_layout.proofs.Among.{never}
use Rattle.ff_plan_layout.proofs.Graphed.{inside_of, unlabelled_come}
use Rattle.ff_plan_layout.proofs.Makings.{Comes}
use Rattle.ff_plan_layout.proofs.Outs.{chosen_is, chosen_come}
use Rattle.ff_plan.specs.laws.Sound.{NeverWantsMemory}
use Rattle.ff_plan_layout.specs.declared.layout.InPad.{InPad}
use Rattle.ff_plan_layout.specs.declared.layout.Made.{Made}
use Rattle.ff_plan_layout.specs.declared.layout.Passed.{Passed}
use Rattle.ff_plan_layout.specs.declared.layout.Want.{Want}

-- such refusals are none of those that the plan or the rules make
record AreNone (rules : Rules) (such : PlanError → Bool) : Type 0 where
  no_stream : (o m : ℕ) → such (fault.NoStream o m) ≡ false
  no_streams : (o : ℕ) → such (fault.NoStreams o) ≡ false
  unknown : (label : List ℕ) → such (fault.UnknownLabel label) ≡ false
  unused : (label : List ℕ) → such (fault.UnusedLabel label) ≡ false
  again : (label : List ℕ) → such (fault.LabelTwice label) ≡ false
  loop : (g : ℕ) → such (fault.Loop g) ≡ false
  filter : (g f : ℕ) → such (fault.Config g f config.UnknownFilter) ≡ false
  pads : (g f : ℕ) → such (fault.Config g f config.Pads) ≡ false
  configured : (n : ℕ) (g : Graph) (heads : List (Option StreamHead)) (r : Refused) → rules.configured g heads ≡ Err r → such (fault.Config n r.filter r.kind) ≡ false
  taken : (o n : ℕ) → such (fault.Takes o n) ≡ false
  streams : such fault.TooManyStreams ≡ false
  graphs : such fault.TooManyGraphs ≡ false
  sources : such fault.TooManySources ≡ false
  source : (n : ℕ) (g : Graph) (r : Refused) → rules.source_fault g ≡ Some r → such (fault.Config n r.filter r.kind) ≡ false

module _ (rules : Rules) (such : PlanError → Bool) (none : AreNone rules such) where
  -- it is no such refusal
  abbrev IsFree : {X : Type 0} → Planned X → Type 0
  IsFree (Ok x) = Unit {0}
  IsFree (Err e) = such e ≡ false

  abbrev IsFreeFault : Option PlanError → Type 0
  IsFreeFault None = Unit {0}
  IsFreeFault (Some e) = such e ≡ false

  abbrev IsFreeLabel : Option LabelFault → Type 0
  IsFreeLabel None = Unit {0}
  IsFreeLabel (Some e) = such (refusal_of e) ≡ false

  behind_free : {X Y : Type 0} (r : Planned X) (f : X → Planned Y) → IsFree r → ((x : X) → r ≡ Ok x → IsFree (f x)) → IsFree (behind r f)
  behind_free (Ok x) f h each = each x refl
  behind_free (Err e) f h each = h

  unless_free : {Y : Type 0} (o : Option PlanError) (r : Planned Y) → IsFreeFault o → IsFree r → IsFree (unless o r)
  unless_free None r h rest = rest
  unless_free (Some e) r h rest = h

  where_free : (b : Bool) (e : PlanError) → such e ≡ false → IsFreeFault (where_so b e)
  where_free true e h = h
  where_free false e h = tt

  front_free : {X : Type 0} (xs : List X) (r : Planned (List X)) → IsFree r → IsFree (front_with xs r)
  front_free {X} xs r h = behind_free r (λ ys. Ok (xs ++ ys)) h (λ ys e. tt)

  -- ---- names and labels

  or_free : (a b : Option LabelFault) → IsFreeLabel a → IsFreeLabel b → IsFreeLabel (or_else a b)
  or_free None b h g = g
  or_free (Some e) b h g = h

  so_free : (b : Bool) (e : LabelFault) → such (refusal_of e) ≡ false → IsFreeLabel (fault_where b e)
  so_free true e h = h
  so_free false e h = tt

  refused_free : (o : Option LabelFault) → IsFreeLabel o → IsFreeFault (refused o)
  refused_free None h = tt
  refused_free (Some e) h = h

  unknown_free : (stream : List ℕ → Bool) (given labels : List (List ℕ)) → IsFreeLabel (unknown_label stream given labels)
  unknown_free stream given [] = tt
  unknown_free stream given (label ∷ labels) =
      or_free (fault_where (not (is_one_of label given || stream label)) (label_fault.UnknownLabel label)) (unknown_label stream given labels)
      (so_free (not (is_one_of label given || stream label)) (label_fault.UnknownLabel label) (none.unknown label)) (unknown_free stream given labels)

  twice_free : (all : Bool) (given before labels : List (List ℕ)) → IsFreeLabel (twice all given before labels)
  twice_free all given before [] = tt
  twice_free all given before (label ∷ labels) =
      or_free (fault_where ((all || is_one_of label given) && is_one_of label before) (label_fault.LabelTwice label)) (twice all given (before ++ label ∷ []) labels)
      (so_free ((all || is_one_of label given) && is_one_of label before) (label_fault.LabelTwice label) (none.again label)) (twice_free all given (before ++ label ∷ []) labels)

  module _ (known stream : List ℕ → Bool) (given : List (List ℕ)) where
    filter_free : (g f : ℕ) (ins outs : List (List ℕ)) (x : Filter) → IsFreeLabel (filter_fault known stream given g f ins outs x)
    filter_free g f ins outs x =
        or_free (fault_where (not (known x.name)) (label_fault.UnknownFilter g f)) (or_else (unknown_label stream given x.ins) (or_else (twice false given ins x.ins) (twice true given outs x.outs)))
        (so_free (not (known x.name)) (label_fault.UnknownFilter g f) (none.filter g f))
        (or_free (unknown_label stream given x.ins) (or_else (twice false given ins x.ins) (twice true given outs x.outs)) (unknown_free stream given x.ins)
        (or_free (twice false given ins x.ins) (twice true given outs x.outs) (twice_free false given ins x.ins) (twice_free true given outs x.outs)))

    filters_free : (g f : ℕ) (ins outs : List (List ℕ)) (xs : List Filter) → IsFreeLabel (filters_fault known stream given g f ins outs xs)
    filters_free g f ins outs [] = tt
    filters_free g f ins outs (x ∷ xs) =
        or_free (filter_fault known stream given g f ins outs x) (filters_fault known stream given g (f + 1) (ins ++ x.ins) (outs ++ x.outs) xs)
        (filter_free g f ins outs x) (filters_free g (f + 1) (ins ++ x.ins) (outs ++ x.outs) xs)

    graphs_free : (n : ℕ) (ins outs : List (List ℕ)) (gs : List Graph) → IsFreeLabel (graphs_fault known stream given n ins outs gs)
    graphs_free n ins outs [] = tt
    graphs_free n ins outs (g ∷ gs) =
        or_free (filters_fault known stream given n 0 ins outs (filters_of g)) (graphs_fault known stream given (n + 1) (ins ++ taken_in g) (outs ++ given_in g) gs)
        (filters_free n 0 ins outs (filters_of g)) (graphs_free (n + 1) (ins ++ taken_in g) (outs ++ given_in g) gs)

  own_free : (ins outs : List (List ℕ)) (xs : List Filter) → IsFreeLabel (twice_in ins outs xs)
  own_free ins outs [] = tt
  own_free ins outs (x ∷ xs) =
      or_free (own_fault ins outs x) (twice_in (ins ++ x.ins) (outs ++ x.outs) xs)
      (or_free (twice true [] ins x.ins) (twice true [] outs x.outs) (twice_free true [] ins x.ins) (twice_free true [] outs x.outs))
      (own_free (ins ++ x.ins) (outs ++ x.outs) xs)

  names_free : (known : List ℕ → Bool) (g f : ℕ) (xs : List Filter) → IsFreeLabel (unknown_filter known g f xs)
  names_free known g f [] = tt
  names_free known g f (x ∷ xs) =
      or_free (fault_where (not (known x.name)) (label_fault.UnknownFilter g f)) (unknown_filter known g (f + 1) xs)
      (so_free (not (known x.name)) (label_fault.UnknownFilter g f) (none.filter g f)) (names_free known g (f + 1) xs)

  -- ---- graphs

  loop_free : (o : Option ℕ) → IsFreeFault (loop_of o)
  loop_free None = tt
  loop_free (Some g) = none.loop g

  made_free : (n : ℕ) (ins : List InPad) (g : Graph) (heads : List (Option StreamHead)) (r : Result (List OpenOut) Refused) → rules.configured g heads ≡ r → IsFree (made_of n ins r)
  made_free n ins g heads (Ok outs) e = tt
  made_free n ins g heads (Err r) e = none.configured n g heads r e

  configure_free : (made : List Made) (wants : List (List Want)) (n : ℕ) (o : Option Graph) → IsFree (configure rules made wants n o)
  configure_free made wants n None = tt
  configure_free made wants n (Some g) =
      let heads = map (λ w. head_in (pad_in made w)) (slice_index_or wants n []) in
      made_free n (filter_map (pad_in made) (slice_index_or wants n [])) g heads (rules.configured g heads) refl

  make_free : (gs : List Graph) (wants : List (List Want)) (made : List Made) (order : List ℕ) → IsFree (make_from rules gs wants made order)
  make_free gs wants made [] = tt
  make_free gs wants made (n ∷ ns) =
      behind_free (configure rules made wants n (slice_get gs n)) (λ m. make_from rules gs wants (made ++ m ∷ []) ns) (configure_free made wants n (slice_get gs n))
      (λ m e. make_free gs wants (made ++ m ∷ []) ns)

  -- ---- the streams of an output

  module _ (inside : Inside) where
    mapped_free : (out : OutputJob) (o m : ℕ) (used : List (List ℕ)) (optional : Bool) (spec : MapFrom) → IsFree (mapped inside out o m used optional spec)
    mapped_free out o m used optional (from.Input file p) =
        let off = nat_le (length inside.heads) file || (is_empty (selected (from.Input file p) inside.heads) && not optional) in
        unless_free (where_so off (fault.NoStream o m)) _ (where_free off (fault.NoStream o m) (none.no_stream o m)) tt
    mapped_free out o m used optional (from.Label label) =
        unless_free (where_so (not (is_given inside.graphs label)) (fault.UnknownLabel label)) (unless (where_so (is_one_of label used) (fault.LabelTwice label)) (Ok (label_pad inside label (giver inside.graphs label))))
        (where_free (not (is_given inside.graphs label)) (fault.UnknownLabel label) (none.unknown label))
        (unless_free (where_so (is_one_of label used) (fault.LabelTwice label)) (Ok (label_pad inside label (giver inside.graphs label))) (where_free (is_one_of label used) (fault.LabelTwice label) (none.again label)) tt)

    all_mapped_free : (out : OutputJob) (o m : ℕ) (used : List (List ℕ)) (specs : List MapSpec) → IsFree (all_mapped inside out o m used specs)
    all_mapped_free out o m used [] = tt
    all_mapped_free out o m used (spec ∷ specs) =
        behind_free (mapped inside out o m used spec.optional spec.from) (λ pads. front_with pads (all_mapped inside out o (m + 1) (label_in spec.from ++ used) specs))
        (mapped_free out o m used spec.optional spec.from)
        (λ pads e. front_free pads (all_mapped inside out o (m + 1) (label_in spec.from ++ used) specs) (all_mapped_free out o (m + 1) (label_in spec.from ++ used) specs))

    asked_free : (out : OutputJob) (o : ℕ) (used : List (List ℕ)) (before : List InPad) (maps : List MapSpec) → IsFree (asked inside out o used before maps)
    asked_free out o used before [] = tt
    asked_free out o used before (m ∷ ms) = all_mapped_free out o 0 used (m ∷ ms)

    some_free : (o : ℕ) (pads : List InPad) → IsFree (some_or o pads)
    some_free o [] = none.no_streams o
    some_free o (i ∷ is) = tt

    chosen_free : (out : OutputJob) (o : ℕ) (used : List (List ℕ)) (before : List InPad) → IsFree (chosen inside out o used before)
    chosen_free out o used before = behind_free (asked inside out o used before out.maps) (λ pads. some_or o (before ++ pads)) (asked_free out o used before out.maps) (λ pads e. some_free o (before ++ pads))

    -- ---- what becomes of each

    through_free : (out : OutputJob) (g : ℕ) (i : InPad) (outs : List OpenOut) → IsFree (through out g i outs)
    through_free out g i [] = none.pads g 0
    through_free out g i (o ∷ []) = tt
    through_free out g i (o ∷ x ∷ os) = none.pads g 0

    config_free : (n : ℕ) (g : Graph) (heads : List (Option StreamHead)) (r : Result (List OpenOut) Refused) → rules.configured g heads ≡ r → IsFree (configured_simple n r)
    config_free n g heads (Ok outs) e = tt
    config_free n g heads (Err r) e = none.configured n g heads r e

    pads_of_free : (g : ℕ) (o : Option SourcePad) → IsFreeFault (pads_of g o)
    pads_of_free g None = tt
    pads_of_free g (Some p) = none.pads g p.filter

    source_pad_free : (g : ℕ) (is : List OpenIn) → IsFreeFault (source_pad g is)
    source_pad_free g [] = tt
    source_pad_free g (i ∷ is) = pads_of_free g i.source

    simply_free : (out : OutputJob) (g : ℕ) (i : InPad) (text : Graph) → IsFree (simply rules out g i text)
    simply_free out g i text =
        unless_free (refused (twice_in [] [] (filters_of text))) _ (refused_free (twice_in [] [] (filters_of text)) (own_free [] [] (filters_of text)))
        (unless_free (refused (unknown_filter rules.known g 0 (filters_of text))) _ (refused_free (unknown_filter rules.known g 0 (filters_of text)) (names_free rules.known g 0 (filters_of text)))
        (unless_free (where_so (rules.loops text) (fault.Loop g)) _ (where_free (rules.loops text) (fault.Loop g) (none.loop g))
        (unless_free (where_so (not (length (rules.open_ins text) == 1)) (fault.Config g 0 config.Pads)) _ (where_free (not (length (rules.open_ins text) == 1)) (fault.Config g 0 config.Pads) (none.pads g 0))
        (unless_free (source_pad g (rules.open_ins text)) _ (source_pad_free g (rules.open_ins text))
        (behind_free (configured_simple g (rules.configured text (Some i.head ∷ []))) (through out g i) (config_free g text (Some i.head ∷ []) (rules.configured text (Some i.head ∷ [])) refl)
        (λ outs e. through_free out g i outs))))))

    by_free : (out : OutputJob) (g : ℕ) (i : InPad) (given : Option Graph) → IsFree (passed_by rules out g i given)
    by_free out g i (Some text) = simply_free out g i text
    by_free out g i None = simply_free out g i (null_graph (kind_of i.head))

    from_free : (out : OutputJob) (g : ℕ) (i : InPad) → Comes (all_streams inside.heads) inside.made i → IsFree (passed_from rules out g i i.source)
    from_free out g i (inl s) = subst (λ (j : InPad). IsFree (passed_from rules out g j j.source)) s.is (by_free out g _ (simple_of out (kind_of s.stream.head)))
    from_free out g i (inr o) = subst (λ (j : InPad). IsFree (passed_from rules out g j j.source)) o.is tt

    passed_free : (out : OutputJob) (o g n : ℕ) (i : InPad) → Comes (all_streams inside.heads) inside.made i → IsFree (passed rules out o g n i)
    passed_free out o g n i c =
        unless_free (where_so (not (takes out n i)) (fault.Takes o n)) (behind (passed_from rules out g i i.source) (as_asked out o n)) (where_free (not (takes out n i)) (fault.Takes o n) (none.taken o n))
        (behind_free (passed_from rules out g i i.source) (as_asked out o n) (from_free out g i c)
        (λ p e. unless_free (where_so (not (is_as_asked out.asked p.what.head)) (fault.Takes o n)) (Ok p) (where_free (not (is_as_asked out.asked p.what.head)) (fault.Takes o n) (none.taken o n)) tt))

    all_passed_free : (out : OutputJob) (o g n : ℕ) (is : List InPad) → AllByRecursion (Comes (all_streams inside.heads) inside.made) is → IsFree (all_passed rules out o g n is)
    all_passed_free out o g n [] all = tt
    all_passed_free out o g n (i ∷ is) all =
        behind_free (passed rules out o g n i) (λ p. front_with (p ∷ []) (all_passed rules out o (g + length (graph_of p)) (n + 1) is)) (passed_free out o g n i all.0)
        (λ p e. front_free (p ∷ []) (all_passed rules out o (g + length (graph_of p)) (n + 1) is) (all_passed_free out o (g + length (graph_of p)) (n + 1) is all.1))

    outputs_free : (o g : ℕ) (used : List (List ℕ)) (before : List InPad) (outs : List OutputJob) → AllByRecursion (Comes (all_streams inside.heads) inside.made) before → IsFree (outputs_from rules inside o g used before outs)
    outputs_free o g used before [] all = tt
    outputs_free o g used before (out ∷ outs) all =
        behind_free (chosen inside out o used before) (λ pads. behind (all_passed rules out o g 0 pads) (λ ps. front_with (ps ∷ []) (outputs_from rules inside (o + 1) (g + graphs_of ps) (labels_of out ++ used) [] outs)))
        (chosen_free out o used before)
        (λ pads e. behind_free (all_passed rules out o g 0 pads) (λ ps. front_with (ps ∷ []) (outputs_from rules inside (o + 1) (g + graphs_of ps) (labels_of out ++ used) [] outs))
        (all_passed_free out o g 0 pads (chosen_come inside out used before pads (chosen_is inside out o used before pads e) all))
        (λ ps f. front_free (ps ∷ []) (outputs_from rules inside (o + 1) (g + graphs_of ps) (labels_of out ++ used) [] outs) (outputs_free (o + 1) (g + graphs_of ps) (labels_of out ++ used) [] outs tt)))

  -- ---- source filters

  refused_at_free : (n : ℕ) (g : Graph) (o : Option Refused) → rules.source_fault g ≡ o → IsFreeFault (refused_at n o)
  refused_at_free n g None e = tt
  refused_at_free n g (Some r) e = none.source n g r e

  first_free : (a b : Option PlanError) → IsFreeFault a → IsFreeFault b → IsFreeFault (or_refusal a b)
  first_free None b fa fb = fb
  first_free (Some e) b fa fb = fa

  sources_free : (n : ℕ) (gs : List Graph) → IsFreeFault (sources_fault rules n gs)
  sources_free n [] = tt
  sources_free n (g ∷ gs) = first_free (refused_at n (rules.source_fault g)) (sources_fault rules (n + 1) gs) (refused_at_free n g (rules.source_fault g) refl) (sources_free (n + 1) gs)

  -- ---- the plan

  unused_free : (o : Option (List ℕ)) → IsFreeFault (unused_of o)
  unused_free None = tt
  unused_free (Some label) = none.unused label

  limited_free : (job : Job) (heads : List (List StreamHead)) (made : List Made) (rows : List (List Passed)) → IsFree (limited rules job heads made rows)
  limited_free job heads made rows =
      unless_free (unused_label job) _ (unused_free (find (λ l. not (is_one_of l (taken_labels job.graphs ++ flat_map labels_of job.outputs))) (flat_map given_in job.graphs)))
      (unless_free (where_so (nat_lt 16 (length (flat_map (λ ps. ps) rows))) fault.TooManyStreams) _ (where_free (nat_lt 16 (length (flat_map (λ ps. ps) rows))) fault.TooManyStreams none.streams)
      (unless_free (where_so (nat_lt 16 (length job.graphs + simple_graphs rows)) fault.TooManyGraphs) _ (where_free (nat_lt 16 (length job.graphs + simple_graphs rows)) fault.TooManyGraphs none.graphs)
      (unless_free (where_so (nat_lt 16 (length heads + length (sources_of rules job.graphs))) fault.TooManySources) (Ok (layout_of rules job heads made rows))
      (where_free (nat_lt 16 (length heads + length (sources_of rules job.graphs))) fault.TooManySources none.sources) tt)))

  laid_free : (job : Job) (heads : List (List StreamHead)) → IsFree (laid_out rules job heads)
  laid_free job heads =
      let out_of : List Made → Planned (List (List Passed)) = λ made.
      outputs_from rules (inside_of heads job made) 0 (length job.graphs) (taken_labels job.graphs) (unlabelled made (numbers job.graphs)) job.outputs in
      let last : Planned Layout = behind (make_all rules heads job.graphs) (λ made. behind (out_of made) (λ outs. limited rules job heads made outs)) in
      let sound : Planned Layout = unless (sources_fault rules 0 job.graphs) last in
      unless_free (labels_fault rules heads job.graphs) (unless (loop_fault rules job.graphs) sound)
      (refused_free (graphs_fault rules.known (λ label. is_some (stream_of_label rules heads label)) (all_given job.graphs) 0 [] [] job.graphs)
      (graphs_free rules.known (λ label. is_some (stream_of_label rules heads label)) (all_given job.graphs) 0 [] [] job.graphs))
      (unless_free (loop_fault rules job.graphs) sound (loop_free _)
      (unless_free (sources_fault rules 0 job.graphs) last (sources_free 0 job.graphs)
      (behind_free (make_all rules heads job.graphs) (λ made. behind (out_of made) (λ outs. limited rules job heads made outs)) (make_free job.graphs (all_wants rules heads job.graphs) [] (graph_order job.graphs))
      (λ made e. behind_free (out_of made) (λ outs. limited rules job heads made outs)
      (outputs_free (inside_of heads job made) 0 (length job.graphs) (taken_labels job.graphs) (unlabelled made (numbers job.graphs)) job.outputs (unlabelled_come (all_streams heads) made (numbers job.graphs)))
      (λ rows f. limited_free job heads made rows)))))

  planned_free : (job : Job) (heads : List (List StreamHead)) → IsFree (planned rules job heads)
  planned_free job heads = behind_free (laid_out rules job heads) (λ l. Ok (plan_of l)) (laid_free job heads) (λ l e. tt)

  never_such : (job : Job) (heads : List (List StreamHead)) (e : PlanError) → such e ≡ true → planned rules job heads ≡ Err e → ⊥
  never_such job heads e t h = never (sym (subst (λ (r : Planned Plan). IsFree r) h (planned_free job heads)) ∙ t)

-- ---- want of memory

abbrev wants_memory : PlanError → Bool
wants_memory fault.NoMemory = true
wants_memory other = false

pub never_memory : (rules : Rules) (job : Job) (heads : List (List StreamHead)) → planned rules job heads ≡ Err fault.NoMemory → ⊥
never_memory rules job heads h = never_such rules wants_memory (record {
  no_stream = λ o m. refl;
  no_streams = λ o. refl;
  unknown = λ label. refl;
  unused = λ label. refl;
  again = λ label. refl;
  loop = λ g. refl;
  filter = λ g f. refl;
  pads = λ g f. refl;
  configured = λ n g hs r e. refl;
  taken = λ o n. refl;
  streams = refl;
  graphs = refl;
  sources = refl;
  source = λ n g r e. refl;
}) job heads fault.NoMemory refl h

abbrev is_memory : ConfigError → Bool
is_memory config.NoMemory = true
is_memory other = false

abbrev filter_wants_memory : PlanError → Bool
filter_wants_memory (fault.Config g f kind) = is_memory kind
filter_wants_memory other = false

other_kind : (kind : ConfigError) → kind ≢ config.NoMemory → is_memory kind ≡ false
other_kind config.NoMemory h = absurd (h refl)
other_kind other h = refl

pub never_in_filters : (rules : Rules) (job : Job) (heads : List (List StreamHead)) (g f : ℕ) → NeverWantsMemory rules → planned rules job heads ≡ Err (fault.Config g f config.NoMemory) → ⊥
never_in_filters rules job heads g f free h = never_such rules filter_wants_memory (record {
  no_stream = λ o m. refl;
  no_streams = λ o. refl;
  unknown = λ label. refl;
  unused = λ label. refl;
  again = λ label. refl;
  loop = λ g. refl;
  filter = λ g f. refl;
  pads = λ g f. refl;
  configured = λ n g hs r e. other_kind r.kind (free.configured g hs r e);
  taken = λ o n. refl;
  streams = refl;
  graphs = refl;
  sources = refl;
  source = λ n g r e. other_kind r.kind (free.sources g r e);
}) job heads (fault.Config g f config.NoMemory) refl h
