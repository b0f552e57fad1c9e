-- The stream of a source is used once at most by all graphs and outputs.
use Rattle.std.proofs.Common.{◌≡◌, inl, inr, ℕ, zero, suc, ◌+◌, ◌-◌, ◌<◌, ◌≤◌, ◌==◌, ◌&&◌, Bool, true, false, List, [], ◌∷◌, ◌++◌, map, length, Some, refl, sym, ap, ◌∙◌, subst, append_assoc, arith}
use Rattle.std.proofs.lemmas.List.Concat.{flat_map-append}
use Rattle.std.specs.Prelude.{slice_get, slice_index_or}
use Rattle.std.specs.List.{AllByRecursion, flat_map, range_with_len}
use Rattle.std.proofs.lemmas.Bool.Decides.{nat_tests}
use Rattle.ff_stream.specs.edges.Ports.{tally}
use Rattle.ff_frame.specs.declared.head.StreamHead.{StreamHead}
use Rattle.ff_graph_links.specs.labels.Order.{ComeInOrder, HasNoLoop, graph_order, feeds, is_in}
use Rattle.ff_lang.specs.declared.graph.Graph.{Graph}
use Rattle.ff_words.specs.declared.job.Job.{Job}
use Rattle.ff_words.specs.declared.job.OutputJob.{OutputJob}
use Rattle.ff_words.specs.declared.maps.streams.Stream.{Stream}
use Rattle.ff_words.specs.declared.maps.streams.StreamRef.{StreamRef}
use Rattle.ff_words.specs.maps.Choice.{all_streams}
use Rattle.ff_plan_layout.specs.declared.layout.InPad.{InPad}
use Rattle.ff_plan_layout.specs.declared.layout.Laid.{Laid}
use Rattle.ff_plan_layout.specs.declared.layout.Origin.{Origin}
use Rattle.ff_plan_layout.specs.declared.layout.OutStream.{OutStream}
use Rattle.ff_plan_layout.specs.declared.layout.Passed.{Passed}
use Rattle.ff_plan_layout.specs.declared.layout.Placed.{Placed}
use Rattle.ff_plan_layout.specs.declared.layout.Want.{Want}
use Rattle.ff_plan_layout.specs.LaidOut.{layout_of}
use Rattle.ff_plan_layout.specs.Layout.{IsAmong, Layout, placed, origins, shows}
use Rattle.ff_plan_layout.specs.declared.layout.Made.{Made}
use Rattle.ff_plan_layout.specs.Pads.{all_wants, wants_from, wants_of}
use Rattle.ff_plan_layout.specs.Rules.{Rules}
use Rattle.ff_plan_layout.specs.Sources.{source_streams, sources_of}
use Rattle.ff_plan_layout.specs.Streams.{graph_of}
use Rattle.ff_plan_layout.proofs.Among.{all_map, each_of, of_flat}
use Rattle.ff_plan_layout.proofs.Counts.{total, total_map, total_order, total_same, tally_flat, tally_joined, tally_map, tally_none}
use Rattle.ff_plan_layout.proofs.Graphed.{Stands, Walked, graph_number, inside_of, of_map, stand}
use Rattle.ff_plan_layout.proofs.Makings.{Comes}
use Rattle.ff_plan_layout.proofs.Once.{has_no_loop, in_tally, low_in, numbers_are, once_in}
use Rattle.ff_plan_layout.proofs.Outs.{IsPassed, Passes}
use Rattle.ff_plan_layout.proofs.Sizes.{joined_length, place_holds}
use Rattle.ff_plan_layout.specs.laws.Graphs.{AreRules}
use Rattle.ff_plan.proofs.Ported.{passing}
use Rattle.ff_plan.proofs.Spots.{known_in, number_of_source}
use Rattle.ff_plan.proofs.Wanted.{Own, all_few, ins_shown, shown}

-- ---- lists by their places

module _ {A : Type 0} (f : List A → ℕ) where
  index_end : (xs ys : List (List A)) (y : List A) (k : ℕ) → k ≡ length xs → slice_index_or (xs ++ y ∷ ys) k [] ≡ y
  index_end [] ys y k e = ap (λ (j : ℕ). slice_index_or (y ∷ ys) j []) e
  index_end (x ∷ xs) ys y zero e = absurd (omega (arith, e))
  index_end (x ∷ xs) ys y (suc k) e = index_end xs ys y k (omega (arith, e))

  places_total : (front xs : List (List A)) (a : ℕ) → a ≡ length front → total (λ i. f (slice_index_or (front ++ xs) i [])) (range_with_len a (length xs)) ≡ total f xs
  places_total front [] a e = refl
  places_total front (x ∷ xs) a e =
      let here = ap f (index_end front xs x a e) in
      let long = joined_length front (x ∷ []) in
      let rest = places_total (front ++ x ∷ []) xs (a + 1) (omega (arith, long, e)) in
      let same = ap (λ (ys : List (List A)). total (λ i. f (slice_index_or ys i [])) (range_with_len (a + 1) (length xs))) (append_assoc front (x ∷ []) xs) in
      omega (arith, here, rest, same)

wants_long : (rules : Rules) (sources : List Stream) (heads : List (List StreamHead)) (graphs : List Graph) (before : List Want) (gs : List Graph)
    → length (wants_from rules sources heads graphs before gs) ≡ length gs
wants_long rules sources heads graphs before [] = refl
wants_long rules sources heads graphs before (g ∷ gs) = ap suc (wants_long rules sources heads graphs (before ++ wants_of rules sources heads graphs before (rules.open_ins g)) gs)

-- ---- what outputs show

module _ (at : StreamRef) (heads : List (List StreamHead)) (high : length heads ≤ at.input) where
  abbrev Hidden : InPad → Type 0
  Hidden i = shows at i.source ≡ false

  -- it is neither shown by the stream nor by its simple graph
  abbrev IsHidden : Passed → Type 0
  IsHidden p = (shows at p.what.source ≡ false) × AllByRecursion (λ (x : Laid). AllByRecursion Hidden x.ins) (graph_of p)

  pad_hidden : (made : List Made) (i : InPad) → Comes (all_streams heads) made i → Hidden i
  pad_hidden made i (inl s) = subst Hidden s.is
      (let lt = known_in 0 heads s.stream s.there in
      let off : ((at.input == s.stream.at.input) && (at.stream == s.stream.at.stream)) ≡ false = grind (arith, nat_tests, lt, high) in off)
  pad_hidden made i (inr o) = subst Hidden o.is refl

  pass_hidden : (rules : Rules) (out : OutputJob) (g : ℕ) (i : InPad) (p : Passed) → IsPassed rules out g i p → Hidden i → IsHidden p
  pass_hidden rules out g i p (inl e) h = subst IsHidden e (h, tt)
  pass_hidden rules out g i p (inr f) h = subst IsHidden f.is (refl, ((h, tt), tt))

-- ---- in a layout

module _ (rules : Rules) (are : AreRules rules) (job : Job) (heads : List (List StreamHead)) (l : Layout) (w : Walked rules job heads l)
    (come : ComeInOrder (feeds job.graphs) (length job.graphs) [] (graph_order job.graphs))
    (all_in : HasNoLoop (feeds job.graphs) (length job.graphs) → (g : ℕ) → g < length job.graphs → is_in (graph_order job.graphs) g ≡ true)
    (some_outputs : 1 ≤ length job.outputs) (s : Stream) (high : length heads ≤ s.at.input) where
  abbrev whole : Layout
  whole = layout_of rules job heads w.made w.rows

  abbrev graphs : List Graph
  graphs = job.graphs

  abbrev simples : List Laid
  simples = flat_map (λ ps. flat_map graph_of ps) w.rows

  abbrev complexes : List Laid
  complexes = map (λ (m : Made). m.laid) w.made

  abbrev sources : List Stream
  sources = source_streams (length heads) (sources_of rules graphs)

  abbrev wants : List (List Want)
  wants = all_wants rules heads graphs

  abbrev shown_in : List Laid → List Origin
  shown_in gs = flat_map (λ (x : Laid). map (λ (i : InPad). i.source) x.ins) gs

  abbrev j : ℕ
  j = s.at.input - length heads

  number : s.at.input ≡ length heads + j
  number = omega (arith, high)

  numbered : (c : ℕ) (t : Stream) → slice_get sources c ≡ Some t → t.at.input ≡ length heads + c
  numbered c t at = number_of_source (length heads) (sources_of rules graphs) c t at

  abbrev own : Want → Bool
  own v = Own rules heads graphs sources s j number numbered v

  abbrev by_number : ℕ → ℕ
  by_number g = tally own (slice_index_or wants g [])

  -- ---- complex graphs

  abbrev StandsIn : Made → Type 0
  StandsIn m = Stands rules graphs wants w.made m

  made_shown : (m : Made) → StandsIn m → tally (shows s.at) (map (λ (i : InPad). i.source) m.laid.ins) ≡ by_number (graph_number m)
  made_shown m t =
      tally_map (shows s.at) (λ (i : InPad). i.source) m.laid.ins
      ∙ (ap (λ (is : List InPad). tally (λ (i : InPad). shows s.at i.source) is) t.how.ins
      ∙ (ins_shown rules heads graphs sources s j number numbered t.front (slice_index_or wants t.number [])
      ∙ ap by_number (sym t.how.number)))

  order_once : (g : ℕ) → g < length graphs → tally (λ x. x == g) (graph_order graphs) ≡ 1
  order_once g lt =
      let least = in_tally g (graph_order graphs) (all_in (has_no_loop rules graphs w.loops) g lt) in
      let most = once_in (feeds graphs) (length graphs) [] (graph_order graphs) g come in
      omega (arith, least, most)

  complexes_shown : tally (shows s.at) (shown_in complexes) ≡ total (tally own) wants
  complexes_shown =
      tally_flat (shows s.at) (λ (x : Laid). map (λ (i : InPad). i.source) x.ins) complexes
      ∙ (total_map (λ (x : Laid). tally (shows s.at) (map (λ (i : InPad). i.source) x.ins)) (λ (m : Made). m.laid) w.made
      ∙ (total_same (λ (m : Made). tally (shows s.at) (map (λ (i : InPad). i.source) m.laid.ins)) (λ (m : Made). by_number (graph_number m)) w.made
      (λ m i. made_shown m (each_of StandsIn m w.made (stand rules job heads w.made w.rows come w.are_made) i))
      ∙ (sym (total_map by_number graph_number w.made)
      ∙ (ap (λ (ns : List ℕ). total by_number ns) (numbers_are rules graphs wants [] (graph_order graphs) w.made w.are_made)
      ∙ (total_order by_number (length graphs) (graph_order graphs) (λ g i. low_in (feeds graphs) (length graphs) [] (graph_order graphs) g come i) order_once
      ∙ (ap (λ (k : ℕ). total by_number (range_with_len 0 k)) (sym (wants_long rules sources heads graphs [] graphs))
      ∙ places_total (tally own) [] wants 0 refl))))))

  -- ---- outputs and simple graphs

  abbrev Hides : InPad → Type 0
  Hides i = Hidden s.at heads high i

  abbrev Passing : Passed → Type 0
  Passing p = Passes rules (inside_of heads job w.made) p

  hidden : (ps : List Passed) (p : Passed) → IsAmong ps w.rows → IsAmong p ps → IsHidden s.at heads high p
  hidden ps p ips ip =
      let t = each_of Passing p ps (each_of (λ ps. AllByRecursion Passing ps) ps w.rows (passing rules are job heads l w come all_in some_outputs) ips) ip in
      pass_hidden s.at heads high rules t.out t.graph t.pad p t.how (pad_hidden s.at heads high w.made t.pad t.from)

  simples_none : tally (shows s.at) (shown_in simples) ≡ 0
  simples_none = tally_none (shows s.at) (shown_in simples) (λ o io.
      (let x = of_flat (λ (x : Laid). map (λ (i : InPad). i.source) x.ins) o simples io in let i = of_map (λ (i : InPad). i.source) o x.0.ins x.2 in
      let ps = of_flat (λ (ps : List Passed). flat_map graph_of ps) x.0 w.rows x.1 in let p = of_flat graph_of x.0 ps.0 ps.2 in
      subst (λ (o : Origin). shows s.at o ≡ false) i.2
      (each_of Hides i.0 x.0.ins (each_of (λ (x : Laid). AllByRecursion Hides x.ins) x.0 (graph_of p.0) (hidden ps.0 p.0 ps.1 p.1).1 p.2) i.1)))

  streams_none : tally (shows s.at) (map (λ (p : Placed). p.what.source) (placed whole)) ≡ 0
  streams_none = tally_none (shows s.at) (map (λ (p : Placed). p.what.source) (placed whole)) (λ o io.
      (let p = of_map (λ (p : Placed). p.what.source) o (placed whole) io in
      subst (λ (o : Origin). shows s.at o ≡ false) p.2
      (each_of (λ (p : Placed). shows s.at p.what.source ≡ false) p.0 (placed whole)
      (place_holds (λ (o : OutStream). shows s.at o.source ≡ false) 0 0 whole.outputs
      (all_map (λ row. AllByRecursion (λ (o : OutStream). shows s.at o.source ≡ false) row) (λ (ps : List Passed). map (λ (p : Passed). p.what) ps) w.rows
      (λ ps ips. all_map (λ (o : OutStream). shows s.at o.source ≡ false) (λ (p : Passed). p.what) ps (λ p ip. (hidden ps p ips ip).0)))) p.1)))

  pub wanted_once : tally (shows s.at) (origins whole) ≤ 1
  wanted_once =
      let outs = map (λ (p : Placed). p.what.source) (placed whole) in
      let a = tally_joined (shows s.at) (shown_in (complexes ++ simples)) outs in
      let b = ap (λ (os : List Origin). tally (shows s.at) os) (flat_map-append (λ (x : Laid). map (λ (i : InPad). i.source) x.ins) complexes simples) in
      let c = tally_joined (shows s.at) (shown_in complexes) (shown_in simples) in
      let d = complexes_shown in let e = simples_none in let f = streams_none in
      let few = all_few rules heads graphs sources s j number numbered in
      omega (arith, a, b, c, d, e, f, few)
