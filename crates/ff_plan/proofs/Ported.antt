-- Each open output pad of each graph of a plan is used once.
use Rattle.std.proofs.Common.{◌≡◌, ◌⊎◌, inl, inr, ℕ, zero, suc, ◌+◌, ◌-◌, ◌<◌, ◌≤◌, ◌==◌, ◌&&◌, Bool, true, false, cond, List, [], ◌∷◌, ◌++◌, map, length, Option, Some, None, refl, sym, ap, ◌∙◌, subst, arith}
use Rattle.std.proofs.lemmas.List.{map-append}
use Rattle.std.proofs.lemmas.List.Concat.{flat_map-append}
use Rattle.std.specs.Prelude.{slice_get, Ok}
use Rattle.std.specs.List.{AllByRecursion, flat_map, range_with_len}
use Rattle.std.specs.Str.{bytes_eq}
use Rattle.std.proofs.lemmas.Bool.Decides.{nat_tests}
use Rattle.ff_stream.specs.edges.Ports.{tally, shape_of, IsFed, HasOuts}
use Rattle.ff_frame.specs.declared.head.StreamHead.{StreamHead}
use Rattle.ff_graph_links.specs.labels.Order.{ComeInOrder, HasNoLoop, graph_order, feeds, is_in}
use Rattle.ff_words.specs.declared.job.Job.{Job}
use Rattle.ff_words.specs.declared.maps.streams.Stream.{Stream}
use Rattle.ff_words.specs.maps.Choice.{all_streams}
use Rattle.ff_words.specs.declared.job.OutputJob.{OutputJob}
use Rattle.ff_plan_layout.specs.declared.layout.InPad.{InPad}
use Rattle.ff_plan_layout.specs.declared.layout.Origin.{Origin}
use Rattle.ff_plan_layout.specs.declared.layout.OutStream.{OutStream}
use Rattle.ff_plan_layout.specs.declared.layout.Placed.{Placed}
use Rattle.ff_plan_layout.specs.laws.Graphs.{AreRules}
use Rattle.ff_plan_layout.specs.Labels.{taken_labels}
use Rattle.ff_plan_layout.specs.declared.layout.Laid.{Laid}
use Rattle.ff_plan_layout.specs.Layout.{IsLaid, IsAmong, Layout, placed, origins}
use Rattle.ff_plan.specs.laws.Laws.{GraphsHaveOuts}
use Rattle.ff_plan.specs.Nodes.{before_graphs, before_shortests, plan_of, wires_of}
use Rattle.ff_plan.specs.Wires.{edges_of}
use Rattle.ff_plan.specs.declared.planned.Plan.{Plan}
use Rattle.ff_plan_layout.specs.Order.{numbers}
use Rattle.ff_plan_layout.specs.declared.layout.Made.{Made}
use Rattle.ff_plan_layout.specs.Pads.{has_label, all_wants, unlabelled}
use Rattle.ff_plan_layout.specs.LaidOut.{labels_of, graphs_of, layout_of, laid_out}
use Rattle.ff_plan.specs.Planned.{planned}
use Rattle.ff_plan_layout.specs.declared.open_pads.OpenOut.{OpenOut}
use Rattle.ff_plan_layout.specs.Rules.{Rules}
use Rattle.ff_plan_layout.specs.declared.layout.Passed.{Passed}
use Rattle.ff_plan_layout.specs.Streams.{graph_of}
use Rattle.ff_plan_layout.proofs.Among.{among_either, among_map, each_of, of_flat}
use Rattle.ff_plan_layout.proofs.Counts.{below_range, tally_among, text_self, total, total_same, total_zero, total_map, tally_joined, tally_none, tally_same, tally_map, tally_flat}
use Rattle.ff_plan_layout.proofs.GraphNumbers.{number_of, range_above, rows_numbers}
use Rattle.ff_plan_layout.proofs.Given.{given_among}
use Rattle.ff_plan_layout.proofs.Graphed.{Stands, Walked, walked, walked_laid, laid, inside_of, ins_from, unlabelled_come, of_map, graph_number}
use Rattle.ff_plan.proofs.GraphWires.{node_outs}
use Rattle.ff_plan_layout.proofs.Kept.{among_at, at_below, below_at}
use Rattle.ff_plan.proofs.Layouts.{counted, fed}
use Rattle.ff_plan_layout.proofs.Sizes.{joined_length, less_or}
use Rattle.ff_plan_layout.proofs.Tests.{nat_self}
use Rattle.ff_plan_layout.proofs.Makings.{Comes, comes_left, shown_in}
use Rattle.ff_plan_layout.proofs.Once.{once_in, low_in, numbers_are, placed_sources, standing, used_once, label_is_open, complex_none, complex_own, streams_are}
use Rattle.ff_plan_layout.proofs.Outs.{IsPassed, AllPassed, AreOutputs, Passes, outputs_pass}
use Rattle.ff_plan_layout.proofs.Results.{same_ok, behind_ok}
use Rattle.ff_plan_layout.proofs.Uses.{pad_is, shows_pad, has_at, free_at, free_label}

pub range_few : (h a n : ℕ) → tally (λ x. x == h) (range_with_len a n) ≤ 1
range_few h a zero = omega arith
range_few h a (suc n) = step (a == h) refl (range_few h (a + 1) n) where
  step : (b : Bool) → (a == h) ≡ b → tally (λ x. x == h) (range_with_len (a + 1) n) ≤ 1
      → cond b (suc (tally (λ x. x == h) (range_with_len (a + 1) n))) (tally (λ x. x == h) (range_with_len (a + 1) n)) ≤ 1
  step true e rest = (let z = range_above h (a + 1) n (let lt : h < a + 1 = grind (arith, nat_tests, e) in lt) in omega (arith, z))
  step false e rest = rest

module _ (rules : Rules) (are : AreRules rules) (job : Job) (heads : List (List StreamHead)) (l : Layout) (w : Walked rules job heads l)
    (come : ComeInOrder (feeds job.graphs) (length job.graphs) [] (graph_order job.graphs))
    (all_in : HasNoLoop (feeds job.graphs) (length job.graphs) → (g : ℕ) → g < length job.graphs → is_in (graph_order job.graphs) g ≡ true)
    (some_outputs : 1 ≤ length job.outputs) where
  abbrev made : List Made
  made = w.made

  abbrev whole : Layout
  whole = layout_of rules job heads w.made w.rows

  abbrev simples : List Laid
  simples = flat_map (λ ps. flat_map graph_of ps) w.rows

  abbrev complexes : List Laid
  complexes = map (λ m. m.laid) w.made

  abbrev n : ℕ
  n = length job.graphs

  -- the streams that inputs of complex graphs can show
  abbrev shown : List Stream
  shown = shown_in rules heads job.graphs

  abbrev Passing : Passed → Type 0
  Passing p = Passes rules (inside_of heads job w.made) p

  pub passing : AllByRecursion (λ ps. AllByRecursion Passing ps) w.rows
  passing = outputs_pass rules (inside_of heads job w.made) (length job.graphs) (taken_labels job.graphs) (unlabelled w.made (numbers job.graphs)) job.outputs w.rows w.outputs (unlabelled_come (all_streams heads) w.made (numbers job.graphs))

  abbrev sources : List Laid → List Origin
  sources gs = flat_map (λ (x : Laid). map (λ (i : InPad). i.source) x.ins) gs

  -- ---- what simple graphs show are streams of inputs

  module _ (h q : ℕ) where
    simple_shows : (x : Laid) (p : Passed) → Passing p → IsAmong x (graph_of p) → tally (pad_is h q) (map (λ (i : InPad). i.source) x.ins) ≡ 0
    simple_shows x p t i = elim t.how [
      | inl e ↦ absurd (subst (λ (y : Passed). IsAmong x (graph_of y)) (sym e) i)
      | inr f ↦ elim (subst (λ (y : Passed). IsAmong x (graph_of y)) (sym f.is) i) [
        | inl same ↦ sym (ap (λ (y : Laid). tally (pad_is h q) (map (λ (i : InPad). i.source) y.ins)) same) ∙ ap (λ (o : Origin). tally (pad_is h q) (o ∷ [])) f.from
        | inr none ↦ absurd none
      ]
    ]

    simples_show : tally (pad_is h q) (sources simples) ≡ 0
    simples_show =
        tally_flat (pad_is h q) (λ (x : Laid). map (λ (i : InPad). i.source) x.ins) simples
        ∙ total_zero (λ (x : Laid). tally (pad_is h q) (map (λ (i : InPad). i.source) x.ins)) simples (λ x i.
        (let a = of_flat (λ (ps : List Passed). flat_map graph_of ps) x w.rows i in let b = of_flat graph_of x a.0 a.2 in
        simple_shows x b.0 (each_of Passing b.0 a.0 (each_of (λ ps. AllByRecursion Passing ps) a.0 w.rows passing a.1) b.1) b.2))

    abbrev by_stream : Passed → Bool
    by_stream p = pad_is h q p.what.source

    streams_show : tally (pad_is h q) (map (λ (p : Placed). p.what.source) (placed whole)) ≡ total (λ (ps : List Passed). tally by_stream ps) w.rows
    streams_show =
        ap (λ (os : List Origin). tally (pad_is h q) os) (placed_sources 0 0 (map (λ (ps : List Passed). map (λ (p : Passed). p.what) ps) w.rows))
        ∙ (tally_flat (pad_is h q) (λ (row : List OutStream). map (λ (s : OutStream). s.source) row) (map (λ (ps : List Passed). map (λ (p : Passed). p.what) ps) w.rows)
        ∙ (total_map (λ (row : List OutStream). tally (pad_is h q) (map (λ (s : OutStream). s.source) row)) (λ (ps : List Passed). map (λ (p : Passed). p.what) ps) w.rows
        ∙ total_same (λ (ps : List Passed). tally (pad_is h q) (map (λ (s : OutStream). s.source) (map (λ (p : Passed). p.what) ps))) (λ (ps : List Passed). tally by_stream ps) w.rows (λ ps i.
        tally_map (pad_is h q) (λ (s : OutStream). s.source) (map (λ (p : Passed). p.what) ps) ∙ tally_map (λ (s : OutStream). pad_is h q s.source) (λ (p : Passed). p.what) ps)))

    all_uses : tally (pad_is h q) (origins whole) ≡ tally (pad_is h q) (sources complexes) + total (λ (ps : List Passed). tally by_stream ps) w.rows
    all_uses =
        let outs = map (λ (p : Placed). p.what.source) (placed whole) in
        let a = tally_joined (pad_is h q) (sources (complexes ++ simples)) outs in
        let b = ap (λ (os : List Origin). tally (pad_is h q) os) (flat_map-append (λ (x : Laid). map (λ (i : InPad). i.source) x.ins) complexes simples) in
        let c = tally_joined (pad_is h q) (sources complexes) (sources simples) in
        let d = simples_show in let e = streams_show in
        omega (arith, a, b, c, d, e)

    -- ---- a simple graph's number is that of no complex one

    comes_low : (ks : List Stream) (i : InPad) → Comes ks made i → n ≤ h → pad_is h q i.source ≡ false
    comes_low ks i (inl s) le = ap (λ (j : InPad). pad_is h q j.source) (sym s.is)
    comes_low ks i (inr o) le =
        let s = each_of (Stands rules job.graphs (all_wants rules heads job.graphs) made) o.maker made (standing rules are job heads l w come all_in some_outputs) o.there in
        let low = s.low in let num = s.how.number in
        let off : ((o.maker.laid.graph == h) && (o.pad == q)) ≡ false = (let lt : o.maker.laid.graph < h = omega (arith, low, num, le) in grind (arith, nat_tests, lt)) in
        ap (λ (j : InPad). pad_is h q j.source) (sym o.is) ∙ off

    complexes_low : n ≤ h → tally (pad_is h q) (sources complexes) ≡ 0
    complexes_low le =
        tally_flat (pad_is h q) (λ (x : Laid). map (λ (i : InPad). i.source) x.ins) complexes
        ∙ total_zero (λ (x : Laid). tally (pad_is h q) (map (λ (i : InPad). i.source) x.ins)) complexes (λ x i.
        (let m = of_map (λ (m : Made). m.laid) x made i in
        let s = each_of (Stands rules job.graphs (all_wants rules heads job.graphs) made) m.0 made (standing rules are job heads l w come all_in some_outputs) m.1 in
        let from = ins_from rules job heads made w.rows come w.are_made m.0 s in
        subst (λ (y : Laid). tally (pad_is h q) (map (λ (i : InPad). i.source) y.ins) ≡ 0) m.2
        (tally_map (pad_is h q) (λ (i : InPad). i.source) m.0.laid.ins ∙ tally_none (shows_pad h q) m.0.laid.ins (λ j a.
        comes_low shown j (subst (λ (ms : List Made). Comes shown ms j) s.is (comes_left shown s.front (m.0 ∷ s.rest) j (each_of (Comes shown s.front) j m.0.laid.ins from a))) le))))

    stream_low : (p : Passed) → Passing p → n ≤ h → (1 ≤ q → by_stream p ≡ false) × (q ≡ 0 → cond (by_stream p) 1 0 ≡ tally (λ (x : Laid). x.graph == h) (graph_of p))
    stream_low p t le = elim t.how [
      | inl e ↦ (let off = ap (λ (y : Passed). pad_is h q y.what.source) (sym e) ∙ comes_low (all_streams heads) t.pad t.from le in
          (λ pos. off, λ z. ap (λ (b : Bool). cond b 1 0) off ∙ ap (λ (y : Passed). tally (λ (x : Laid). x.graph == h) (graph_of y)) e))
      | inr f ↦ (
        λ pos. ap (λ (y : Passed). pad_is h q y.what.source) (sym f.is) ∙ (let off : ((t.graph == h) && (0 == q)) ≡ false = grind (arith, nat_tests, pos) in off),
        λ z. ap (λ (y : Passed). cond (pad_is h q y.what.source) 1 0) (sym f.is)
            ∙ ((let same : ((t.graph == h) && (0 == q)) ≡ (t.graph == h) = grind (arith, nat_tests, z) in ap (λ (b : Bool). cond b 1 0) same)
            ∙ ap (λ (y : Passed). tally (λ (x : Laid). x.graph == h) (graph_of y)) f.is),
      )
    ]

    row_low : (ps : List Passed) → AllByRecursion Passing ps → n ≤ h → (1 ≤ q → tally by_stream ps ≡ 0) × (q ≡ 0 → tally by_stream ps ≡ tally (λ (x : Laid). x.graph == h) (flat_map graph_of ps))
    row_low [] all le = (λ pos. refl, λ z. refl)
    row_low (p ∷ ps) all le =
        let here = stream_low p all.0 le in let rest = row_low ps all.1 le in (
          λ pos. (let a = ap (λ (b : Bool). cond b (suc (tally by_stream ps)) (tally by_stream ps)) (here.0 pos) in let b = rest.0 pos in a ∙ b),
          λ z. (let a = here.1 z in let b = rest.1 z in let c = split (by_stream p) (tally by_stream ps) in
              let j = tally_joined (λ (x : Laid). x.graph == h) (graph_of p) (flat_map graph_of ps) in omega (arith, a, b, c, j)),
        ) where
          split : (b : Bool) (t : ℕ) → cond b (suc t) t ≡ cond b 1 0 + t
          split true t = omega arith
          split false t = omega arith

    rows_low : (rows : List (List Passed)) → AllByRecursion (λ ps. AllByRecursion Passing ps) rows → n ≤ h
        → (1 ≤ q → total (λ (ps : List Passed). tally by_stream ps) rows ≡ 0)
        × (q ≡ 0 → total (λ (ps : List Passed). tally by_stream ps) rows ≡ tally (λ (x : Laid). x.graph == h) (flat_map (λ ps. flat_map graph_of ps) rows))
    rows_low [] all le = (λ pos. refl, λ z. refl)
    rows_low (ps ∷ rows) all le =
        let here = row_low ps all.0 le in let rest = rows_low rows all.1 le in (
          λ pos. (let a = here.0 pos in let b = rest.0 pos in omega (arith, a, b)),
          λ z. (let a = here.1 z in let b = rest.1 z in let j = tally_joined (λ (x : Laid). x.graph == h) (flat_map graph_of ps) (flat_map (λ ps. flat_map graph_of ps) rows) in omega (arith, a, b, j)),
        )

  -- ---- each number once

  pub simple_numbers : map number_of simples ≡ range_with_len n (length simples)
  simple_numbers = rows_numbers rules (inside_of heads job w.made) n (taken_labels job.graphs) (unlabelled w.made (numbers job.graphs)) job.outputs w.rows w.outputs

  complex_numbers : map number_of complexes ≡ graph_order job.graphs
  complex_numbers = map_map w.made ∙ numbers_are rules job.graphs (all_wants rules heads job.graphs) [] (graph_order job.graphs) w.made w.are_made where
    map_map : (ms : List Made) → map number_of (map (λ (m : Made). m.laid) ms) ≡ map graph_number ms
    map_map [] = refl
    map_map (m ∷ ms) = ap (λ (ns : List ℕ). m.laid.graph ∷ ns) (map_map ms)

  pub numbered_once : (g : ℕ) → tally (λ (x : Laid). x.graph == g) whole.graphs ≤ 1
  numbered_once g =
      let j = tally_joined (λ (x : Laid). x.graph == g) complexes simples in
      let a = sym (tally_map (λ k. k == g) number_of complexes) ∙ ap (λ (ns : List ℕ). tally (λ k. k == g) ns) complex_numbers in
      let b = sym (tally_map (λ k. k == g) number_of simples) ∙ ap (λ (ns : List ℕ). tally (λ k. k == g) ns) simple_numbers in
      elim (less_or g n) [
        | inl lt ↦ (let c = once_in (feeds job.graphs) n [] (graph_order job.graphs) g come in let d = range_above g n (length simples) lt in omega (arith, j, a, b, c, d))
        | inr le ↦ (let c = tally_none (λ k. k == g) (graph_order job.graphs) (λ k i. (let lt = low_in (feeds job.graphs) n [] (graph_order job.graphs) k come i in
            let off : (k == g) ≡ false = grind (arith, nat_tests, lt, le) in off)) in let d = range_few g n (length simples) in omega (arith, j, a, b, c, d))
      ]

  -- ---- an open output pad of a complex graph

  no_label : (out : OpenOut) → out.label ≡ None → (label : List ℕ) → has_label label out ≡ false
  no_label out e label = ap (λ (o : Option (List ℕ)). has_label label (record { label = o; head = out.head })) e

  own_label : (out : OpenOut) (own : List ℕ) → out.label ≡ Some own → (label : List ℕ) → has_label label out ≡ bytes_eq own label
  own_label out own e label = ap (λ (o : Option (List ℕ)). has_label label (record { label = o; head = out.head })) e

  abbrev opened : Option OpenOut → ℕ
  opened None = 0
  opened (Some out) = 1

  abbrev StandsHere : Made → Type 0
  StandsHere m = Stands rules job.graphs (all_wants rules heads job.graphs) made m

  pub stands : AllByRecursion StandsHere made
  stands = standing rules are job heads l w come all_in some_outputs

  module _ (m : Made) (s : StandsHere m) (q : ℕ) where
    abbrev map_labels : List (List ℕ)
    map_labels = flat_map labels_of job.outputs

    abbrev At : Option OpenOut
    At = slice_get m.outs q

    abbrev Once : Option OpenOut → Type 0
    Once o = tally (pad_is s.number q) (origins whole) ≡ opened o

    shows_in : tally (pad_is s.number q) (origins whole) ≡ tally (pad_is s.number q) (sources complexes) + (free_at At + tally (λ label. has_at At label) map_labels)
    shows_in =
        let a = all_uses s.number q in
        let c = streams_are rules are job heads l w come all_in some_outputs m s q in
        omega (arith, a, c)

    unnamed : ((label : List ℕ) → has_at At label ≡ false) → tally (pad_is s.number q) (origins whole) ≡ free_at At
    unnamed off =
        let a = shows_in in
        let b = complex_none rules are job heads l w come all_in some_outputs m s q off in
        let d = tally_none (λ label. has_at At label) map_labels (λ label i. off label) in
        omega (arith, a, b, d)

    named : (own : List ℕ) → ((label : List ℕ) → has_at At label ≡ bytes_eq own label) → tally (pad_is s.number q) (origins whole) ≡ free_at At + 1
    named own is_own =
        let a = shows_in in
        let b = complex_own rules are job heads l w come all_in some_outputs m s q own is_own in
        let d = tally_same (λ label. has_at At label) (bytes_eq own) map_labels (λ label i. is_own label) in
        let given = (label_is_open rules are job heads l w come all_in some_outputs m s q own (is_own own ∙ text_self own)).0 in
        let e = used_once rules are job heads l w come all_in some_outputs own (given_among own job.graphs s.number s.how.text s.how.there given) in
        omega (arith, a, b, d, e)

    by_label : (out : OpenOut) (o : Option (List ℕ)) → At ≡ Some out → out.label ≡ o → Once (Some out)
    by_label out None e f =
        let a = unnamed (λ label. ap (λ (x : Option OpenOut). has_at x label) e ∙ no_label out f label) in
        let b = ap (λ (x : Option OpenOut). free_at x) e ∙ ap (λ (x : Option (List ℕ)). free_label x) f in
        a ∙ b
    by_label out (Some own) e f =
        let a = named own (λ label. ap (λ (x : Option OpenOut). has_at x label) e ∙ own_label out own f label) in
        let b : free_at At ≡ 0 = ap (λ (x : Option OpenOut). free_at x) e ∙ ap (λ (x : Option (List ℕ)). free_label x) f in
        omega (arith, a, b)

    by_out : (o : Option OpenOut) → At ≡ o → Once o
    by_out None e = unnamed (λ label. ap (λ (x : Option OpenOut). has_at x label) e) ∙ ap (λ (x : Option OpenOut). free_at x) e
    by_out (Some out) e = by_label out out.label e refl

    pub pad_once : tally (pad_is s.number q) (origins whole) ≡ opened At
    pad_once = by_out At refl

  -- ---- each node of a graph

  beyond : {A : Type 0} (xs : List A) (q : ℕ) (o : Option A) → slice_get xs q ≡ o → length xs ≤ q → o ≡ None
  beyond xs q None e le = refl
  beyond xs q (Some x) e le = absurd (let lt = below_at x xs q e in omega (arith, lt, le))

  -- how often a pad of a complex graph is shown, and of a simple one
  pub complex_count : (m : Made) → IsAmong m made → (q : ℕ) → (q < length m.outs → tally (pad_is m.laid.graph q) (origins whole) ≡ 1) × (length m.outs ≤ q → tally (pad_is m.laid.graph q) (origins whole) ≡ 0)
  complex_count m im q =
      let s = each_of StandsHere m made stands im in
      let number : s.number ≡ m.laid.graph = sym s.how.number in (
        λ lt. subst (λ (g : ℕ). tally (pad_is g q) (origins whole) ≡ 1) number (pad_once m s q ∙ (let there = at_below m.outs q lt in ap (λ (o : Option OpenOut). opened o) there.1)),
        λ le. subst (λ (g : ℕ). tally (pad_is g q) (origins whole) ≡ 0) number (pad_once m s q ∙ ap (λ (o : Option OpenOut). opened o) (beyond m.outs q (slice_get m.outs q) refl le)),
      )

  pub simple_count : (x : Laid) → IsAmong x simples → (q : ℕ) → (q < 1 → tally (pad_is x.graph q) (origins whole) ≡ 1) × (1 ≤ q → tally (pad_is x.graph q) (origins whole) ≡ 0)
  simple_count x i q =
      let number = below_range x.graph n (length simples) (subst (λ (ns : List ℕ). IsAmong x.graph ns) simple_numbers (among_map number_of x simples i)) in
      let le = number.0 in
      let least = tally_among (λ (y : Laid). y.graph == x.graph) x simples i (nat_self x.graph) in
      let most = sym (tally_map (λ j. j == x.graph) number_of simples) ∙ ap (λ (ns : List ℕ). tally (λ j. j == x.graph) ns) simple_numbers in
      let few = range_few x.graph n (length simples) in
      let a = all_uses x.graph q in let b = complexes_low x.graph q le in (
        λ lt. (let z : q ≡ 0 = omega (arith, lt) in let c = (rows_low x.graph q w.rows passing le).1 z in omega (arith, a, b, c, least, most, few)),
        λ pos. (let c = (rows_low x.graph q w.rows passing le).0 pos in omega (arith, a, b, c)),
      )

  module _ (laid : IsLaid whole) (k : ℕ) (low : before_graphs whole ≤ k) (high : k < before_shortests whole) (x : Laid) (at : slice_get whole.graphs (k - before_graphs whole) ≡ Some x) where
    complex_outs : (m : Made) → IsAmong m made → m.laid ≡ x → HasOuts (edges_of (wires_of whole)) k
    complex_outs m im e = node_outs whole laid k low high x at (numbered_once x.graph) (length m.outs)
        (λ q lt. subst (λ (y : Laid). tally (pad_is y.graph q) (origins whole) ≡ 1) e ((complex_count m im q).0 lt)) (λ q le. subst (λ (y : Laid). tally (pad_is y.graph q) (origins whole) ≡ 0) e ((complex_count m im q).1 le))

    simple_outs : IsAmong x simples → HasOuts (edges_of (wires_of whole)) k
    simple_outs i = node_outs whole laid k low high x at (numbered_once x.graph) 1 (λ q lt. (simple_count x i q).0 lt) (λ q pos. (simple_count x i q).1 pos)

    pub node_has_outs : HasOuts (edges_of (wires_of whole)) k
    node_has_outs = elim (among_either x complexes simples (among_at x whole.graphs (k - before_graphs whole) at)) [
      | inl c ↦ (let m = of_map (λ (m : Made). m.laid) x made c in complex_outs m.0 m.1 m.2)
      | inr s ↦ simple_outs s
    ]

  whole_outs : IsLaid whole → GraphsHaveOuts whole
  whole_outs laid = λ k low high.
      (let long : k - before_graphs whole < length whole.graphs = omega (arith, low, high) in
      let x = at_below whole.graphs (k - before_graphs whole) long in
      node_has_outs laid k low high x.0 x.1)

  pub graphs_outs : GraphsHaveOuts l
  graphs_outs = subst GraphsHaveOuts w.is (whole_outs (subst IsLaid (sym w.is) (walked_laid rules job heads l come w)))

module _ (rules : Rules) (are : AreRules rules) (job : Job) (heads : List (List StreamHead)) where
  abbrev IsOrder : Type 0
  IsOrder = ComeInOrder (feeds job.graphs) (length job.graphs) [] (graph_order job.graphs)

  abbrev HasAll : Type 0
  HasAll = HasNoLoop (feeds job.graphs) (length job.graphs) → (g : ℕ) → g < length job.graphs → is_in (graph_order job.graphs) g ≡ true

  pub have_outs : (l : Layout) → IsOrder → HasAll → 1 ≤ length job.outputs → laid_out rules job heads ≡ Ok l → GraphsHaveOuts l
  have_outs l come all_in some h = graphs_outs rules are job heads l (walked rules job heads l come h) come all_in some

  pub plan_fed : (p : Plan) → IsOrder → HasAll → 1 ≤ length job.outputs → planned rules job heads ≡ Ok p → IsFed (shape_of p.edges) (length p.nodes) p.edges
  plan_fed p come all_in some h =
      let at = behind_ok (laid_out rules job heads) (λ l. Ok (plan_of l)) p h in
      let l = at.0 in
      let all = fed l (laid rules job heads l come at.1) (have_outs l come all_in some at.1) in
      subst (λ (q : Plan). IsFed (shape_of q.edges) (length q.nodes) q.edges) (same_ok (plan_of l) p at.2) (subst (λ (n : ℕ). IsFed (shape_of (plan_of l).edges) n (plan_of l).edges) (sym (counted l)) all)
