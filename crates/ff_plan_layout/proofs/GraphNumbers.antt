-- The numbers of the graphs of a layout stand once each.
use Rattle.std.proofs.Common.{◌≡◌, ◌⊎◌, inl, inr, ℕ, zero, suc, ◌+◌, ◌<◌, ◌≤◌, ◌==◌, Bool, true, false, cond, List, [], ◌∷◌, ◌++◌, map, length, refl, sym, ap, ◌∙◌, subst, arith}
use Rattle.std.proofs.lemmas.List.{map-append}
use Rattle.std.proofs.lemmas.Bool.Decides.{nat_tests}
use Rattle.std.specs.Prelude.{Ok}
use Rattle.std.specs.List.{flat_map, range_with_len}
use Rattle.ff_stream.specs.edges.Ports.{tally}
use Rattle.ff_graph_links.specs.labels.Order.{ComeInOrder, HasNoLoop, graph_order, feeds, is_in}
use Rattle.ff_frame.specs.declared.head.StreamHead.{StreamHead}
use Rattle.ff_words.specs.declared.job.Job.{Job}
use Rattle.ff_words.specs.declared.job.OutputJob.{OutputJob}
use Rattle.ff_plan_layout.specs.declared.layout.InPad.{InPad}
use Rattle.ff_plan_layout.specs.Labels.{taken_labels}
use Rattle.ff_plan_layout.specs.LaidOut.{labels_of, graphs_of, layout_of, laid_out}
use Rattle.ff_plan_layout.specs.Layout.{Laid, Layout}
use Rattle.ff_plan_layout.specs.Order.{numbers}
use Rattle.ff_plan_layout.specs.Pads.{Made, all_wants, unlabelled}
use Rattle.ff_plan_layout.specs.Rules.{Rules}
use Rattle.ff_plan_layout.specs.Streams.{Passed, graph_of}
use Rattle.ff_plan_layout.proofs.Counts.{once_length, tally_joined, tally_none}
use Rattle.ff_plan_layout.proofs.Graphed.{Walked, walked, inside_of}
use Rattle.ff_plan_layout.proofs.Sizes.{joined_length, less_or, map_length}
use Rattle.ff_plan_layout.proofs.Once.{low_in, once_in, in_tally, has_no_loop, numbers_are}
use Rattle.ff_plan_layout.proofs.Outs.{IsPassed, AllPassed, AreOutputs}
use Rattle.ff_plan_layout.proofs.Tests.{is_same}

-- ---- numbers in a row

range_join : (a m k : ℕ) → range_with_len a m ++ range_with_len (a + m) k ≡ range_with_len a (m + k)
range_join a zero k = ap (λ (b : ℕ). range_with_len b k) (omega arith) ∙ ap (λ (n : ℕ). range_with_len a n) (omega arith)
range_join a (suc m) k =
    ap (λ (b : ℕ). a ∷ (range_with_len (a + 1) m ++ range_with_len b k)) (omega arith)
    ∙ (ap (λ (ns : List ℕ). a ∷ ns) (range_join (a + 1) m k) ∙ ap (λ (n : ℕ). range_with_len a n) (let e : suc (m + k) ≡ suc m + k = omega arith in e))

pub range_above : (h a n : ℕ) → h < a → tally (λ x. x == h) (range_with_len a n) ≡ 0
range_above h a zero lt = refl
range_above h a (suc n) lt =
    let off : (a == h) ≡ false = grind (arith, nat_tests, lt) in
    ap (λ (b : Bool). cond b (suc (tally (λ x. x == h) (range_with_len (a + 1) n))) (tally (λ x. x == h) (range_with_len (a + 1) n))) off ∙ range_above h (a + 1) n (omega (arith, lt))

-- ---- the numbers of simple graphs

abbrev pub number_of : Laid → ℕ
number_of x = x.graph

module _ (rules : Rules) where
  own_graph : (out : OutputJob) (g : ℕ) (i : InPad) (p : Passed) → IsPassed rules out g i p → (graph_of p ≡ []) ⊎ ((x : Laid) × (graph_of p ≡ x ∷ []) × (x.graph ≡ g))
  own_graph out g i p (inl e) = inl (ap graph_of (sym e))
  own_graph out g i p (inr f) = inr (record { graph = g; ins = i ∷ [] }, ap graph_of (sym f.is), refl)

  row_numbers : (out : OutputJob) (g : ℕ) (is : List InPad) (ps : List Passed) → AllPassed rules out g is ps → map number_of (flat_map graph_of ps) ≡ range_with_len g (graphs_of ps)
  row_numbers out g [] [] s = refl
  row_numbers out g [] (p ∷ ps) s = absurd s
  row_numbers out g (i ∷ is) [] s = absurd s
  row_numbers out g (i ∷ is) (p ∷ ps) s = step (own_graph out g i p s.0) (row_numbers out (g + length (graph_of p)) is ps s.1) where
    rest : List Laid
    rest = flat_map graph_of ps

    step : (graph_of p ≡ []) ⊎ ((x : Laid) × (graph_of p ≡ x ∷ []) × (x.graph ≡ g)) → map number_of (flat_map graph_of ps) ≡ range_with_len (g + length (graph_of p)) (graphs_of ps)
        → map number_of (graph_of p ++ flat_map graph_of ps) ≡ range_with_len g (length (graph_of p ++ flat_map graph_of ps))
    step (inl none) e =
        let at : g + length (graph_of p) ≡ g = (let z = ap (λ (xs : List Laid). length xs) none in omega (arith, z)) in
        ap (λ (xs : List Laid). map number_of (xs ++ flat_map graph_of ps)) none
        ∙ (e ∙ (ap (λ (n : ℕ). range_with_len n (graphs_of ps)) at ∙ ap (λ (xs : List Laid). range_with_len g (length (xs ++ flat_map graph_of ps))) (sym none)))
    step (inr (x, one, num)) e =
        let at : g + length (graph_of p) ≡ g + 1 = (let z = ap (λ (xs : List Laid). length xs) one in omega (arith, z)) in
        ap (λ (xs : List Laid). map number_of (xs ++ flat_map graph_of ps)) one
        ∙ (ap (λ (n : ℕ). n ∷ map number_of (flat_map graph_of ps)) num
        ∙ (ap (λ (ns : List ℕ). g ∷ ns) (e ∙ ap (λ (n : ℕ). range_with_len n (graphs_of ps)) at)
        ∙ ap (λ (xs : List Laid). range_with_len g (length (xs ++ flat_map graph_of ps))) (sym one)))

  pub rows_numbers : (inside : _) (g : ℕ) (used : List (List ℕ)) (before : List InPad) (outs : List OutputJob) (rows : List (List Passed)) → AreOutputs rules inside g used before outs rows
      → map number_of (flat_map (λ ps. flat_map graph_of ps) rows) ≡ range_with_len g (length (flat_map (λ ps. flat_map graph_of ps) rows))
  rows_numbers inside g used before [] [] s = refl
  rows_numbers inside g used before [] (ps ∷ rows) s = absurd s
  rows_numbers inside g used before (out ∷ outs) [] s = absurd s
  rows_numbers inside g used before (out ∷ outs) (ps ∷ rows) s =
      let later = flat_map (λ (qs : List Passed). flat_map graph_of qs) rows in
      map-append number_of (flat_map graph_of ps) later
      ∙ (ap (λ (ns : List ℕ). ns ++ map number_of later) (row_numbers out g s.0 ps s.2)
      ∙ (ap (λ (ns : List ℕ). range_with_len g (graphs_of ps) ++ ns) (rows_numbers inside (g + graphs_of ps) (labels_of out ++ used) [] outs rows s.3)
      ∙ (range_join g (graphs_of ps) (length later) ∙ ap (λ (n : ℕ). range_with_len g n) (sym (joined_length (flat_map graph_of ps) later)))))

pub map_twice : {A B C : Type 0} (f : B → C) (g : A → B) (xs : List A) → map (λ x. f (g x)) xs ≡ map f (map g xs)
map_twice f g [] = refl
map_twice {A} {B} {C} f g (x ∷ xs) = ap (λ (ys : List C). f (g x) ∷ ys) (map_twice f g xs)

range_one : (h a n : ℕ) → a ≤ h → h < a + n → tally (λ x. x == h) (range_with_len a n) ≡ 1
range_one h a zero le lt = absurd (omega (arith, le, lt))
range_one h a (suc n) le lt = step (a == h) refl (λ above. range_one h (a + 1) n above (omega (arith, lt))) where
  step : (b : Bool) → (a == h) ≡ b → (a + 1 ≤ h → tally (λ x. x == h) (range_with_len (a + 1) n) ≡ 1)
      → cond b (suc (tally (λ x. x == h) (range_with_len (a + 1) n))) (tally (λ x. x == h) (range_with_len (a + 1) n)) ≡ 1
  step true e rest = (let same = is_same a h e in let z = range_above h (a + 1) n (omega (arith, same)) in omega (arith, z))
  step false e rest = rest (let above : a + 1 ≤ h = grind (arith, nat_tests, e, le) in above)

range_beyond : (h a n : ℕ) → a + n ≤ h → tally (λ x. x == h) (range_with_len a n) ≡ 0
range_beyond h a zero le = refl
range_beyond h a (suc n) le =
    let off : (a == h) ≡ false = (let lt : a < h = omega (arith, le) in grind (arith, nat_tests, lt)) in
    ap (λ (b : Bool). cond b (suc (tally (λ x. x == h) (range_with_len (a + 1) n))) (tally (λ x. x == h) (range_with_len (a + 1) n))) off ∙ range_beyond h (a + 1) n (omega (arith, le))

module _ (rules : Rules) (job : Job) (heads : List (List StreamHead)) (l : Layout) (w : Walked rules job heads l)
    (come : ComeInOrder (feeds job.graphs) (length job.graphs) [] (graph_order job.graphs))
    (all_in : HasNoLoop (feeds job.graphs) (length job.graphs) → (g : ℕ) → g < length job.graphs → is_in (graph_order job.graphs) g ≡ true) where
  abbrev whole : Layout
  whole = layout_of rules job heads w.made w.rows

  abbrev simples : List Laid
  simples = flat_map (λ ps. flat_map graph_of ps) w.rows

  abbrev complexes : List Laid
  complexes = map (λ m. m.laid) w.made

  abbrev n : ℕ
  n = length job.graphs

  abbrev graph_numbers : List ℕ
  graph_numbers = map (λ (x : Laid). x.graph) whole.graphs

  complex_numbers : map (λ (x : Laid). x.graph) complexes ≡ graph_order job.graphs
  complex_numbers = sym (map_twice (λ (x : Laid). x.graph) (λ (m : Made). m.laid) w.made) ∙ numbers_are rules job.graphs (all_wants rules heads job.graphs) [] (graph_order job.graphs) w.made w.are_made

  simple_numbers : map (λ (x : Laid). x.graph) simples ≡ range_with_len n (length simples)
  simple_numbers = rows_numbers rules (inside_of heads job w.made) n (taken_labels job.graphs) (unlabelled w.made (numbers job.graphs)) job.outputs w.rows w.outputs

  order_count : (q : ℕ) → (q < n → tally (λ x. x == q) (graph_order job.graphs) ≡ 1) × (n ≤ q → tally (λ x. x == q) (graph_order job.graphs) ≡ 0)
  order_count q = (
    λ lt. (let least = in_tally q (graph_order job.graphs) (all_in (has_no_loop rules job.graphs w.loops) q lt) in
        let most = once_in (feeds job.graphs) n [] (graph_order job.graphs) q come in omega (arith, least, most)),
    λ le. tally_none (λ x. x == q) (graph_order job.graphs) (λ x i. (let lt = low_in (feeds job.graphs) n [] (graph_order job.graphs) x come i in
        let off : (x == q) ≡ false = grind (arith, nat_tests, lt, le) in off)),
  )

  both_counts : (q : ℕ) → tally (λ x. x == q) graph_numbers ≡ tally (λ x. x == q) (graph_order job.graphs) + tally (λ x. x == q) (range_with_len n (length simples))
  both_counts q =
      ap (λ (ns : List ℕ). tally (λ x. x == q) ns) (map-append (λ (x : Laid). x.graph) complexes simples)
      ∙ (tally_joined (λ x. x == q) (map (λ (x : Laid). x.graph) complexes) (map (λ (x : Laid). x.graph) simples)
      ∙ (ap (λ (ns : List ℕ). tally (λ x. x == q) ns + tally (λ x. x == q) (map (λ (x : Laid). x.graph) simples)) complex_numbers
      ∙ ap (λ (ns : List ℕ). tally (λ x. x == q) (graph_order job.graphs) + tally (λ x. x == q) ns) simple_numbers))

  pub all_once : (q : ℕ) → q < n + length simples → tally (λ x. x == q) graph_numbers ≡ 1
  all_once q lt =
      let both = both_counts q in let order = order_count q in
      elim (less_or q n) [
        | inl less ↦ (let a = order.0 less in let b = range_above q n (length simples) less in omega (arith, both, a, b))
        | inr le ↦ (let a = order.1 le in let b = range_one q n (length simples) le lt in omega (arith, both, a, b))
      ]

  pub none_above : (q : ℕ) → n + length simples ≤ q → tally (λ x. x == q) graph_numbers ≡ 0
  none_above q le =
      let both = both_counts q in let a = (order_count q).1 (omega (arith, le)) in let b = range_beyond q n (length simples) le in
      omega (arith, both, a, b)

pub few_laid : (rules : Rules) (job : Job) (heads : List (List StreamHead)) (l : Layout) → ComeInOrder (feeds job.graphs) (length job.graphs) [] (graph_order job.graphs)
    → (HasNoLoop (feeds job.graphs) (length job.graphs) → (g : ℕ) → g < length job.graphs → is_in (graph_order job.graphs) g ≡ true)
    → laid_out rules job heads ≡ Ok l → length l.graphs ≤ 16
few_laid rules job heads l come all_in h =
    let w = walked rules job heads l come h in
    let numbers_are = graph_numbers rules job heads l w come all_in in
    let d = map_length (λ (x : Laid). x.graph) (layout_of rules job heads w.made w.rows).graphs in
    let e = once_length (length job.graphs + length (simples rules job heads l w come all_in)) numbers_are (all_once rules job heads l w come all_in) (none_above rules job heads l w come all_in) in
    let wide = w.few_graphs in
    subst (λ (q : Layout). length q.graphs ≤ 16) w.is (omega (arith, d, e, wide))
