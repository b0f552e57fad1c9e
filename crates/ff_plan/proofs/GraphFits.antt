-- What stands at the ports of the nodes of graphs.
use Rattle.std.proofs.Common.{◌≡◌, ◌⊎◌, inl, inr, ℕ, zero, suc, ◌+◌, ◌-◌, ◌<◌, ◌≤◌, ◌==◌, ◌||◌, Bool, true, false, cond, List, [], ◌∷◌, ◌++◌, map, length, Option, Some, None, refl, sym, ap, ◌∙◌, subst, arith}
use Rattle.std.specs.Prelude.{nat_lt, slice_get, slice_index_or, IsSome, Ok}
use Rattle.ff_words.specs.declared.maps.streams.Stream.{Stream}
use Rattle.ff_words.specs.maps.Choice.{all_streams}
use Rattle.ff_plan_layout.specs.Sources.{source_streams, sources_of}
use Rattle.ff_plan.specs.declared.planned.Plan.{Plan}
use Rattle.ff_plan.specs.declared.planned.PlanNode.{PlanNode}
use Rattle.ff_plan.specs.declared.planned.PlanNode.TheVariants as node
use Rattle.ff_plan_layout.specs.Labels.{taken_labels}
use Rattle.ff_plan_layout.proofs.Results.{same_ok, behind_ok}
use Rattle.std.specs.List.{AllByRecursion, list_any, filter_map, flat_map, cons_option, range_with_len}
use Rattle.ff_stream.specs.edges.Ports.{tally}
use Rattle.ff_stream.specs.declared.item.Lane.{Lane}
use Rattle.ff_stream.specs.declared.item.Lane.TheVariants.{Frames}
use Rattle.ff_lang.specs.declared.graph.Graph.{Graph}
use Rattle.ff_words.specs.declared.maps.map.Kind.{Kind}
use Rattle.ff_frame.specs.declared.head.StreamHead.{StreamHead}
use Rattle.ff_graph_links.specs.labels.Order.{ComeInOrder, HasNoLoop, graph_order, feeds, is_in}
use Rattle.ff_words.specs.declared.job.Job.{Job}
use Rattle.ff_words.specs.declared.job.OutputJob.{OutputJob}
use Rattle.ff_plan_layout.specs.declared.layout.InPad.{InPad}
use Rattle.ff_plan_layout.specs.declared.layout.Origin.{Origin}
use Rattle.ff_plan_layout.specs.declared.layout.Origin.TheVariants as origin
use Rattle.ff_plan_layout.specs.declared.layout.OutStream.{OutStream}
use Rattle.ff_plan_layout.specs.declared.layout.Placed.{Placed}
use Rattle.ff_plan_layout.specs.Choice.{kind_of}
use Rattle.ff_plan_layout.specs.laws.Graphs.{AreRules}
use Rattle.ff_plan.specs.laws.GraphFits.{FitsGraph, GraphsFit}
use Rattle.ff_plan_layout.specs.declared.layout.GraphText.{GraphText}
use Rattle.ff_plan_layout.specs.declared.layout.GraphText.TheVariants.{Complex}
use Rattle.ff_plan_layout.specs.Texts.{simple_in, graph_text, simple_or_null, texts_of_laid, texts_of_row, texts_from}
use Rattle.ff_plan_layout.specs.declared.layout.Laid.{Laid}
use Rattle.ff_plan_layout.specs.Layout.{IsLaid, IsAmong, Layout, placed, used, used_inputs}
use Rattle.ff_plan.specs.Nodes.{start_node, before_graphs, before_shortests, output_numbers, nodes_of, wires_of, plan_of}
use Rattle.ff_plan_layout.specs.Order.{numbers}
use Rattle.ff_plan_layout.specs.declared.layout.Want.{Want}
use Rattle.ff_plan_layout.specs.declared.layout.Made.{Made}
use Rattle.ff_plan_layout.specs.Pads.{all_wants, made_at, pad_in, head_in, unlabelled}
use Rattle.ff_plan_layout.specs.LaidOut.{labels_of, graphs_of, layout_of, laid_out}
use Rattle.ff_plan.specs.Planned.{planned}
use Rattle.ff_plan_layout.specs.declared.open_pads.OpenOut.{OpenOut}
use Rattle.ff_plan_layout.specs.Rules.{Rules}
use Rattle.ff_plan_layout.specs.declared.layout.Passed.{Passed}
use Rattle.ff_plan_layout.specs.Streams.{Inside, graph_of, null_graph, simple_of}
use Rattle.ff_plan.specs.Wires.{edges_of}
use Rattle.ff_plan_layout.proofs.Among.{never, all_map, among_either, among_left, among_right, among_flat, among_map, each_of, of_flat}
use Rattle.ff_plan_layout.proofs.Counts.{below_range, tally_any, tally_joined, tally_among}
use Rattle.ff_plan_layout.proofs.Graphed.{Stands, Walked, walked, walked_laid, inside_of, ins_from, of_map}
use Rattle.ff_plan.proofs.GraphLanes.{into_graph, out_of_graph}
use Rattle.ff_plan_layout.proofs.Kept.{nothing, same_some, among_at, at_map, below_at}
use Rattle.ff_plan_layout.proofs.Sizes.{map_length, range_length, place_holds}
use Rattle.ff_plan_layout.proofs.Tests.{nat_self, tally_hit}
use Rattle.ff_plan_layout.proofs.Makings.{Comes, comes_left, comes_right, shown_in}
use Rattle.ff_plan_layout.proofs.Once.{in_all, had, clear_at}
use Rattle.ff_plan_layout.proofs.Outs.{IsFiltered, IsPassed, AllPassed, AreOutputs, Passes}
use Rattle.ff_plan.proofs.Ported.{stands, passing, simple_numbers, complex_count, simple_count, numbered_once}

-- ---- which pad a source is

abbrev graph_in : Origin → ℕ
graph_in (origin.Stream s) = 0
graph_in (origin.Pad g p) = g

abbrev port_in : Origin → ℕ
port_in (origin.Stream s) = 0
port_in (origin.Pad g p) = p

abbrev IsStream : Origin → Type 0
IsStream (origin.Stream s) = Unit {0}
IsStream (origin.Pad g p) = ⊥

-- ---- all heads that a graph was made with are there

pub all_there : (made : List Made) (ws : List Want) → AllByRecursion (λ (h : Option StreamHead). IsSome h) (map (λ w. head_in (pad_in made w)) ws)
    → map (λ w. head_in (pad_in made w)) ws ≡ map (λ (h : StreamHead). Some h) (map (λ (i : InPad). i.head) (filter_map (pad_in made) ws))
all_there made [] all = refl
all_there made (w ∷ ws) all = step (pad_in made w) all.0 (all_there made ws all.1) where
  step : (o : Option InPad) → IsSome (head_in o)
      → map (λ w. head_in (pad_in made w)) ws ≡ map (λ (h : StreamHead). Some h) (map (λ (i : InPad). i.head) (filter_map (pad_in made) ws))
      → head_in o ∷ map (λ w. head_in (pad_in made w)) ws ≡ map (λ (h : StreamHead). Some h) (map (λ (i : InPad). i.head) (cons_option o (filter_map (pad_in made) ws)))
  step (Some i) some rest = ap (λ (hs : List (Option StreamHead)). Some i.head ∷ hs) rest
  step None some rest = absurd (never some)

length_some : {A : Type 0} (hs : List StreamHead) (xs : List A) {os : List (Option StreamHead)} → map (λ (h : StreamHead). Some h) hs ≡ os → length os ≡ length xs → length hs ≡ length xs
length_some hs xs e long = sym (map_length (λ (h : StreamHead). Some h) hs) ∙ (ap (λ (os : List (Option StreamHead)). length os) e ∙ long)

frames_of : (is : List InPad) → map (λ (i : InPad). Frames i.head) is ≡ map (λ (h : StreamHead). Frames h) (map (λ (i : InPad). i.head) is)
frames_of [] = refl
frames_of (i ∷ is) = ap (λ (ls : List Lane). Frames i.head ∷ ls) (frames_of is)

-- ---- one alone

pub only_one : {A : Type 0} (p : A → Bool) (a b : A) (xs : List A) → tally p xs ≤ 1 → IsAmong a xs → IsAmong b xs → p a ≡ true → p b ≡ true → a ≡ b
only_one p a b [] few ia ib ea eb = absurd ia
only_one p a b (x ∷ xs) few (inl same) (inl other) ea eb = sym same ∙ other
only_one p a b (x ∷ xs) few (inl same) (inr j) ea eb = absurd (let t = tally_hit p x xs (ap p same ∙ ea) in let u = tally_among p b xs j eb in omega (arith, t, u, few))
only_one p a b (x ∷ xs) few (inr i) (inl other) ea eb = absurd (let t = tally_hit p x xs (ap p other ∙ eb) in let u = tally_among p a xs i ea in omega (arith, t, u, few))
only_one p a b (x ∷ xs) few (inr i) (inr j) ea eb = only_one p a b xs (step (p x) few) i j ea eb where
  step : (c : Bool) → cond c (suc (tally p xs)) (tally p xs) ≤ 1 → tally p xs ≤ 1
  step true h = omega (arith, h)
  step false h = h

-- ---- the places of two lists in a row

pub get_left : {A : Type 0} (xs ys : List A) (k : ℕ) (x : A) → slice_get xs k ≡ Some x → slice_get (xs ++ ys) k ≡ Some x
get_left [] ys k x e = absurd (nothing x e)
get_left (z ∷ zs) ys zero x e = e
get_left (z ∷ zs) ys (suc k) x e = get_left zs ys k x e

pub get_right : {A : Type 0} (xs ys : List A) (m k : ℕ) → m ≡ length xs + k → slice_get (xs ++ ys) m ≡ slice_get ys k
get_right [] ys m k e = ap (λ (j : ℕ). slice_get ys j) (omega (arith, e))
get_right (x ∷ xs) ys zero k e = absurd (omega (arith, e))
get_right (x ∷ xs) ys (suc m) k e = get_right xs ys m k (omega (arith, e))

-- it is in the first, or so far in the second
pub get_either : {A : Type 0} (xs ys : List A) (m : ℕ) (y : A) → slice_get (xs ++ ys) m ≡ Some y → (slice_get xs m ≡ Some y) ⊎ ((k : ℕ) × (m ≡ length xs + k) × (slice_get ys k ≡ Some y))
get_either [] ys m y e = inr (m, omega arith, e)
get_either (x ∷ xs) ys zero y e = inl e
get_either (x ∷ xs) ys (suc m) y e = elim (get_either xs ys m y e) [ inl a ↦ inl a | inr b ↦ (let n = b.1 in inr (b.0, omega (arith, n), b.2)) ]

get_range : (a n i : ℕ) → i < n → slice_get (range_with_len a n) i ≡ Some (a + i)
get_range a zero i lt = absurd (omega (arith, lt))
get_range a (suc n) zero lt = ap (λ (k : ℕ). Some k) (let e : a ≡ a + 0 = omega arith in e)
get_range a (suc n) (suc i) lt = get_range (a + 1) n i (omega (arith, lt)) ∙ ap (λ (k : ℕ). Some k) (let e : a + 1 + i ≡ a + suc i = omega arith in e)

pub get_map : {A B : Type 0} (f : A → B) (xs : List A) (i : ℕ) (x : A) → slice_get xs i ≡ Some x → slice_get (map f xs) i ≡ Some (f x)
get_map f [] i x e = absurd (nothing x e)
get_map f (y ∷ ys) zero x e = ap (λ (z : _). Some (f z)) (same_some y x e)
get_map f (y ∷ ys) (suc i) x e = get_map f ys i x e

-- ---- the simple graph at a place

-- the output that it is of, the stream that passes through it, and where its text stands
pub record IsSimple (rules : Rules) (outputs : List OutputJob) (all : List Passed) (texts : List GraphText) (first t : ℕ) (x : Laid) : Type 0 where
  pub number : ℕ
  pub place : number ≡ first + t
  pub output : ℕ
  pub out : OutputJob
  pub out_is : slice_get outputs output ≡ Some out
  pub pad : InPad
  pub passed : Passed
  pub there : IsAmong passed all
  pub how : IsFiltered rules out number pad passed
  pub is : x ≡ record { graph = number; ins = pad ∷ [] }
  pub text : slice_get texts t ≡ Some (simple_or_null output (kind_of pad.head) (simple_of out (kind_of pad.head)))

module _ (rules : Rules) (outputs : List OutputJob) (all : List Passed) where
  moved : (texts more : List GraphText) (first g t u : ℕ) (x : Laid) → IsSimple rules outputs all texts first t x → first + t ≡ g + u → slice_get more u ≡ slice_get texts t
      → IsSimple rules outputs all more g u x
  moved texts more first g t u x r e same = record {
    number = r.number;
    place = r.place ∙ e;
    output = r.output;
    out = r.out;
    out_is = r.out_is;
    pad = r.pad;
    passed = r.passed;
    there = r.there;
    how = r.how;
    is = r.is;
    text = same ∙ r.text;
  }

  module _ (o : ℕ) (out : OutputJob) (oe : slice_get outputs o ≡ Some out) where
    step_at : (g : ℕ) (i : InPad) (p : Passed) (later : List Laid) → IsAmong p all → IsPassed rules out g i p → (u : ℕ) (x : Laid) → slice_get (graph_of p ++ later) u ≡ Some x
        → ((v : ℕ) → slice_get later v ≡ Some x → IsSimple rules outputs all (flat_map (texts_of_laid o out) later) (g + length (graph_of p)) v x)
        → IsSimple rules outputs all (flat_map (texts_of_laid o out) (graph_of p ++ later)) g u x
    step_at g i p later there (inl a) u x f rest =
        let none : graph_of p ≡ [] = ap graph_of (sym a) in
        let long = ap (λ (xs : List Laid). length xs) none in
        moved (flat_map (texts_of_laid o out) later) (flat_map (texts_of_laid o out) (graph_of p ++ later)) (g + length (graph_of p)) g u u x
        (rest u (ap (λ (xs : List Laid). slice_get (xs ++ later) u) (sym none) ∙ f)) (omega (arith, long)) (ap (λ (xs : List Laid). slice_get (flat_map (texts_of_laid o out) (xs ++ later)) u) none)
    step_at g i p later there (inr f0) zero x f rest =
        let own : Laid = record { graph = g; ins = i ∷ [] } in
        let one : graph_of p ≡ own ∷ [] = ap graph_of (sym f0.is) in
        record {
          number = g;
          place = omega arith;
          output = o;
          out = out;
          out_is = oe;
          pad = i;
          passed = p;
          there = there;
          how = f0;
          is = sym (same_some own x (ap (λ (xs : List Laid). slice_get (xs ++ later) zero) (sym one) ∙ f));
          text = ap (λ (xs : List Laid). slice_get (flat_map (texts_of_laid o out) (xs ++ later)) zero) one;
        }
    step_at g i p later there (inr f0) (suc u) x f rest =
        let own : Laid = record { graph = g; ins = i ∷ [] } in
        let one : graph_of p ≡ own ∷ [] = ap graph_of (sym f0.is) in
        let long = ap (λ (xs : List Laid). length xs) one in
        moved (flat_map (texts_of_laid o out) later) (flat_map (texts_of_laid o out) (graph_of p ++ later)) (g + length (graph_of p)) g u (suc u) x
        (rest u (ap (λ (xs : List Laid). slice_get (xs ++ later) (suc u)) (sym one) ∙ f)) (omega (arith, long)) (ap (λ (xs : List Laid). slice_get (flat_map (texts_of_laid o out) (xs ++ later)) (suc u)) one)

    row_at : (g : ℕ) (is : List InPad) (ps : List Passed) → AllPassed rules out g is ps → ((p : Passed) → IsAmong p ps → IsAmong p all)
        → (t : ℕ) (x : Laid) → slice_get (flat_map graph_of ps) t ≡ Some x → IsSimple rules outputs all (texts_of_row o out ps) g t x
    row_at g [] [] s each t x e = absurd (nothing x e)
    row_at g [] (p ∷ ps) s each t x e = absurd s
    row_at g (i ∷ is) [] s each t x e = absurd s
    row_at g (i ∷ is) (p ∷ ps) s each t x e =
        step_at g i p (flat_map graph_of ps) (each p (inl refl)) s.0 t x e (λ u f. row_at (g + length (graph_of p)) is ps s.1 (λ q a. each q (inr a)) u x f)

    one_long : (g : ℕ) (i : InPad) (p : Passed) (later : List Laid) → IsPassed rules out g i p → length (flat_map (texts_of_laid o out) later) ≡ length later
        → length (flat_map (texts_of_laid o out) (graph_of p ++ later)) ≡ length (graph_of p ++ later)
    one_long g i p later (inl a) e =
        let none : graph_of p ≡ [] = ap graph_of (sym a) in
        ap (λ (xs : List Laid). length (flat_map (texts_of_laid o out) (xs ++ later))) none ∙ (e ∙ ap (λ (xs : List Laid). length (xs ++ later)) (sym none))
    one_long g i p later (inr f) e =
        let own : Laid = record { graph = g; ins = i ∷ [] } in
        let one : graph_of p ≡ own ∷ [] = ap graph_of (sym f.is) in
        ap (λ (xs : List Laid). length (flat_map (texts_of_laid o out) (xs ++ later))) one ∙ (ap suc e ∙ ap (λ (xs : List Laid). length (xs ++ later)) (sym one))

    pub row_long : (g : ℕ) (is : List InPad) (ps : List Passed) → AllPassed rules out g is ps → length (texts_of_row o out ps) ≡ length (flat_map graph_of ps)
    row_long g [] [] s = refl
    row_long g [] (p ∷ ps) s = absurd s
    row_long g (i ∷ is) [] s = absurd s
    row_long g (i ∷ is) (p ∷ ps) s = one_long g i p (flat_map graph_of ps) s.0 (row_long (g + length (graph_of p)) is ps s.1)

  rows_at : (inside : Inside) (o g : ℕ) (used : List (List ℕ)) (before : List InPad) (outs : List OutputJob) (rows : List (List Passed)) → AreOutputs rules inside g used before outs rows
      → ((i : ℕ) (out : OutputJob) → slice_get outs i ≡ Some out → slice_get outputs (o + i) ≡ Some out) → ((p : Passed) → IsAmong p (flat_map (λ ps. ps) rows) → IsAmong p all)
      → (t : ℕ) (x : Laid) → slice_get (flat_map (λ ps. flat_map graph_of ps) rows) t ≡ Some x → IsSimple rules outputs all (texts_from o outs rows) g t x
  rows_at inside o g used before [] [] s at each t x e = absurd (nothing x e)
  rows_at inside o g used before [] (ps ∷ rows) s at each t x e = absurd s
  rows_at inside o g used before (out ∷ outs) [] s at each t x e = absurd s
  rows_at inside o g used before (out ∷ outs) (ps ∷ rows) s at each t x e =
      let here : slice_get outputs o ≡ Some out = ap (λ (k : ℕ). slice_get outputs k) (let z : o ≡ o + 0 = omega arith in z) ∙ at 0 out refl in
      let own = texts_of_row o out ps in let later = texts_from (o + 1) outs rows in
      let long = row_long o out here g s.0 ps s.2 in
      elim (get_either (flat_map graph_of ps) (flat_map (λ ps. flat_map graph_of ps) rows) t x e) [
        | inl a ↦ (let r = row_at o out here g s.0 ps s.2 (λ p i. each p (among_left p ps (flat_map (λ ps. ps) rows) i)) t x a in
            moved own (own ++ later) g g t t x r refl (get_left own later t _ r.text ∙ sym r.text))
        | inr b ↦ (let r = rows_at inside (o + 1) (g + graphs_of ps) (labels_of out ++ used) [] outs rows s.3
            (λ i q f. ap (λ (k : ℕ). slice_get outputs k) (let z : o + 1 + i ≡ o + suc i = omega arith in z) ∙ at (suc i) q f)
            (λ p i. each p (among_right p ps (flat_map (λ ps. ps) rows) i)) b.0 x b.2 in
            let place_ = b.1 in
            moved later (own ++ later) (g + graphs_of ps) g b.0 t x r (omega (arith, place_)) (get_right own later t b.0 (omega (arith, place_, long))))
      ]

-- ---- each stream passes through its own simple graph

abbrev has_graph : ℕ → Passed → Bool
has_graph g p = list_any (λ (x : Laid). x.graph == g) (graph_of p)

row_few : (g : ℕ) (ps : List Passed) → tally (has_graph g) ps ≤ tally (λ (x : Laid). x.graph == g) (flat_map graph_of ps)
row_few g [] = omega arith
row_few g (p ∷ ps) =
    let j = tally_joined (λ (x : Laid). x.graph == g) (graph_of p) (flat_map graph_of ps) in
    let rest = row_few g ps in
    step (has_graph g p) refl j rest where
      step : (b : Bool) → has_graph g p ≡ b → tally (λ (x : Laid). x.graph == g) (graph_of p ++ flat_map graph_of ps) ≡ tally (λ (x : Laid). x.graph == g) (graph_of p) + tally (λ (x : Laid). x.graph == g) (flat_map graph_of ps)
          → tally (has_graph g) ps ≤ tally (λ (x : Laid). x.graph == g) (flat_map graph_of ps)
          → cond b (suc (tally (has_graph g) ps)) (tally (has_graph g) ps) ≤ tally (λ (x : Laid). x.graph == g) (graph_of p ++ flat_map graph_of ps)
      step true e j rest = (let some = tally_any (λ (x : Laid). x.graph == g) (graph_of p) e in omega (arith, j, rest, some))
      step false e j rest = omega (arith, j, rest)

rows_few : (g : ℕ) (rows : List (List Passed)) → tally (has_graph g) (flat_map (λ ps. ps) rows) ≤ tally (λ (x : Laid). x.graph == g) (flat_map (λ ps. flat_map graph_of ps) rows)
rows_few g [] = omega arith
rows_few g (ps ∷ rows) =
    let a = tally_joined (has_graph g) ps (flat_map (λ ps. ps) rows) in
    let b = tally_joined (λ (x : Laid). x.graph == g) (flat_map graph_of ps) (flat_map (λ ps. flat_map graph_of ps) rows) in
    let c = row_few g ps in let d = rows_few g rows in
    omega (arith, a, b, c, d)

module _ (rules : Rules) (are : AreRules rules) (job : Job) (heads : List (List StreamHead)) (l : Layout) (w : Walked rules job heads l)
    (come : ComeInOrder (feeds job.graphs) (length job.graphs) [] (graph_order job.graphs))
    (all_in : HasNoLoop (feeds job.graphs) (length job.graphs) → (g : ℕ) → g < length job.graphs → is_in (graph_order job.graphs) g ≡ true)
    (some_outputs : 1 ≤ length job.outputs) where
  abbrev made : List Made
  made = w.made

  abbrev whole : Layout
  whole = layout_of rules job heads w.made w.rows

  abbrev simples : List Laid
  simples = flat_map (λ ps. flat_map graph_of ps) w.rows

  abbrev complexes : List Laid
  complexes = map (λ m. m.laid) w.made

  abbrev streams : List Passed
  streams = flat_map (λ ps. ps) w.rows

  abbrev n : ℕ
  n = length job.graphs

  abbrev Passing : Passed → Type 0
  Passing p = Passes rules (inside_of heads job w.made) p

  abbrev StandsHere : Made → Type 0
  StandsHere m = Stands rules job.graphs (all_wants rules heads job.graphs) made m

  standing_here : (m : Made) → IsAmong m made → StandsHere m
  standing_here m i = each_of StandsHere m made (stands rules are job heads l w come all_in some_outputs) i

  all_passing : AllByRecursion (λ ps. AllByRecursion Passing ps) w.rows
  all_passing = passing rules are job heads l w come all_in some_outputs

  -- ---- what a complex graph shows

  abbrev Fits : List OpenOut → ℕ → Origin → StreamHead → Type 0
  Fits outs g source head = (p : ℕ) → source ≡ origin.Pad g p → (o : OpenOut) × (slice_get outs p ≡ Some o) × (head ≡ o.head)

  -- where it comes from, of a graph that isn't complex
  none_fits : (ks : List Stream) (outs : List OpenOut) (g : ℕ) (i : InPad) → n ≤ g → Comes ks made i → Fits outs g i.source i.head
  none_fits ks outs g i le (inl s) = λ p e. absurd (subst IsStream (ap (λ (j : InPad). j.source) s.is ∙ e) tt)
  none_fits ks outs g i le (inr o) = λ p e. absurd
      (let s = standing_here o.maker o.there in
      let low = s.low in let num = s.how.number in
      let same : o.maker.laid.graph ≡ g = ap graph_in (ap (λ (j : InPad). j.source) o.is ∙ e) in
      omega (arith, low, num, same, le))

  open_fits : (ks : List Stream) (m : Made) (s : StandsHere m) (i : InPad) → Comes ks made i → Fits m.outs m.laid.graph i.source i.head
  open_fits ks m s i (inl t) = λ p e. absurd (subst IsStream (ap (λ (j : InPad). j.source) t.is ∙ e) tt)
  open_fits ks m s i (inr o) = λ p e.
      (let t = standing_here o.maker o.there in
      let at = ap (λ (j : InPad). j.source) o.is ∙ e in
      let number : t.number ≡ s.number = sym t.how.number ∙ (ap graph_in at ∙ s.how.number) in
      let first = in_all rules are job heads l w come all_in some_outputs o.maker t 0 in
      let second = in_all rules are job heads l w come all_in some_outputs m s 0 in
      let same : o.maker ≡ m = same_some o.maker m (sym first ∙ (ap (λ (g : ℕ). made_at made g) number ∙ second)) in
      (o.out, subst (λ (x : Made). slice_get x.outs p ≡ Some o.out) same (ap (λ (q : ℕ). slice_get o.maker.outs q) (sym (ap port_in at)) ∙ o.at), sym (ap (λ (j : InPad). j.head) o.is)))

  -- ---- what graphs take

  in_simple : (x : Laid) (i : InPad) (p : Passed) → Passing p → IsAmong x (graph_of p) → IsAmong i x.ins → Comes (all_streams heads) made i
  in_simple x i p t ix ii = elim t.how [
    | inl e ↦ absurd (subst (λ (q : Passed). IsAmong x (graph_of q)) (sym e) ix)
    | inr f ↦ elim (subst (λ (q : Passed). IsAmong x (graph_of q)) (sym f.is) ix) [
      | inl same ↦ elim (subst (λ (y : Laid). IsAmong i y.ins) (sym same) ii) [
        | inl e ↦ subst (λ (j : InPad). Comes (all_streams heads) made j) e t.from
        | inr none ↦ absurd none
      ]
      | inr none ↦ absurd none
    ]
  ]

  -- the streams that there are
  abbrev shown : List Stream
  shown = shown_in rules heads job.graphs

  pub in_comes : (y : Laid) → IsAmong y whole.graphs → (i : InPad) → IsAmong i y.ins → Comes shown made i
  in_comes y iy i ii = elim (among_either y complexes simples iy) [
    | inl c ↦ (let m = of_map (λ (m : Made). m.laid) y made c in let s = standing_here m.0 m.1 in
        subst (λ (ms : List Made). Comes shown ms i) s.is (comes_left shown s.front (m.0 ∷ s.rest) i
        (each_of (Comes shown s.front) i m.0.laid.ins (ins_from rules job heads made w.rows come w.are_made m.0 s) (subst (λ (z : Laid). IsAmong i z.ins) (sym m.2) ii))))
    | inr b ↦ (let a = of_flat (λ (ps : List Passed). flat_map graph_of ps) y w.rows b in let c = of_flat graph_of y a.0 a.2 in
        comes_right (source_streams (length heads) (sources_of rules job.graphs)) (all_streams heads) made i (in_simple y i c.0 (each_of Passing c.0 a.0 (each_of (λ ps. AllByRecursion Passing ps) a.0 w.rows all_passing a.1) c.1) c.2 ii))
  ]

  -- the number of a simple graph
  simple_low : (ps : List Passed) (p : Passed) → IsAmong ps w.rows → IsAmong p ps → (x : Laid) → IsAmong x (graph_of p) → n ≤ x.graph
  simple_low ps p ips ip x ix =
      let among = among_flat (λ ps. flat_map graph_of ps) x ps w.rows ips (among_flat graph_of x p ps ip ix) in
      (below_range x.graph n (length simples) (subst (λ (ns : List ℕ). IsAmong x.graph ns) (simple_numbers rules are job heads l w come all_in some_outputs) (among_map (λ (y : Laid). y.graph) x simples among))).0

  -- ---- what streams of outputs show

  pub by_rows : (T : OutStream → Type 0) → ((ps : List Passed) (p : Passed) → IsAmong ps w.rows → IsAmong p ps → Passing p → T p.what) → (s : Placed) → IsAmong s (placed whole) → T s.what
  by_rows T each s i =
      each_of (λ (q : Placed). T q.what) s (placed whole) (place_holds T 0 0 whole.outputs (all_map (λ row. AllByRecursion T row) (λ ps. map (λ p. p.what) ps) w.rows (λ ps ips.
      all_map T (λ p. p.what) ps (λ p ip. each ps p ips ip (each_of Passing p ps (each_of (λ ps. AllByRecursion Passing ps) ps w.rows all_passing ips) ip))))) i

  complex_stream : (m : Made) (s : StandsHere m) (ps : List Passed) (p : Passed) → IsAmong ps w.rows → IsAmong p ps → Passing p → Fits m.outs m.laid.graph p.what.source p.what.head
  complex_stream m s ps p ips ip t = elim t.how [
    | inl a ↦ subst (λ (q : Passed). Fits m.outs m.laid.graph q.what.source q.what.head) a (open_fits (all_streams heads) m s t.pad t.from)
    | inr f ↦ (λ q e. absurd
        (let own : Laid = record { graph = t.graph; ins = t.pad ∷ [] } in
        let le = simple_low ps p ips ip own (subst (λ (y : Passed). IsAmong own (graph_of y)) f.is (inl refl)) in
        let same : t.graph ≡ m.laid.graph = ap graph_in (ap (λ (y : Passed). y.what.source) f.is ∙ e) in
        let low = s.low in let num = s.how.number in
        omega (arith, le, same, low, num)))
  ]

  stream_few : (g : ℕ) → tally (has_graph g) streams ≤ 1
  stream_few g =
      let a = rows_few g w.rows in
      let b = numbered_once rules are job heads l w come all_in some_outputs g in
      let j = tally_joined (λ (x : Laid). x.graph == g) complexes simples in
      omega (arith, a, b, j)

  has_own : (out : OutputJob) (g : ℕ) (i : InPad) (p : Passed) → IsFiltered rules out g i p → has_graph g p ≡ true
  has_own out g i p f = ap (has_graph g) (sym f.is) ∙ ap (λ (b : Bool). b || false) (nat_self g)

  module _ (t : ℕ) (x : Laid) (texts : List GraphText) (r : IsSimple rules job.outputs streams texts n t x) where
    high_number : n ≤ x.graph
    high_number = (let a = r.place in let b = ap (λ (y : Laid). y.graph) r.is in omega (arith, a, b))

    simple_stream : (ps : List Passed) (p : Passed) → IsAmong ps w.rows → IsAmong p ps → Passing p → Fits (r.how.made ∷ []) x.graph p.what.source p.what.head
    simple_stream ps p ips ip u = elim u.how [
      | inl a ↦ subst (λ (q : Passed). Fits (r.how.made ∷ []) x.graph q.what.source q.what.head) a (none_fits (all_streams heads) (r.how.made ∷ []) x.graph u.pad high_number u.from)
      | inr f ↦ (λ q e.
          (let at = ap (λ (y : Passed). y.what.source) f.is ∙ e in
          let number : u.graph ≡ r.number = ap graph_in at ∙ ap (λ (y : Laid). y.graph) r.is in
          let on : has_graph r.number p ≡ true = subst (λ (g : ℕ). has_graph g p ≡ true) number (has_own u.out u.graph u.pad p f) in
          let same : p ≡ r.passed = only_one (has_graph r.number) p r.passed streams (stream_few r.number) (among_flat (λ ps. ps) p ps w.rows ips ip) r.there on (has_own r.out r.number r.pad r.passed r.how) in
          (r.how.made, ap (λ (k : ℕ). slice_get (r.how.made ∷ []) k) (sym (ap port_in at)), ap (λ (y : Passed). y.what.head) (same ∙ sym r.how.is))))
    ]

  -- ---- the nodes of graphs

  abbrev all_texts : List GraphText
  all_texts = map (λ g. Complex g) (numbers job.graphs) ++ texts_from 0 job.outputs w.rows

  number_at : (g : ℕ) → g < n → slice_get (numbers job.graphs) g ≡ Some g
  number_at g lt = get_range 0 n g lt ∙ ap (λ (k : ℕ). Some k) (let e : 0 + g ≡ g = omega arith in e)

  text_is : (output : ℕ) (out : OutputJob) (kind : Kind) (text : Graph) → slice_get job.outputs output ≡ Some out
      → (simple_of out kind ≡ Some text) ⊎ ((simple_of out kind ≡ None) × (text ≡ null_graph kind)) → graph_text job (simple_or_null output kind (simple_of out kind)) ≡ Some text
  text_is output out kind text at (inl e) = ap (λ (o : Option Graph). graph_text job (simple_or_null output kind o)) e ∙ (ap (λ (o : Option OutputJob). simple_in kind o) at ∙ e)
  text_is output out kind text at (inr e) = ap (λ (o : Option Graph). graph_text job (simple_or_null output kind o)) e.0 ∙ ap (λ (g : Graph). Some g) (sym e.1)

  module _ (laid : IsLaid whole) (k : ℕ) (low : before_graphs whole ≤ k) (high : k < before_shortests whole) where
    abbrev j : ℕ
    j = k - before_graphs whole

    once : (g : ℕ) → tally (λ (y : Laid). y.graph == g) whole.graphs ≤ 1
    once g = numbered_once rules are job heads l w come all_in some_outputs g

    complex_fit : (m : Made) → IsAmong m made → slice_get whole.graphs j ≡ Some m.laid → FitsGraph rules job all_texts (edges_of (wires_of whole)) k m.laid.graph
    complex_fit m im at =
        let s = standing_here m im in
        let row = slice_index_or (all_wants rules heads job.graphs) s.number [] in
        let there = all_there s.front row (are.streams s.how.text (map (λ v. head_in (pad_in s.front v)) row) m.outs (had rules are job heads l w come all_in some_outputs m s)) in
        record {
          stands = Complex s.number;
          at = ap (λ (g : ℕ). slice_get all_texts g) s.how.number
              ∙ get_left (map (λ g. Complex g) (numbers job.graphs)) (texts_from 0 job.outputs w.rows) s.number (Complex s.number) (get_map (λ g. Complex g) (numbers job.graphs) s.number s.number (number_at s.number s.low));
          text = s.how.text;
          is = s.how.there;
          heads = map (λ (i : InPad). i.head) m.laid.ins;
          outs = m.outs;
          made = ap (λ (is : List InPad). rules.configured s.how.text (map (λ h. Some h) (map (λ (i : InPad). i.head) is))) s.how.ins
              ∙ (ap (λ (hs : List (Option StreamHead)). rules.configured s.how.text hs) (sym there) ∙ s.how.outs);
          counted = length_some (map (λ (i : InPad). i.head) m.laid.ins) (rules.open_ins s.how.text)
              (ap (λ (is : List InPad). map (λ (h : StreamHead). Some h) (map (λ (i : InPad). i.head) is)) s.how.ins ∙ sym there) (had rules are job heads l w come all_in some_outputs m s).1;
          unlooped = (had rules are job heads l w come all_in some_outputs m s).0;
          clear = clear_at rules are job heads l w come all_in some_outputs s.number s.how.text s.how.there;
          ins = into_graph whole laid k low high m.laid at (once m.laid.graph) ∙ frames_of m.laid.ins;
          frames = out_of_graph whole laid k low high m.laid at (once m.laid.graph) m.outs
              (λ q lt. (complex_count rules are job heads l w come all_in some_outputs m im q).0 lt) (λ q le. (complex_count rules are job heads l w come all_in some_outputs m im q).1 le)
              (λ y iy i ii. open_fits shown m s i (in_comes y iy i ii)) (λ p ip. by_rows (λ (o : OutStream). Fits m.outs m.laid.graph o.source o.head) (complex_stream m s) p ip);
        }

    simple_fit : (t : ℕ) (x : Laid) → IsAmong x simples → IsSimple rules job.outputs streams (texts_from 0 job.outputs w.rows) n t x → slice_get whole.graphs j ≡ Some x
        → FitsGraph rules job all_texts (edges_of (wires_of whole)) k x.graph
    simple_fit t x ix r at =
        let long = map_length (λ g. Complex g) (numbers job.graphs) in let count = range_length 0 n in
        let place_ = r.place in let num = ap (λ (y : Laid). y.graph) r.is in
        record {
          stands = simple_or_null r.output (kind_of r.pad.head) (simple_of r.out (kind_of r.pad.head));
          at = get_right (map (λ g. Complex g) (numbers job.graphs)) (texts_from 0 job.outputs w.rows) x.graph t (omega (arith, long, count, place_, num)) ∙ r.text;
          text = r.how.text;
          is = text_is r.output r.out (kind_of r.pad.head) r.how.text r.out_is r.how.is_text;
          heads = r.pad.head ∷ [];
          outs = r.how.made ∷ [];
          made = r.how.outs;
          counted = sym r.how.counted;
          unlooped = r.how.unlooped;
          clear = r.how.clear;
          ins = into_graph whole laid k low high x at (once x.graph) ∙ ap (λ (y : Laid). map (λ (i : InPad). Frames i.head) y.ins) r.is;
          frames = out_of_graph whole laid k low high x at (once x.graph) (r.how.made ∷ [])
              (λ q lt. (simple_count rules are job heads l w come all_in some_outputs x ix q).0 lt) (λ q le. (simple_count rules are job heads l w come all_in some_outputs x ix q).1 le)
              (λ y iy i ii. none_fits shown (r.how.made ∷ []) x.graph i (high_number t x (texts_from 0 job.outputs w.rows) r) (in_comes y iy i ii))
              (λ p ip. by_rows (λ (o : OutStream). Fits (r.how.made ∷ []) x.graph o.source o.head) (simple_stream t x (texts_from 0 job.outputs w.rows) r) p ip);
        }

    pub fits_graph : (x : Laid) → slice_get whole.graphs j ≡ Some x → FitsGraph rules job all_texts (edges_of (wires_of whole)) k x.graph
    fits_graph x at = elim (get_either complexes simples j x at) [
      | inl c ↦ (let m = of_map (λ (m : Made). m.laid) x made (among_at x complexes j c) in
          subst (λ (y : Laid). FitsGraph rules job all_texts (edges_of (wires_of whole)) k y.graph) m.2 (complex_fit m.0 m.1 (at ∙ ap (λ (y : Laid). Some y) (sym m.2))))
      | inr b ↦ (let r = rows_at rules job.outputs streams (inside_of heads job made) 0 n (taken_labels job.graphs) (unlabelled made (numbers job.graphs)) job.outputs w.rows w.outputs
          (λ i out e. ap (λ (k : ℕ). slice_get job.outputs k) (let z : 0 + i ≡ i = omega arith in z) ∙ e) (λ p i. i) b.0 x b.2 in
          simple_fit b.0 x (among_at x simples b.0 b.2) r at)
    ]

-- ---- which nodes are graphs

abbrev IsGraphNode : PlanNode → Type 0
IsGraphNode (node.Demux i) = ⊥
IsGraphNode (node.Gen i) = ⊥
IsGraphNode (node.Dec at) = ⊥
IsGraphNode (node.Graph g) = Unit {0}
IsGraphNode (node.Shortest o) = ⊥
IsGraphNode (node.Enc o j) = ⊥
IsGraphNode (node.Mux o) = ⊥

abbrev graph_of_node : PlanNode → ℕ
graph_of_node (node.Demux i) = 0
graph_of_node (node.Gen i) = 0
graph_of_node (node.Dec at) = 0
graph_of_node (node.Graph g) = g
graph_of_node (node.Shortest o) = 0
graph_of_node (node.Enc o j) = 0
graph_of_node (node.Mux o) = 0

not_here : {A : Type 0} (f : A → PlanNode) (g : ℕ) → ((x : A) → IsGraphNode (f x) → ⊥) → (xs : List A) (k : ℕ) → slice_get (map f xs) k ≡ Some (node.Graph g) → ⊥
not_here f g other xs k e = (let r = at_map f xs k (node.Graph g) e in other r.0 (subst IsGraphNode (sym r.2) tt))

no_start : (s : Stream) (b : Bool) → IsGraphNode (cond b (node.Dec s.at) (node.Gen s.at.input)) → ⊥
no_start s true t = t
no_start s false t = t

pub graph_node : (l : Layout) (k g : ℕ) → slice_get (nodes_of l) k ≡ Some (node.Graph g)
    → (before_graphs l ≤ k) × (k < before_shortests l) × ((x : Laid) × (slice_get l.graphs (k - before_graphs l) ≡ Some x) × (x.graph ≡ g))
graph_node l k g e =
    let a = map (λ i. node.Demux i) (used_inputs l) in let b = map (start_node (length l.heads)) (used l) in let c = map (λ (x : Laid). node.Graph x.graph) l.graphs in
    let d = map (λ o. node.Shortest o) (output_numbers l) in let f = map (λ (p : Placed). node.Enc p.output p.stream) (placed l) in let h = map (λ o. node.Mux o) (output_numbers l) in
    let la = map_length (λ i. node.Demux i) (used_inputs l) in let lb = map_length (start_node (length l.heads)) (used l) in
    elim (get_either a (b ++ (c ++ (d ++ (f ++ h)))) k (node.Graph g) e) [
      | inl x ↦ absurd (not_here (λ i. node.Demux i) g (λ i t. t) (used_inputs l) k x)
      | inr r1 ↦ elim (get_either b (c ++ (d ++ (f ++ h))) r1.0 (node.Graph g) r1.2) [
        | inl x ↦ absurd (not_here (start_node (length l.heads)) g (λ s. no_start s (nat_lt s.at.input (length l.heads))) (used l) r1.0 x)
        | inr r2 ↦ elim (get_either c (d ++ (f ++ h)) r2.0 (node.Graph g) r2.2) [
          | inl x ↦ (let y = at_map (λ (x : Laid). node.Graph x.graph) l.graphs r2.0 (node.Graph g) x in
              let n1 = r1.1 in let n2 = r2.1 in let lt = below_at y.0 l.graphs r2.0 y.1 in
              let same : r2.0 ≡ k - before_graphs l = omega (arith, n1, n2, la, lb) in
              (omega (arith, n1, n2, la, lb), omega (arith, n1, n2, la, lb, lt), (y.0, ap (λ (i : ℕ). slice_get l.graphs i) (sym same) ∙ y.1, ap graph_of_node y.2)))
          | inr r3 ↦ elim (get_either d (f ++ h) r3.0 (node.Graph g) r3.2) [
            | inl x ↦ absurd (not_here (λ o. node.Shortest o) g (λ o t. t) (output_numbers l) r3.0 x)
            | inr r4 ↦ elim (get_either f h r4.0 (node.Graph g) r4.2) [
              | inl x ↦ absurd (not_here (λ (p : Placed). node.Enc p.output p.stream) g (λ p t. t) (placed l) r4.0 x)
              | inr r5 ↦ absurd (not_here (λ o. node.Mux o) g (λ o t. t) (output_numbers l) r5.0 r5.2)
            ]
          ]
        ]
      ]
    ]

module _ (rules : Rules) (are : AreRules rules) (job : Job) (heads : List (List StreamHead)) where
  abbrev IsOrder : Type 0
  IsOrder = ComeInOrder (feeds job.graphs) (length job.graphs) [] (graph_order job.graphs)

  abbrev HasAll : Type 0
  HasAll = HasNoLoop (feeds job.graphs) (length job.graphs) → (g : ℕ) → g < length job.graphs → is_in (graph_order job.graphs) g ≡ true

  layout_fits : (l : Layout) (w : Walked rules job heads l) → IsOrder → HasAll → 1 ≤ length job.outputs → (k g : ℕ) → slice_get (nodes_of l) k ≡ Some (node.Graph g)
      → FitsGraph rules job l.texts (edges_of (wires_of l)) k g
  layout_fits l w come all_in some k g e =
      let e_whole = subst (λ (y : Layout). slice_get (nodes_of y) k ≡ Some (node.Graph g)) (sym w.is) e in
      let whole_ = layout_of rules job heads w.made w.rows in
      let laid_ = subst IsLaid (sym w.is) (walked_laid rules job heads l come w) in
      let at = graph_node whole_ k g e_whole in
      let fits = fits_graph rules are job heads l w come all_in some laid_ k at.0 at.1 at.2.0 at.2.1 in
      subst (λ (y : Layout). FitsGraph rules job y.texts (edges_of (wires_of y)) k g) w.is
      (subst (λ (h : ℕ). FitsGraph rules job whole_.texts (edges_of (wires_of whole_)) k h) at.2.2 fits)

  pub graphs_fit : (p : Plan) → IsOrder → HasAll → 1 ≤ length job.outputs → planned rules job heads ≡ Ok p → GraphsFit rules job p
  graphs_fit p come all_in some h =
      let at = behind_ok (laid_out rules job heads) (λ l. Ok (plan_of l)) p h in
      let w = walked rules job heads at.0 come at.1 in
      subst (λ (q : Plan). GraphsFit rules job q) (same_ok (plan_of at.0) p at.2) (layout_fits at.0 w come all_in some)
