-- The routes of a graph are as many as its inputs.
use Rattle.std.proofs.Common.{◌≡◌, ℕ, zero, suc, ◌+◌, ◌<◌, ◌≤◌, ◌==◌, true, List, [], length, Option, Some, sym, ap, ◌∙◌, subst, arith}
use Rattle.std.specs.Prelude.{Ok, slice_get}
use Rattle.std.specs.List.{find, range_with_len}
use Rattle.ff_stream.specs.declared.item.Lane.TheVariants.{Frames}
use Rattle.ff_graph_links.specs.labels.Order.{ComeInOrder, HasNoLoop, graph_order, feeds, is_in}
use Rattle.ff_sched.specs.declared.routes.Way.{Way}
use Rattle.ff_frame.specs.declared.head.StreamHead.{StreamHead}
use Rattle.ff_words.specs.declared.job.Job.{Job}
use Rattle.ff_plan.specs.declared.planned.Plan.{Plan}
use Rattle.ff_plan_layout.specs.laws.Graphs.{AreRules}
use Rattle.ff_plan_layout.specs.Layout.{Layout}
use Rattle.ff_plan.specs.Nodes.{way_to, ways_in, routes_of, plan_of}
use Rattle.ff_plan_layout.specs.LaidOut.{layout_of, laid_out}
use Rattle.ff_plan.specs.Planned.{planned}
use Rattle.ff_plan_layout.specs.Rules.{Rules}
use Rattle.ff_plan_layout.proofs.Graphed.{Walked, walked}
use Rattle.ff_plan.proofs.GraphFits.{graph_node, graphs_fit, get_map}
use Rattle.ff_plan.proofs.GraphLanes.{into_graph}
use Rattle.ff_plan_layout.proofs.Kept.{below_at, index_at}
use Rattle.ff_plan_layout.proofs.Sizes.{map_length}
use Rattle.ff_plan.proofs.Ported.{numbered_once}
use Rattle.ff_plan_layout.proofs.Results.{same_ok, behind_ok}
use Rattle.ff_plan_layout.proofs.Tests.{same_test}
use Rattle.ff_plan_layout.proofs.Uses.{only_place}
use Rattle.ff_plan.specs.laws.Sound.{AreRouted}
use Rattle.ff_plan.proofs.Sound.{texts_count, laid_whole}
use Rattle.ff_plan_layout.specs.declared.layout.InPad.{InPad}
use Rattle.ff_plan_layout.specs.declared.layout.Laid.{Laid}

range_at : (a n i : ℕ) → i < n → slice_get (range_with_len a n) i ≡ Some (a + i)
range_at a zero i lt = absurd (omega (arith, lt))
range_at a (suc n) zero lt = ap (λ (k : ℕ). Some k) (let e : a ≡ a + 0 = omega arith in e)
range_at a (suc n) (suc i) lt = range_at (a + 1) n i (omega (arith, lt)) ∙ ap (λ (k : ℕ). Some k) (let e : a + 1 + i ≡ a + suc i = omega arith in e)

module _ (rules : Rules) (are : AreRules rules) (job : Job) (heads : List (List StreamHead)) (l : Layout) (w : Walked rules job heads l)
    (come : ComeInOrder (feeds job.graphs) (length job.graphs) [] (graph_order job.graphs))
    (all_in : HasNoLoop (feeds job.graphs) (length job.graphs) → (g : ℕ) → g < length job.graphs → is_in (graph_order job.graphs) g ≡ true)
    (some_outputs : 1 ≤ length job.outputs) where
  abbrev whole : Layout
  whole = layout_of rules job heads w.made w.rows

  whole_routed : planned rules job heads ≡ Ok (plan_of whole) → AreRouted (plan_of whole)
  whole_routed h = λ k g e.
      (let at = graph_node whole k g e in
      let x = at.2.0 in
      let once = numbered_once rules are job heads l w come all_in some_outputs g in
      let found = only_place (λ (y : Laid). y.graph == g) whole.graphs _ x once at.2.1 (same_test x.graph g at.2.2) in
      let fit = graphs_fit rules are job heads (plan_of whole) come all_in some_outputs h k g e in
      let low = below_at fit.stands whole.texts g fit.at in
      let many = texts_count rules are job heads l w come all_in some_outputs in
      let number = range_at 0 (length whole.graphs) g (omega (arith, low, many)) ∙ ap (λ (i : ℕ). Some i) (let z : 0 + g ≡ g = omega arith in z) in
      let row = index_at (routes_of whole).graphs g (ways_in (find (λ (y : Laid). y.graph == g) whole.graphs)) []
      (get_map (λ i. ways_in (find (λ (y : Laid). y.graph == i) whole.graphs)) (range_with_len 0 (length whole.graphs)) g g number) in
      let own = ap (λ (ways : List Way). length ways) row
      ∙ (ap (λ (o : Option Laid). length (ways_in o)) found.1 ∙ map_length (λ (i : InPad). way_to i.source) x.ins) in
      let lanes = ap (λ (ls : List _). length ls) (into_graph whole (laid_whole rules are job heads l w come all_in some_outputs) k at.0 at.1 x at.2.1
      (numbered_once rules are job heads l w come all_in some_outputs x.graph)) ∙ map_length (λ (i : InPad). Frames i.head) x.ins in
      own ∙ sym lanes)

pub routed : (rules : Rules) (job : Job) (heads : List (List StreamHead)) (p : Plan) → AreRules rules
    → ComeInOrder (feeds job.graphs) (length job.graphs) [] (graph_order job.graphs)
    → (HasNoLoop (feeds job.graphs) (length job.graphs) → (g : ℕ) → g < length job.graphs → is_in (graph_order job.graphs) g ≡ true)
    → 1 ≤ length job.outputs → planned rules job heads ≡ Ok p → AreRouted p
routed rules job heads p are come all_in some h =
    let at = behind_ok (laid_out rules job heads) (λ l. Ok (plan_of l)) p h in
    let w = walked rules job heads at.0 come at.1 in
    let same = ap (λ (l : Layout). plan_of l) w.is ∙ same_ok (plan_of at.0) p at.2 in
    subst AreRouted same (whole_routed rules are job heads at.0 w come all_in some (subst (λ (q : Plan). planned rules job heads ≡ Ok q) (sym same) h))
