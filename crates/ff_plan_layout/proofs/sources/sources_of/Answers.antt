use Rattle.std.proofs.Common.{List, length, ap, ◌∙◌, arith}
use Rattle.ff_plan_layout.specs.Rules.{OpenIn}
use Rattle.ff_plan_layout.proofs.Sourced.{sources_next}
use Rattle.ff_plan_layout.proofs.sources.sources_of.Goals as goal

pub loop-graph-preserved : goal.loop-graph-preserved
loop-graph-preserved g c = record {
  made = sources_next (g.F.Filtering.rules c.args.filtering.now) c.args.graphs.now c.loop-graph.graph-index c.graph-item.result c.as_slice.result.now c.loop-graph.made.items _ _
      c.loop-graph-test.true c.graph-item.is (c.as_slice.ensures ∙ c.in_ok-pads.ensures.pads) c.in_ok-add_sources.ensures.items c.loop-graph.invariant.made;
  few = (let a = c.in_ok-add_sources.ensures.few in let b = c.in_ok-pads.ensures.few in let s = ap (λ (ps : List OpenIn). length ps) c.as_slice.ensures in
      let i = c.loop-graph.invariant.few in omega (arith, a, b, s, i));
}
