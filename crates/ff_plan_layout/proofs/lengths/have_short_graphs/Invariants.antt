use Rattle.std.proofs.Common.{drop}
use Rattle.std.specs.List.{AllByRecursion}
use Rattle.ff_plan_layout.specs.laws.Limits.{HasShortGraphs}
use Rattle.ff_plan_layout.proofs.lengths.have_short_graphs.Given as goal

abbrev pub invariant-loop-out : goal.invariant-loop-out
invariant-loop-out l = record {
  yes : AllByRecursion HasShortGraphs (drop l.out-index l.outs) → AllByRecursion HasShortGraphs l.outs;
  no : AllByRecursion HasShortGraphs l.outs → AllByRecursion HasShortGraphs (drop l.out-index l.outs);
}
