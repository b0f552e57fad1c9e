use Rattle.std.proofs.Common.{◌≡◌, ◌++◌, map}
use Rattle.std.specs.List.{flat_map}
use Rattle.std.specs.Vec.Iter.{into_iter_items}
use Rattle.ff_plan_layout.specs.Streams.{Passed, graph_of}
use Rattle.ff_plan_layout.proofs.laying.streams_of.Given as goal

abbrev pub invariant-loop-passed : goal.invariant-loop-passed
invariant-loop-passed l = record {
  laid : l.graphs.items ++ flat_map graph_of (into_iter_items l.passed-iterator) ≡ l.fn.graphs.items ++ flat_map graph_of l.fn.row.items;
  streams : l.streams.items ++ map (λ (p : Passed). p.what) (into_iter_items l.passed-iterator) ≡ map (λ (p : Passed). p.what) l.fn.row.items;
}
