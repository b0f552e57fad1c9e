use Rattle.std.proofs.Common.{◌≡◌, ◌-◌, ◌++◌, map}
use Rattle.std.specs.List.{range_with_len}
use Rattle.ff_plan_layout.specs.Texts.{Complex}
use Rattle.ff_plan_layout.proofs.laying.complex_texts.Given as goal

abbrev pub invariant-loop-graph : goal.invariant-loop-graph
invariant-loop-graph l = l.texts.items ++ map Complex (range_with_len l.graph (l.graphs - l.graph)) ≡ map Complex (range_with_len 0 l.graphs)
