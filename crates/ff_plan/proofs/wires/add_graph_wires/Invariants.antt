use Rattle.std.proofs.Common.{◌≡◌, ◌++◌, drop}
use Rattle.std.specs.List.{flat_map}
use Rattle.ff_plan.specs.laws.Numbering.{pad_wires_in}
use Rattle.ff_plan.proofs.wires.add_graph_wires.Given as goal

abbrev pub invariant-loop-graph : goal.invariant-loop-graph
invariant-loop-graph l = l.wires.items ++ flat_map (pad_wires_in l.firsts l.streams l.graphs) (drop l.graph-index l.graphs) ≡ l.initial.wires.items ++ flat_map (pad_wires_in l.firsts l.streams l.graphs) l.graphs
