use Rattle.std.proofs.Common.{◌≡◌, ◌++◌, drop}
use Rattle.ff_graph_dag.specs.laws.wiring.Wires.{feeds_in, links_from, wires_of}
use Rattle.ff_graph_dag.proofs.wiring.wires.wires.Given as goal

abbrev pub invariant-filters : goal.invariant-filters
invariant-filters l = l.wires.items ++ links_from l.filter (feeds_in (drop l.filter l.fed)) ≡ wires_of (feeds_in l.fed) l.opens
