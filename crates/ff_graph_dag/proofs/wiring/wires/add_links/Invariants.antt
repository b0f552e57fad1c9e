use Rattle.std.proofs.Common.{◌≡◌, ◌++◌, drop}
use Rattle.ff_graph_dag.specs.laws.wiring.Wires.{links_at}
use Rattle.ff_graph_dag.proofs.wiring.wires.add_links.Given as goal

abbrev pub invariant-ports : goal.invariant-ports
invariant-ports l = l.wires.items ++ links_at l.filter l.port (drop l.port l.fed) ≡ l.initial.wires.items ++ links_at l.filter 0 l.fed
