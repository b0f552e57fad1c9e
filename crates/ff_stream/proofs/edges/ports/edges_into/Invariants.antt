use Rattle.std.proofs.Common.{◌≡◌}
use Rattle.ff_stream.specs.edges.Ports.{edge_to, at_ports}
use Rattle.ff_stream.proofs.edges.ports.edges_into.Given as goal

abbrev pub invariant-loop-port : goal.invariant-loop-port
invariant-loop-port l = l.numbers.items ≡ at_ports (edge_to l.edges l.node) l.port
