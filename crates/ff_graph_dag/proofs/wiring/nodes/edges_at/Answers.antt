use Rattle.ff_graph_dag.proofs.WiringLemmas.Ups.{pushed}
use Rattle.ff_graph_dag.proofs.wiring.nodes.edges_at.Goals as goal

pub ports-preserved : goal.ports-preserved
ports-preserved c =
    pushed c.args.ports.now c.args.filter c.ports.port c.args.count c.ports.edges.items c.push.new.self.items c.edge_of.result
    c.ports-test.true c.in_ok-push.ensures.items c.edge_of.ensures c.ports.invariant
