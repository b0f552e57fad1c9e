use Rattle.ff_graph_dag.proofs.WiringLemmas.Ups.{counted}
use Rattle.ff_graph_dag.proofs.wiring.plan.numbers_to.Goals as goal

pub edges-preserved : goal.edges-preserved
edges-preserved c =
    counted c.args.first c.edges.edge c.args.past c.edges.edges.items c.push.new.self.items c.edges-test.true c.in_ok-push.ensures.items c.edges.invariant
