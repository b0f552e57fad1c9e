use Rattle.ff_net_threads.specs.laws.links.Nodes.{Follows}
use Rattle.ff_net_threads.proofs.links.worker.run.Given as goal

abbrev pub invariant-loop : goal.invariant-loop
invariant-loop g l = let view = g.M.Machine.view in Follows view l.initial.node l.node
