use Rattle.ff_node_mux.specs.laws.merge.Fronts.{IsFirst}
use Rattle.ff_node_mux.proofs.merge.interleave.Interleave.first.Given as goal

abbrev pub invariant-streams : goal.invariant-streams
invariant-streams l = IsFirst l.self.queues.items l.p l.first
