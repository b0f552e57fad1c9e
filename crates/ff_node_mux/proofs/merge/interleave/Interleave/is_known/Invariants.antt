use Rattle.std.proofs.Common.{◌≡◌, true}
use Rattle.ff_node_mux.specs.laws.merge.Fronts.{known_to}
use Rattle.ff_node_mux.proofs.merge.interleave.Interleave.is_known.Given as goal

abbrev pub invariant-streams : goal.invariant-streams
invariant-streams l = known_to l.self.queues.items l.p ≡ true
