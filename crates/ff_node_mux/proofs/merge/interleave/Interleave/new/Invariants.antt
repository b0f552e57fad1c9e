use Rattle.std.proofs.Common.{take}
use Rattle.ff_node_mux.specs.laws.merge.Fronts.{AreNew}
use Rattle.ff_node_mux.proofs.merge.interleave.Interleave.new.Given as goal

abbrev pub invariant-streams : goal.invariant-streams
invariant-streams l = AreNew (take l.p l.tbs.items) l.queues.items
