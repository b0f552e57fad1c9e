use Rattle.std.proofs.Common.{◌<◌, ℕ, slice_index_or}
use Rattle.ff_net.specs.laws.Nodes.{IsSound}
use Rattle.ff_net_threads.specs.declared.links.linked.Linked.{Linked}
use Rattle.ff_net_threads.specs.laws.links.Nodes.{node_of}
use Rattle.ff_test_machines.specs.declared.plain.Plain.{Plain}
use Rattle.ff_test_machines.specs.Plains.{plain_view}
use Rattle.ff_test_net.proofs.net.run.all_sound.Given as goal

abbrev pub invariant-loop-node : goal.invariant-loop-node
invariant-loop-node l = (k : ℕ) (d : Linked Plain) → k < l.node-index → IsSound plain_view (node_of (slice_index_or l.nodes.items k d))
