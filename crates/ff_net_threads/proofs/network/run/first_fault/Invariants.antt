use Rattle.std.proofs.Common.{ℕ, ◌<◌, slice_index_or}
use Rattle.ff_net.specs.declared.node.Node.{Node}
use Rattle.ff_net.specs.laws.Nodes.{IsSound}
use Rattle.ff_net_threads.specs.laws.links.Settling.{nodes_of}
use Rattle.ff_net_threads.proofs.network.run.first_fault.Given as goal

abbrev pub invariant-loop-k : goal.invariant-loop-k
invariant-loop-k g l = record { before : (j : ℕ) (d : Node g.row.M.Denot) → j < l.k → IsSound g.M.Machine.view (slice_index_or (nodes_of l.nodes) j d) }
