use Rattle.std.proofs.Common.{◌≡◌, ◌<◌, ◌≤◌, ℕ, Option, length, slice_index_or, vec_len, vec_capacity}
use Rattle.ff_net.specs.declared.fault.Fault.{Fault}
use Rattle.ff_net_threads.specs.declared.links.linked.Linked.{Linked}
use Rattle.ff_net_threads.specs.laws.links.Nodes.{node_of}
use Rattle.ff_net_threads.specs.laws.links.Settling.{IsFaultOf}
use Rattle.ff_net_threads.proofs.links.settling.note_faults.Given as goal

abbrev pub invariant-loop-k : goal.invariant-loop-k
invariant-loop-k g l = record {
  count : vec_len l.faults ≡ l.k;
  within : l.k ≤ length l.nodes;
  room : length l.nodes ≤ vec_capacity l.faults;
  each : (k : ℕ) (d : Linked g.row.M.Denot) (e : Option Fault) → k < l.k → IsFaultOf g.M.Machine.view (node_of (slice_index_or l.nodes k d)) (slice_index_or l.faults.items k e);
}
