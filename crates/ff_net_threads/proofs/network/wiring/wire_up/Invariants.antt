use Rattle.std.proofs.Common.{◌≡◌, ◌<◌, ◌≤◌, ◌-◌, ◌*◌, ◌^◌, ◌++◌, ℕ, length, slice_index_or, vec_items, vec_len, vec_capacity}
use Rattle.std.specs.Vec.Iter.{into_iter_items}
use Rattle.ff_net.specs.laws.Nodes.{machine_of, pass_of}
use Rattle.ff_net.specs.Pasts.{IsIn}
use Rattle.ff_net_threads.specs.declared.links.linked.Linked.{Linked}
use Rattle.ff_net_threads.specs.network.Fits.{edge_lanes, ins_at, outs_at}
use Rattle.ff_net_threads.specs.laws.network.Networks.{machines_in, node_at, ports_of}
use Rattle.ff_net_threads.specs.laws.network.Nodes.{IsLinked}
use Rattle.ff_net_threads.specs.laws.network.Scheduling.{new_pass, node_share}
use Rattle.ff_net_threads.specs.laws.network.Tables.{NewLinks, HasNewSender, HasNewReceiver, links_in}
use Rattle.ff_net_threads.proofs.network.wiring.wire_up.Given as goal

abbrev pub invariant-loop-number : goal.invariant-loop-number
invariant-loop-number g l =
    let view = g.M.Machine.view in
    let all = vec_items l.fn.machines in
    let ports = ports_of view all in
    let new : NewLinks = record { claims = g.C.Claims.claims; size = l.size; link = links_in (vec_items l.initial.tables.senders); lanes = edge_lanes l.edges } in record {
      count : vec_len l.nodes ≡ l.number;
      room : length all ≤ vec_capacity l.nodes;
      parts : machines_in (vec_items l.nodes) ++ into_iter_items l.left ≡ all;
      nodes : (k : ℕ) (d : Linked g.row.M.Denot) → k < l.number → IsLinked view new (ins_at ports l.edges k) (outs_at ports l.edges k) (machine_of (node_at (vec_items l.nodes) k d)) (slice_index_or (vec_items l.nodes) k d);
      seated : (k : ℕ) (d : Linked g.row.M.Denot) → k < l.number → pass_of (node_at (vec_items l.nodes) k d) ≡ new_pass l.cell node_share;
      rest : l.rest ≡ new_pass l.cell (2 ^ 62 - l.number * node_share);
      receivers : (k w : ℕ) → l.number ≤ k → k < length all → IsIn w (ins_at ports l.edges k) → HasNewReceiver new (vec_items l.tables.receivers) w;
      senders : (k w : ℕ) → l.number ≤ k → k < length all → IsIn w (outs_at ports l.edges k) → HasNewSender new (vec_items l.tables.senders) w;
    }
