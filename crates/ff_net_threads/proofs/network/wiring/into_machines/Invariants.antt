use Rattle.std.proofs.Common.{◌≡◌, ◌≤◌, ◌+◌, ◌++◌, vec_items, vec_len, vec_capacity}
use Rattle.std.specs.Vec.Iter.{into_iter_items, into_iter_len}
use Rattle.ff_net_threads.specs.laws.network.Networks.{machines_in}
use Rattle.ff_net_threads.proofs.network.wiring.into_machines.Given as goal

abbrev pub invariant-loop-node : goal.invariant-loop-node
invariant-loop-node g l = record {
  parts : vec_items l.machines ++ machines_in (into_iter_items l.node-iterator) ≡ machines_in (vec_items l.fn.nodes);
  room : vec_len l.machines + into_iter_len l.node-iterator ≤ vec_capacity l.machines;
  kept : vec_capacity l.initial.machines ≤ vec_capacity l.machines;
}
