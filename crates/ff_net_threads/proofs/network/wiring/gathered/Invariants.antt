use Rattle.std.proofs.Common.{◌≡◌, ◌≤◌, ◌+◌, ◌++◌, ◌∷◌, vec_items, vec_len, vec_capacity}
use Rattle.std.specs.Vec.Iter.{into_iter_items, into_iter_len}
use Rattle.ff_net_threads.specs.laws.network.Networks.{machines_in}
use Rattle.ff_net_threads.proofs.network.wiring.gathered.Given as goal

abbrev pub invariant-loop-machine : goal.invariant-loop-machine
invariant-loop-machine g l = record {
  parts : vec_items l.machines ++ into_iter_items l.machine-iterator ≡ machines_in (vec_items l.fn.nodes) ++ l.fn.next ∷ into_iter_items l.fn.left;
  room : vec_len l.machines + into_iter_len l.machine-iterator ≤ vec_capacity l.machines;
}
