use Rattle.std.specs.Prelude.{◌≡◌, ℕ, ◌+◌, ◌<◌, ◌≤◌, get_or, vec_items, vec_len, vec_capacity}
use Rattle.std.specs.Vec.Iter.{into_iter_items, into_iter_len}
use Rattle.ff_net_threads.specs.laws.links.Workers.{Serves}
use Rattle.ff_net_threads.proofs.links.threads.start_all.Given as goal

abbrev pub invariant-loop-node : goal.invariant-loop-node
invariant-loop-node g l = let rest = l.node-iterator in record {
  counted : l.next ≡ vec_len l.workers;
  left : l.next + into_iter_len rest ≡ vec_len l.fn.nodes;
  room : vec_capacity l.initial.workers ≤ vec_capacity l.workers;
  rest : (k : ℕ) (d : _) → k < into_iter_len rest → get_or (into_iter_items rest) k d ≡ get_or (vec_items l.fn.nodes) (l.next + k) d;
  started : (k : ℕ) (d e : _) → k < l.next → Serves g.M.Machine.view (get_or (vec_items l.fn.nodes) k d) (get_or (vec_items l.workers) k e);
}
