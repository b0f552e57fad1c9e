use Rattle.std.specs.Prelude.{◌≡◌, ℕ, ◌+◌, ◌<◌, ◌≤◌, List, get_or, vec_items, vec_len, vec_capacity}
use Rattle.std.specs.Vec.Iter.{into_iter_items, into_iter_len}
use Rattle.ff_net_threads.specs.declared.links.linked.Linked.{Linked}
use Rattle.ff_net_threads.specs.laws.links.Runs.{Ran}
use Rattle.ff_net_threads.specs.laws.links.Workers.{AllServe}
use Rattle.ff_net_threads.proofs.links.threads.finish_all.Given as goal

abbrev pub invariant-loop-worker : goal.invariant-loop-worker
invariant-loop-worker g l = let rest = l.worker-iterator in let n = vec_len l.done in record {
  left : n + into_iter_len rest ≡ vec_len l.fn.workers;
  room : vec_capacity l.initial.done ≤ vec_capacity l.done;
  rest : (k : ℕ) (d : _) → k < into_iter_len rest → get_or (into_iter_items rest) k d ≡ get_or (vec_items l.fn.workers) (n + k) d;
  ran : (ms : List (Linked g.row.M.Denot)) → AllServe g.M.Machine.view ms (vec_items l.fn.workers) → (k : ℕ) (d : _) → k < n → Ran g.M.Machine.view (get_or ms k d) (get_or (vec_items l.done) k d);
}
