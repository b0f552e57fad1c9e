use Rattle.std.proofs.Common.{◌≡◌, ◌<◌, ℕ, None}
use Rattle.ff_net_threads.specs.laws.links.Ends.{in_end_at}
use Rattle.ff_net_threads.proofs.links.linked.shut_all.Given as goal

abbrev pub invariant-loop-end : goal.invariant-loop-end
invariant-loop-end l = (p : ℕ) → p < l.end-index → (in_end_at l.ins.items p).taking ≡ None
