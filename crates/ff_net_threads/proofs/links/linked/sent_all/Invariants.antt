use Rattle.std.proofs.Common.{◌≡◌, ◌<◌, ℕ, true, slice_index_or}
use Rattle.ff_net_threads.specs.declared.links.ends.OutEnd.{OutEnd}
use Rattle.ff_net_threads.proofs.links.linked.sent_all.Given as goal

abbrev pub invariant-loop-end : goal.invariant-loop-end
invariant-loop-end l = (q : ℕ) (d : OutEnd) → q < l.end-index → (slice_index_or l.outs.items q d).done ≡ true
