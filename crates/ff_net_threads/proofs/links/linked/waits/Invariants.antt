use Rattle.std.proofs.Common.{◌<◌, ℕ, slice_index_or}
use Rattle.ff_net_threads.specs.declared.links.ends.OutEnd.{OutEnd}
use Rattle.ff_net_threads.specs.laws.links.Turns.{IsWaiting}
use Rattle.ff_net_threads.proofs.links.linked.waits.Given as goal

abbrev pub invariant-loop-end : goal.invariant-loop-end
invariant-loop-end l = (q : ℕ) (d : OutEnd) → q < l.end-index → IsWaiting l.wires (slice_index_or l.outs.items q d) → ⊥
