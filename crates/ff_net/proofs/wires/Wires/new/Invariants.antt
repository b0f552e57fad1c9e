use Rattle.std.proofs.Common.{All, ◌≡◌, ℕ, ◌<◌, length, slice_index_or}
use Rattle.ff_net.specs.declared.wires.Queue.{Queue}
use Rattle.ff_net.specs.laws.Worlds.{QueueStands, fresh, lanes_in, sizes_in}
use Rattle.ff_net.proofs.wires.Wires.new.Given as goal

abbrev pub invariant-loop-lane : goal.invariant-loop-lane
invariant-loop-lane l = record {
  lanes : lanes_in l.queues.items ≡ l.yielded;
  sizes : All (λ n. n ≡ l.size) (sizes_in l.queues.items);
  each : (w : ℕ) (d : Queue) → w < length l.queues.items → QueueStands (slice_index_or l.queues.items w d) fresh;
}
