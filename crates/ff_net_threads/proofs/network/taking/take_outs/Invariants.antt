use Rattle.std.proofs.Common.{◌≡◌, ◌<◌, ◌≤◌, ℕ, length, take, vec_len, vec_capacity, slice_index_or, Option}
use Rattle.ff_link.specs.laws.Views.{Sending}
use Rattle.ff_net.specs.Pasts.{IsIn}
use Rattle.ff_net_threads.specs.laws.links.Nodes.{out_ends_wires}
use Rattle.ff_net_threads.specs.declared.links.ends.OutEnd.{OutEnd}
use Rattle.ff_net_threads.specs.laws.network.Nodes.{IsNewOut}
use Rattle.ff_net_threads.specs.laws.network.Tables.{NewLinks, HaveNewSenders}
use Rattle.ff_net_threads.proofs.network.taking.take_outs.Given as goal

abbrev pub invariant-loop-k : goal.invariant-loop-k
invariant-loop-k l = record {
  count : vec_len l.ends ≡ l.k;
  room : length l.wires ≤ vec_capacity l.ends;
  wires_are : out_ends_wires l.ends.items ≡ take l.k l.wires;
  ends : (new : NewLinks) → HaveNewSenders new l.fn.senders.items l.wires → (p : ℕ) (d : OutEnd) → p < l.k → IsNewOut new (slice_index_or l.ends.items p d);
  still : (p : ℕ) (d : Option Sending) → l.k ≤ p → p < length l.wires → slice_index_or l.senders.items (slice_index_or l.wires p 0) d ≡ slice_index_or l.fn.senders.items (slice_index_or l.wires p 0) d;
  kept : (w : ℕ) (d : Option Sending) → (IsIn w l.wires → ⊥) → slice_index_or l.senders.items w d ≡ slice_index_or l.fn.senders.items w d;
  as_many : length l.senders.items ≡ length l.fn.senders.items;
}
