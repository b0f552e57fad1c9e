use Rattle.std.proofs.Common.{◌≡◌, ◌<◌, ◌≤◌, ℕ, length, take, vec_len, vec_capacity, slice_index_or, Option}
use Rattle.ff_link.specs.laws.Views.{Receiving}
use Rattle.ff_net.specs.Pasts.{IsIn}
use Rattle.ff_net_threads.specs.laws.links.Nodes.{in_ends_wires}
use Rattle.ff_net_threads.specs.laws.links.Ends.{in_end_at}
use Rattle.ff_net_threads.specs.laws.network.Nodes.{IsNewIn}
use Rattle.ff_net_threads.specs.laws.network.Tables.{NewLinks, HaveNewReceivers}
use Rattle.ff_net_threads.proofs.network.taking.take_ins.Given as goal

abbrev pub invariant-loop-k : goal.invariant-loop-k
invariant-loop-k l = record {
  count : vec_len l.ends ≡ l.k;
  room : length l.wires ≤ vec_capacity l.ends;
  wires_are : in_ends_wires l.ends.items ≡ take l.k l.wires;
  ends : (new : NewLinks) → HaveNewReceivers new l.fn.receivers.items l.wires → (p : ℕ) → p < l.k → IsNewIn new (in_end_at l.ends.items p);
  still : (p : ℕ) (d : Option Receiving) → l.k ≤ p → p < length l.wires → slice_index_or l.receivers.items (slice_index_or l.wires p 0) d ≡ slice_index_or l.fn.receivers.items (slice_index_or l.wires p 0) d;
  kept : (w : ℕ) (d : Option Receiving) → (IsIn w l.wires → ⊥) → slice_index_or l.receivers.items w d ≡ slice_index_or l.fn.receivers.items w d;
  as_many : length l.receivers.items ≡ length l.fn.receivers.items;
}
