use Rattle.std.proofs.Common.{◌≡◌, ◌+◌, ◌++◌, ◌≤◌, ◌<◌, ℕ, length, slice_index_or, vec_items, vec_len, vec_capacity}
use Rattle.std.specs.Vec.Iter.{into_iter_items, into_iter_len}
use Rattle.ff_link.specs.laws.Views.{Link}
use Rattle.ff_net.specs.Pasts.{IsIn}
use Rattle.ff_net.specs.laws.Nodes.{machine_of}
use Rattle.ff_net_threads.specs.declared.links.linked.Linked.{Linked}
use Rattle.ff_net_threads.specs.laws.links.Ends.{in_end_at}
use Rattle.ff_net_threads.specs.laws.links.Nodes.{in_ends_wires, out_ends_wires, node_of, ins_of, outs_of}
use Rattle.ff_net_threads.specs.laws.links.Settling.{HasSender, ComeAfter, IsTable, IsSettled, AreLinked, ends_of, passes_in}
use Rattle.ff_net_threads.proofs.links.settling.settle_in.Given as goal

abbrev pub invariant-loop-linked : goal.invariant-loop-linked
invariant-loop-linked g l = let rest = l.linked-iterator in let n = vec_len l.machines in let all = vec_items l.fn.nodes in record {
  left : n + into_iter_len rest ≡ vec_len l.fn.nodes;
  room : vec_capacity l.initial.machines ≤ vec_capacity l.machines;
  passes_room : vec_capacity l.initial.passes ≤ vec_capacity l.passes;
  as_many : vec_len l.passes ≡ n;
  passes : vec_items l.passes ++ passes_in (into_iter_items rest) ≡ passes_in all;
  rest : (k : ℕ) (d : Linked g.row.M.Denot) → k < into_iter_len rest → slice_index_or (into_iter_items rest) k d ≡ slice_index_or all (n + k) d;
  machines : (k : ℕ) (d : Linked g.row.M.Denot) (e : g.row.M.Denot) → k < n → slice_index_or (vec_items l.machines) k e ≡ machine_of (node_of (slice_index_or all k d));
  table : (links : ℕ → Link) → AreLinked links all → IsTable (ends_of all) links l.table.items;
  count : length l.table.items ≡ length l.initial.table.items;
  senders : ComeAfter (length l.initial.table.items) all → (j w : ℕ) (d : Linked g.row.M.Denot) → j < n → w < length l.initial.table.items → IsIn w (out_ends_wires (outs_of (slice_index_or all j d))) → ((k : ℕ) → k < n → IsIn w (in_ends_wires (ins_of (slice_index_or all k d))) → ⊥) → HasSender l.table.items w;
  places : length l.settled.items ≡ length l.table.items;
  settled : ComeAfter (length l.initial.table.items) all → (links : ℕ → Link) → AreLinked links all → (k p : ℕ) (d : Linked g.row.M.Denot) → k < n → p < length (ins_of (slice_index_or all k d)) → IsSettled (ends_of all) l.settled.items (in_end_at (ins_of (slice_index_or all k d)) p);
}
