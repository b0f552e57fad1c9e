use Rattle.std.proofs.Common.{◌≡◌, ◌+◌, ◌<◌, ℕ, List, length, slice_index_or, vec_items, vec_len, Some}
use Rattle.std.specs.Vec.Iter.{into_iter_items, into_iter_len}
use Rattle.ff_link.specs.laws.Views.{Link}
use Rattle.ff_net_threads.specs.declared.links.ends.OutEnd.{OutEnd}
use Rattle.ff_net_threads.specs.laws.links.Ends.{out_link}
use Rattle.ff_net_threads.specs.laws.links.Settling.{IsTable, HasSender, IsSenderIn}
use Rattle.ff_net_threads.proofs.links.settling.store_ends.Given as goal

abbrev pub invariant-loop-end : goal.invariant-loop-end
invariant-loop-end l = let rest = l.end-iterator in record {
  left : l.next + into_iter_len rest ≡ vec_len l.fn.ends;
  rest : (k : ℕ) (d : OutEnd) → k < into_iter_len rest → slice_index_or (into_iter_items rest) k d ≡ slice_index_or (vec_items l.fn.ends) (l.next + k) d;
  table : (all : List (List OutEnd)) (links : ℕ → Link) → IsTable all links l.initial.table.items
      → ((q : ℕ) (d : OutEnd) → q < length (vec_items l.fn.ends) → IsSenderIn all (slice_index_or (vec_items l.fn.ends) q d).wire (slice_index_or (vec_items l.fn.ends) q d).sender × (out_link (slice_index_or (vec_items l.fn.ends) q d) ≡ Some (links (slice_index_or (vec_items l.fn.ends) q d).wire)))
      → IsTable all links l.table.items;
  count : length l.table.items ≡ length l.initial.table.items;
  kept : (w : ℕ) → HasSender l.initial.table.items w → HasSender l.table.items w;
  stored : (q : ℕ) (d : OutEnd) → q < l.next → (slice_index_or (vec_items l.fn.ends) q d).wire < length l.initial.table.items → HasSender l.table.items (slice_index_or (vec_items l.fn.ends) q d).wire;
}
