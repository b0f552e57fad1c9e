use Rattle.std.proofs.Common.{◌≡◌, ◌+◌, ◌<◌, ℕ, List, length, slice_index_or, vec_items, vec_len}
use Rattle.std.specs.Vec.Iter.{into_iter_items, into_iter_len}
use Rattle.ff_link.specs.laws.Views.{Link}
use Rattle.ff_link.specs.declared.answers.Settled.{Settled}
use Rattle.ff_net.specs.laws.Nodes.{AreApart}
use Rattle.ff_net.specs.Pasts.{IsIn}
use Rattle.ff_net_threads.specs.declared.links.ends.InEnd.{InEnd}
use Rattle.ff_net_threads.specs.declared.links.ends.OutEnd.{OutEnd}
use Rattle.ff_net_threads.specs.laws.links.Ends.{in_end_at}
use Rattle.ff_net_threads.specs.laws.links.Nodes.{in_ends_wires}
use Rattle.ff_net_threads.specs.laws.links.Settling.{IsTable, IsSettled, HasSender}
use Rattle.ff_net_threads.proofs.links.settling.settle_ends.Given as goal

abbrev pub invariant-loop-end : goal.invariant-loop-end
invariant-loop-end l = let rest = l.end-iterator in record {
  left : l.next + into_iter_len rest ≡ vec_len l.fn.ends;
  rest : (k : ℕ) (d : InEnd) → k < into_iter_len rest → slice_index_or (into_iter_items rest) k d ≡ slice_index_or (vec_items l.fn.ends) (l.next + k) d;
  table : (all : List (List OutEnd)) (links : ℕ → Link) → IsTable all links l.initial.table.items → IsTable all links l.table.items;
  count : length l.table.items ≡ length l.initial.table.items;
  kept : (w : ℕ) → ((p : ℕ) → p < l.next → (in_end_at (vec_items l.fn.ends) p).wire ≡ w → ⊥) → HasSender l.initial.table.items w → HasSender l.table.items w;
  places : length l.settled.items ≡ length l.initial.settled.items;
  others : (w : ℕ) (d : Settled) → ((p : ℕ) → p < l.next → (in_end_at (vec_items l.fn.ends) p).wire ≡ w → ⊥) → slice_index_or l.settled.items w d ≡ slice_index_or l.initial.settled.items w d;
  settled : AreApart (in_ends_wires (vec_items l.fn.ends)) → ((w : ℕ) → IsIn w (in_ends_wires (vec_items l.fn.ends)) → HasSender l.initial.table.items w) → (all : List (List OutEnd)) (links : ℕ → Link) → IsTable all links l.initial.table.items → (p : ℕ) → p < l.next
      → IsSettled all l.settled.items (in_end_at (vec_items l.fn.ends) p);
}
