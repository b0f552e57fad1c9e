use Rattle.std.proofs.Common.{◌≡◌, ◌<◌, ℕ, length, slice_index_or, Option, None}
use Rattle.ff_link.specs.laws.Views.{Sending}
use Rattle.ff_net_threads.proofs.links.room.new_table.Given as goal

abbrev pub invariant-loop : goal.invariant-loop
invariant-loop l = record {
  none : (w : ℕ) (d : Option Sending) → w < length l.table.items → slice_index_or l.table.items w d ≡ None;
  count : length l.table.items ≡ l.counter;
}
