use Rattle.std.proofs.Common.{◌≡◌, ◌<◌, ℕ, false, length}
use Rattle.ff_node_codec.specs.laws.Lines.{line_at, first_items}
use Rattle.ff_node_codec.proofs.spread.Spread.new.Given as goal

abbrev pub invariant-loop-q : goal.invariant-loop-q
invariant-loop-q l = record {
  count : length l.outs.items ≡ l._q;
  lines : (k : ℕ) → k < l._q → line_at l.outs.items k ≡ record { queue = first_items l.fn.over; stopped = false };
}
