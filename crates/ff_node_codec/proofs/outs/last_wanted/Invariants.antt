use Rattle.std.proofs.Common.{◌≡◌, ◌<◌, ℕ, true, false, Some, None}
use Rattle.ff_node_codec.specs.laws.Lines.{line_at}
use Rattle.ff_node_codec.specs.Spreads.{AllStopped}
use Rattle.ff_node_codec.proofs.outs.last_wanted.Given as goal

abbrev pub invariant-loop-q : goal.invariant-loop-q
invariant-loop-q l = record {
  none : l.last ≡ None → AllStopped l.q (line_at l.outs.items);
  some : (k : ℕ) → l.last ≡ Some k
      → (k < l.q) × ((line_at l.outs.items k).stopped ≡ false) × ((j : ℕ) → k < j → j < l.q → (line_at l.outs.items j).stopped ≡ true);
}
