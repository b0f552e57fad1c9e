use Rattle.std.proofs.Common.{◌≡◌, ◌<◌, ◌≤◌, ◌++◌, ◌∷◌, ℕ, false, length, slice_index_or}
use Rattle.ff_stream.specs.declared.item.Item.{Item}
use Rattle.ff_node_codec.specs.declared.ready.Ready.{Ready}
use Rattle.ff_node_codec.specs.laws.Lines.{line_at, next_at, HasRoom, closing_items}
use Rattle.ff_node_codec.specs.laws.Puts.{AreNext}
use Rattle.ff_node_codec.proofs.outs.put_all.Given as goal

abbrev pub invariant-loop-q : goal.invariant-loop-q
invariant-loop-q l = record {
  count : length l.outs.items ≡ length l.fn.outs.items;
  room : (k : ℕ) (d : Ready) → l.q ≤ k → k < length l.outs.items → HasRoom (slice_index_or l.outs.items k d);
  next : (k : ℕ) → l.q ≤ k → next_at l.outs.items k ≡ next_at l.fn.outs.items k;
  lines : (k : ℕ) → l.q ≤ k → line_at l.outs.items k ≡ line_at l.fn.outs.items k;
  stopped : (k : ℕ) → (line_at l.outs.items k).stopped ≡ (line_at l.fn.outs.items k).stopped;
  queues : (made : Item) → AreNext made (length l.fn.outs.items) l.fn.outs.items → (k : ℕ) → k < l.q → (line_at l.fn.outs.items k).stopped ≡ false
      → (line_at l.outs.items k).queue ≡ (line_at l.fn.outs.items k).queue ++ made ∷ closing_items l.fn.after;
}
