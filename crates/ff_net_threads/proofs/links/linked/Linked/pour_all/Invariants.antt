use Rattle.std.proofs.Common.{◌≡◌, ◌<◌, ◌≤◌, ℕ, length, true, false, slice_index_or}
use Rattle.ff_net_threads.specs.declared.links.ends.OutEnd.{OutEnd}
use Rattle.ff_net_threads.specs.laws.links.Nodes.{Follows}
use Rattle.ff_net_threads.specs.laws.links.Turns.{SendsOneAtMost, OutMoves, OutRests, CannotSend}
use Rattle.ff_net_threads.proofs.links.linked.Linked.pour_all.Given as goal

abbrev pub invariant-loop-q : goal.invariant-loop-q
invariant-loop-q g l =
    let view = g.M.Machine.view in record {
      follows : Follows view l.fn.self l.self;
      count : l.count ≡ length l.self.outs.items;
      node : l.self.node ≡ l.fn.self.node;
      ins : l.self.ins ≡ l.fn.self.ins;
      sends : (k : ℕ) (d : OutEnd) → SendsOneAtMost (slice_index_or l.fn.self.outs.items k d) (slice_index_or l.self.outs.items k d);
      later : (k : ℕ) (d : OutEnd) → l.q ≤ k → slice_index_or l.self.outs.items k d ≡ slice_index_or l.fn.self.outs.items k d;
      moved : l.moved ≡ true → (k : ℕ) × (k < l.q) × ((d : OutEnd) → OutMoves (slice_index_or l.fn.self.outs.items k d) (slice_index_or l.self.outs.items k d));
      why : l.moved ≡ false → (k : ℕ) (d : OutEnd) → k < l.q → CannotSend l.fn.self.wires (slice_index_or l.fn.self.outs.items k d) (slice_index_or l.self.outs.items k d);
      counts : l.count ≡ length l.fn.self.outs.items;
      still : l.moved ≡ false → ((k : ℕ) (d : OutEnd) → OutRests (slice_index_or l.fn.self.outs.items k d) (slice_index_or l.self.outs.items k d)) × (l.self.wires ≡ l.fn.self.wires);
    }
