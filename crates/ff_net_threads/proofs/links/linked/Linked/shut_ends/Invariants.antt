use Rattle.std.proofs.Common.{◌≡◌, ◌<◌, ◌≤◌, ℕ, length, true, false, None}
use Rattle.ff_net.specs.laws.Worlds.{Wire, Stand}
use Rattle.ff_net_threads.specs.laws.links.Ends.{in_end_at}
use Rattle.ff_net_threads.specs.laws.links.Nodes.{Follows}
use Rattle.ff_net_threads.specs.laws.links.Turns.{Shuts, InMoves}
use Rattle.ff_net_threads.proofs.links.linked.Linked.shut_ends.Given as goal

abbrev pub invariant-loop-p : goal.invariant-loop-p
invariant-loop-p g l =
    let view = g.M.Machine.view in record {
      follows : Follows view l.fn.self l.self;
      count : l.count ≡ length l.self.ins.items;
      counts : l.count ≡ length l.fn.self.ins.items;
      node : l.self.node ≡ l.fn.self.node;
      outs : l.self.outs ≡ l.fn.self.outs;
      wires : l.self.wires ≡ l.fn.self.wires;
      shuts : (k : ℕ) → Shuts (in_end_at l.fn.self.ins.items k) (in_end_at l.self.ins.items k);
      later : (k : ℕ) → l.p ≤ k → in_end_at l.self.ins.items k ≡ in_end_at l.fn.self.ins.items k;
      moved : l.moved ≡ true → (k : ℕ) × (k < l.p) × InMoves (in_end_at l.fn.self.ins.items k) (in_end_at l.self.ins.items k);
      still : l.moved ≡ false → (k : ℕ) → in_end_at l.self.ins.items k ≡ in_end_at l.fn.self.ins.items k;
      shut : (world : ℕ → Wire) → Stand l.fn.self.wires world → (k : ℕ) → k < l.p → (world (in_end_at l.fn.self.ins.items k).wire).finished ≡ true → (in_end_at l.self.ins.items k).taking ≡ None;
    }
