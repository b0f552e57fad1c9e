use Rattle.std.proofs.Common.{◌≡◌, ◌<◌, ◌≤◌, ℕ, length, true, false}
use Rattle.ff_net_threads.specs.laws.links.Ends.{in_end_at}
use Rattle.ff_net_threads.specs.laws.links.Nodes.{Follows}
use Rattle.ff_net_threads.specs.laws.links.Turns.{TakesOneAtMost, InMoves, InRests, CannotTake}
use Rattle.ff_net_threads.proofs.links.linked.Linked.draw_all.Given as goal

abbrev pub invariant-loop-p : goal.invariant-loop-p
invariant-loop-p g l =
    let view = g.M.Machine.view in record {
      follows : Follows view l.fn.self l.self;
      count : l.count ≡ length l.self.ins.items;
      node : l.self.node ≡ l.fn.self.node;
      outs : l.self.outs ≡ l.fn.self.outs;
      takes : (k : ℕ) → TakesOneAtMost (in_end_at l.fn.self.ins.items k) (in_end_at l.self.ins.items k);
      later : (k : ℕ) → l.p ≤ k → in_end_at l.self.ins.items k ≡ in_end_at l.fn.self.ins.items k;
      moved : l.moved ≡ true → (k : ℕ) × (k < l.p) × InMoves (in_end_at l.fn.self.ins.items k) (in_end_at l.self.ins.items k);
      why : l.moved ≡ false → (k : ℕ) → k < l.p → CannotTake l.fn.self.wires (in_end_at l.fn.self.ins.items k) (in_end_at l.self.ins.items k);
      counts : l.count ≡ length l.fn.self.ins.items;
      still : l.moved ≡ false → ((k : ℕ) → InRests (in_end_at l.fn.self.ins.items k) (in_end_at l.self.ins.items k)) × (l.self.wires ≡ l.fn.self.wires);
    }
