use Rattle.std.proofs.Common.{◌≡◌, ◌<◌, ℕ, length, true, false}
use Rattle.ff_net.specs.laws.Nodes.{IsShaped}
use Rattle.ff_net.specs.laws.Ports.{out_at}
use Rattle.ff_net.specs.laws.Steps.{Stepped, Acts}
use Rattle.ff_net.specs.laws.Worlds.{Wire, Stand}
use Rattle.ff_net.proofs.node.Node.stop_all.Given as goal

abbrev pub invariant-loop-p : goal.invariant-loop-p
invariant-loop-p g l =
    let view = g.M.Machine.view in record {
      shaped : IsShaped view l.self l.fn.wires;
      count : l.count ≡ length l.self.outs.items;
      stepped : Stepped view (Acts (l.stopped ≡ true) (Unit {0})) l.fn.self l.fn.wires l.self l.fn.wires;
      pass : l.self.pass ≡ l.fn.self.pass;
      same : l.stopped ≡ false → l.self ≡ l.fn.self;
      wires : (q : ℕ) → (out_at l.self.outs.items q).wire ≡ (out_at l.fn.self.outs.items q).wire;
      stops : (world : ℕ → Wire) → Stand l.fn.wires world → (q : ℕ) → q < l.p → (world (out_at l.fn.self.outs.items q).wire).finished ≡ true → (out_at l.self.outs.items q).done ≡ true;
    }
