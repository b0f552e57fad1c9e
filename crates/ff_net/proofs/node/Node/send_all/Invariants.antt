use Rattle.std.proofs.Common.{◌≡◌, ◌<◌, ℕ, length, true, false, is_some}
use Rattle.ff_net.specs.laws.Nodes.{IsShaped, IsSame}
use Rattle.ff_net.specs.laws.Ports.{out_at}
use Rattle.ff_net.specs.laws.Steps.{Stepped, Acts}
use Rattle.ff_net.specs.laws.Worlds.{IsFull}
use Rattle.ff_net.proofs.node.Node.send_all.Given as goal

abbrev pub invariant-loop-p : goal.invariant-loop-p
invariant-loop-p g l =
    let view = g.M.Machine.view in record {
      shaped : IsShaped view l.self l.wires;
      count : l.count ≡ length l.self.outs.items;
      stepped : Stepped view (Acts (l.moved ≡ true) (Unit {0})) l.fn.self l.fn.wires l.self l.wires;
      pass : l.self.pass ≡ l.fn.self.pass;
      same : l.moved ≡ false → IsSame l.fn.self l.self × (l.wires ≡ l.fn.wires);
      full : l.moved ≡ false → (q : ℕ) → q < l.p → (out_at l.fn.self.outs.items q).done ≡ false → is_some (out_at l.fn.self.outs.items q).held ≡ true → IsFull l.fn.wires (out_at l.fn.self.outs.items q).wire;
    }
