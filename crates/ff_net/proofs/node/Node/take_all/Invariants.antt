use Rattle.std.proofs.Common.{◌≡◌, ◌<◌, ℕ, length, true, false}
use Rattle.ff_net.specs.laws.Nodes.{IsShaped, IsSame}
use Rattle.ff_net.specs.laws.Ports.{in_at}
use Rattle.ff_net.specs.laws.Steps.{Stepped, Acts}
use Rattle.ff_net.specs.laws.Worlds.{IsEmpty}
use Rattle.ff_net.proofs.node.Node.take_all.Given as goal

abbrev pub invariant-loop-p : goal.invariant-loop-p
invariant-loop-p g l =
    let view = g.M.Machine.view in record {
      shaped : IsShaped view l.self l.wires;
      count : l.count ≡ length l.self.ins.items;
      stepped : Stepped view (Acts (l.moved ≡ true) (⊥)) l.fn.self l.fn.wires l.self l.wires;
      pass : l.self.pass ≡ l.fn.self.pass;
      same : l.moved ≡ false → IsSame l.fn.self l.self × (l.wires ≡ l.fn.wires);
      empty : l.moved ≡ false → l.fn.self.refused ≡ false → (q : ℕ) → q < l.p → (in_at l.fn.self.ins.items q).done ≡ false → IsEmpty l.fn.wires (in_at l.fn.self.ins.items q).wire;
    }
