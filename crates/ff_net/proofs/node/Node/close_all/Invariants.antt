use Rattle.std.proofs.Common.{◌≡◌, ◌<◌, ℕ, length, true, false}
use Rattle.ff_net.specs.laws.Nodes.{IsShaped, IsSame, IsSound}
use Rattle.ff_net.specs.laws.Ports.{in_at, AreDone}
use Rattle.ff_net.specs.laws.Steps.{Stepped, Acts}
use Rattle.ff_net.proofs.node.Node.close_all.Given as goal

abbrev pub invariant-loop-p : goal.invariant-loop-p
invariant-loop-p g l =
    let view = g.M.Machine.view in record {
      shaped : IsShaped view l.self l.wires;
      count : l.count ≡ length l.self.ins.items;
      stepped : Stepped view (Acts (l.moved ≡ true) (Unit {0})) l.fn.self l.fn.wires l.self l.wires;
      pass : l.self.pass ≡ l.fn.self.pass;
      same : l.moved ≡ false → IsSame l.fn.self l.self × (l.wires ≡ l.fn.wires);
      machine : l.self.machine ≡ l.fn.self.machine;
      outs : l.self.outs ≡ l.fn.self.outs;
      refused : l.self.refused ≡ l.fn.self.refused;
      spent : (q : ℕ) → q < l.p → (view l.self.machine).spent q → (in_at l.self.ins.items q).done ≡ true;
      broken : (IsSound view l.self → ⊥) → (q : ℕ) → q < l.p → (in_at l.self.ins.items q).done ≡ true;
      done : 0 < length l.self.outs.items → AreDone l.self.outs.items → (q : ℕ) → q < l.p → (in_at l.self.ins.items q).done ≡ true;
    }
