use Rattle.std.proofs.Common.{◌≡◌, ◌<◌, ◌⊎◌, length, true, false}
use Rattle.ff_net.specs.declared.wires.Wires.{Wires}
use Rattle.ff_net.specs.laws.Logs.{PassStep, tickets_in}
use Rattle.ff_net.specs.laws.Nodes.{IsOf, IsSound}
use Rattle.ff_net.specs.laws.Ports.{AreFinished}
use Rattle.ff_net.specs.laws.Steps.{Stepped, Tells}
use Rattle.ff_net.proofs.node.Node.tell_all.Given as goal

abbrev pub invariant-loop-passed : goal.invariant-loop-passed
invariant-loop-passed g l =
    let view = g.M.Machine.view in record {
      cell : IsOf view l.fn.cell l.self;
      stepped : (wires : Wires) → Stepped view Tells l.fn.self wires l.self wires;
      outs : l.self.outs ≡ l.fn.self.outs;
      ins : l.self.ins ≡ l.fn.self.ins;
      sound : IsSound view l.self → IsSound view l.fn.self;
      source : (view l.self.machine).source ≡ (view l.fn.self.machine).source;
      passes : PassStep l.fn.self.pass l.self.pass;
      tickets : tickets_in l.self.pass.log ≡ tickets_in l.fn.self.pass.log;
      longer : l.told ≡ true → length l.fn.self.pass.log < length l.self.pass.log;
      still : l.told ≡ false → l.self.pass ≡ record l.fn.self.pass { spare = l.self.pass.spare };
      ended : l.told ≡ false → AreFinished l.self.ins.items → (l.self.quiet ≡ true) ⊎ (l.self.refused ≡ true);
    }
