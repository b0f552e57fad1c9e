use Rattle.std.proofs.Common.{◌≡◌, ℕ}
use Rattle.ff_net.specs.Pasts.{Task}
use Rattle.ff_net.specs.laws.Serial.{AllPass, AreOf, AreShaped, NetStands, parts_of}
use Rattle.ff_net.specs.laws.Theorem.{AllFare}
use Rattle.ff_net.specs.laws.Worlds.{lanes_of}
use Rattle.ff_net.proofs.serial.run_serial.Given as goal

abbrev pub invariant-loop-k : goal.invariant-loop-k
invariant-loop-k g l =
    let view = g.M.Machine.view in record {
      shaped : AreShaped view l.nodes l.wires;
      of_cell : AreOf view l.fn.cell l.nodes;
      passes : AllPass l.fn.nodes l.nodes;
      lanes : lanes_of l.wires ≡ lanes_of l.fn.wires;
      parts : (tasks : ℕ → Task) → parts_of view tasks l.nodes ≡ parts_of view tasks l.fn.nodes;
      fares : AllFare view l.fn.nodes l.nodes;
      stands : (tasks : ℕ → Task) → NetStands view tasks l.fn.nodes l.fn.wires → NetStands view tasks l.nodes l.wires;
    }
