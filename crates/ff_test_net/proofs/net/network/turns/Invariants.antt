use Rattle.std.proofs.Common.{◌≡◌, length}
use Rattle.ff_net.specs.laws.Serial.{AreOf, AreShaped}
use Rattle.ff_test_machines.specs.Plains.{plain_view}
use Rattle.ff_test_net.proofs.net.network.turns.Given as goal

abbrev pub invariant-loop-number : goal.invariant-loop-number
invariant-loop-number g l = record {
  shaped : AreShaped plain_view l.nodes l.wires;
  cell : AreOf plain_view l.cell l.nodes;
  count : length l.nodes ≡ 5;
}
