use Rattle.std.proofs.Common.{◌≡◌, ◌≤◌, length}
use Rattle.ff_net.specs.laws.Serial.{AreOf, AreShaped}
use Rattle.ff_net.specs.laws.Worlds.{lanes_of}
use Rattle.ff_test_machines.specs.Kinds.{relay_view}
use Rattle.ff_test_net.proofs.net.trial.turns.Given as goal

abbrev pub invariant-loop-turn : goal.invariant-loop-turn
invariant-loop-turn g l = record {
  shaped : AreShaped relay_view l.nodes l.wires;
  cell : AreOf relay_view l.cell l.nodes;
  lanes : length (lanes_of l.wires) ≡ 2;
  count : length l.nodes ≡ 1;
  sent : l.sent ≤ l._turn;
  items : l.trial.items ≤ l._turn;
}
