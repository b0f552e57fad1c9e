use Rattle.std.proofs.Common.{◌≡◌}
use Rattle.ff_test_machines.specs.Packets.{byte_packets}
use Rattle.ff_test_net.proofs.net.node.packets.Given as goal

abbrev pub invariant-loop-place : goal.invariant-loop-place
invariant-loop-place l = l.items.items ≡ byte_packets l.place
