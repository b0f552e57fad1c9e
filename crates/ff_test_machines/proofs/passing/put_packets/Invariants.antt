use Rattle.std.proofs.Common.{◌≡◌}
use Rattle.ff_test_machines.specs.Packets.{Sent}
use Rattle.ff_test_machines.proofs.passing.put_packets.Given as goal

abbrev pub invariant-loop-place : goal.invariant-loop-place
invariant-loop-place g l = record {
  link : l.sender.link ≡ l.initial.sender.link;
  sent : Sent l.place l.sender;
}
