use Rattle.std.proofs.Common.{◌≡◌}
use Rattle.ff_test_machines.proofs.passing.put.Given as goal

abbrev pub invariant-loop : goal.invariant-loop
invariant-loop g l = record {
  link : l.sender.link ≡ l.initial.sender.link;
  lane : l.sender.lane ≡ l.initial.sender.lane;
  sent : l.sender.sent ≡ l.initial.sender.sent;
  next : l.next ≡ l.fn.item;
}
