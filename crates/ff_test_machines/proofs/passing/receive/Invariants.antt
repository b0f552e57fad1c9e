use Rattle.std.proofs.Common.{◌≡◌, ◌≤◌}
use Rattle.ff_test_machines.proofs.passing.receive.Given as goal

abbrev pub invariant-loop : goal.invariant-loop
invariant-loop g l = record {
  link : l.receiver.link ≡ l.fn.receiver.link;
  place : l.place ≤ l.count;
}
